use Rattle.slot_codec.proofs.ReadLogLaws.{log_then}
use Rattle.slot_codec.proofs.laws.an_appended_entry_is_read_or_not.Goals as goal

pub returns : goal.returns
returns c = λ cap top a b at x y end e in_a in_b read same entry text few few_cap.
    log_then cap top a b at x y end e in_a in_b read same
    record { entry = entry; text = text; few = few; few_cap = few_cap }
