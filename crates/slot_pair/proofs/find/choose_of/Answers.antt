use Rattle.std.proofs.Common.{rules}
use Rattle.slot_pair.proofs.FindingLaws.{Refuses-formatted}
use Rattle.slot_pair.proofs.find.choose_of.Goals as goal

pub returns-in_err-block-clause-refused : goal.returns-in_err-block-clause-refused
returns-in_err-block-clause-refused g c = λ told. let h =
    Refuses-formatted _ _ _ (c.in_err-block.ensures.refused told) in search rules
