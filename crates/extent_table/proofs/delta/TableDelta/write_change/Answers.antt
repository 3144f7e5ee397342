use Rattle.std.proofs.Common.{Some, option_map, length, refl, sym, ap, ◌∙◌}
use Rattle.std.proofs.lemmas.Option.{same_Some}
use Rattle.slot_codec.specs.Changes.{change_len, kind_of_change}
use Rattle.slot_codec.proofs.CapLaws.{record_len-long}
use Rattle.extent_table.specs.Told.{told}
use Rattle.extent_table.proofs.delta.TableDelta.write_change.Goals as goal

pub write_record-requires-clause-len : goal.write_record-requires-clause-len
write_record-requires-clause-len c =
    let is_put = c.change.ensures ∙ ap (λ t. Some (told t)) c.in-Put.is in
    let long = ap (option_map (λ x. change_len (kind_of_change x))) is_put in
    same_Some (length c.args.out.now) 112 (sym c.requires.len ∙ long) ∙ sym (record_len-long 2 refl)
