use Rattle.std.proofs.Common.{ℕ, ap, length, ◌∙◌}
use Rattle.std.proofs.lemmas.List.{take-replicate}
use Rattle.std.specs.Str.{bytes_eq}
use Rattle.slot_codec.proofs.PartLaws.{equal_zeros}
use Rattle.slot_codec.proofs.fields.are_zeros.Goals as goal

pub returns : goal.returns
returns c =
    let bytes = c.args.bytes.now in
    c.eq.ensures ∙ ap (bytes_eq bytes) (take-replicate {X = ℕ} (length bytes) 64 0 c.requires)
    ∙ equal_zeros bytes
