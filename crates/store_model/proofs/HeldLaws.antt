-- What the guard and the ledger are told when an object goes or comes.
use Rattle.std.specs.Prelude.{◌≡◌, ◌==◌, Bool, true, ◌&&◌}
use Rattle.std.proofs.Common.{sym, ◌∙◌}
use Rattle.std.proofs.lemmas.Bool.{and_parts, eqb-true}
use Rattle.extent_table.specs.declared.spot.Spot.{Spot}

-- spots that are equal by their numbers are one
pub same_spot : (a b : Spot) (test : Bool) → test ≡ (a.place == b.place) && (a.size == b.size) → test ≡ true
    → a ≡ b
same_spot a b test is passed =
    let both = and_parts (a.place == b.place) (a.size == b.size) (sym is ∙ passed) in
    λ i. record { place = eqb-true a.place b.place both.0 i; size = eqb-true a.size b.size both.1 i }
