use Rattle.std.proofs.Common.{◌∙◌, ap, sym, refl, Some}
use Rattle.extent_table.specs.declared.spot.Spot.{Spot}
use Rattle.placement_model.proofs.FreedLaws.{frees_joined}
use Rattle.store_model.proofs.HeldLaws.{same_spot}
use Rattle.store_core.proofs.held.free_spot.Goals as goal

pub freed-requires-clause-apart : goal.freed-requires-clause-apart
freed-requires-clause-apart c =
    let s = c.in-Some-Some.spot in
    let same = same_spot s c.in-Some-Some.held c.eq.result c.eq.ensures c.if-eq.true in
    let free = c.requires s c.in-Some-Some.is-0
    (c.in-Some-Some.is-1 ∙ ap (λ (x : Spot). Some x) (sym same)) in
    free.apart (record { place = s.place; size = s.size; fits = free.fits }) (refl, refl)

pub returns-then-eq-clause-freed : goal.returns-then-eq-clause-freed
returns-then-eq-clause-freed c =
    let s = c.in-Some-Some.spot in
    let same = same_spot s c.in-Some-Some.held c.eq.result c.eq.ensures c.if-eq.true in
    frees_joined _ _ _ _ s _ c.in-Some-Some.is-0
    (c.in-Some-Some.is-1 ∙ ap (λ (x : Spot). Some x) (sym same)) (refl, refl) c.freed.ensures.joins
    c.freed.ensures.empty
