use Rattle.std.proofs.Common.{arith, refl, sym, subst, ◌∙◌}
use Rattle.std.proofs.lemmas.List.Sorted.{Contains-permutation}
use Rattle.flush_model.specs.Phases.{IsLifted}
use Rattle.flush_model.specs.Plans.{mover}
use Rattle.flush_plan.specs.Shelves.{phase_on}
use Rattle.flush_plan.specs.Lifts.{KeepsLifting, Lift}
use Rattle.layer_rows.proofs.ListedLaws.{are_listed, handed_on, lifts_on, moved_on}
use Rattle.layer_rows.proofs.flush_phases.lift_all.Goals as goal

pub next-requires : goal.next-requires
next-requires g c = (omega arith, (c.lifts.invariant.items, lifts_on c.lifts.invariant))

pub relocate-requires-clause-items : goal.relocate-requires-clause-items
relocate-requires-clause-items g c = are_listed c.lifts.invariant c.lifts.invariant.keeps.lifting.items

pub relocate-requires-clause-has : goal.relocate-requires-clause-has
relocate-requires-clause-has g c =
    let h = c.lifts.invariant in
    Contains-permutation h.items c.lifts.shelf.items.items (mover c.in-Some.mv) h.same
    (c.in-Some.ensures.step h.items (lifts_on h)).item.has

pub lifts-preserved : goal.lifts-preserved
lifts-preserved g c =
    let h = c.lifts.invariant in
    moved_on h c.in-Some.mv c.in-Some.ensures.course (c.in-Some.ensures.keeps h.items (lifts_on h))
    c.relocate.ensures.same c.relocate.ensures.rising

pub returns-in-None : goal.returns-in-None
returns-in-None g c =
    let h = c.lifts.invariant in
    let same = sym (c.in-None.ensures.same refl) in
    handed_on h (c.into_packing.ensures.course ∙ c.in-None.ensures.course)
    (c.into_packing.ensures.keeps h.items (subst (λ u. KeepsLifting g.row.C u h.items) same h.keeps)
    (subst (λ (u : Lift). IsLifted (phase_on u.course h.items)) same
    ((c.in-None.ensures.end h.items (lifts_on h)).0 refl)))
