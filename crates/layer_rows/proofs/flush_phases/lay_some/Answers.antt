use Rattle.std.proofs.Common.{arith, refl, sym, subst}
use Rattle.std.proofs.lemmas.List.Sorted.{Contains-permutation}
use Rattle.segment_layout.specs.Layouts.{divisor_of}
use Rattle.flush_model.specs.Plans.{mover}
use Rattle.layer_rows.specs.Listed.{LaysList}
use Rattle.layer_rows.proofs.ListedLaws.{are_listed, lays_on, moved_on}
use Rattle.layer_rows.proofs.flush_phases.lay_some.Goals as goal

pub next-requires : goal.next-requires
next-requires g c = (omega arith, (c.lays.invariant.items, lays_on c.lays.invariant))

pub relocate-requires-clause-items : goal.relocate-requires-clause-items
relocate-requires-clause-items g c = are_listed c.lays.invariant c.lays.invariant.keeps.laying.packing.items

pub relocate-requires-clause-has : goal.relocate-requires-clause-has
relocate-requires-clause-has g c =
    let h = c.lays.invariant in
    Contains-permutation h.items c.lays.shelf.items.items (mover c.in-Some.mv) h.same
    (c.in-Some.ensures.step h.items (lays_on h)).item.has

pub lays-preserved : goal.lays-preserved
lays-preserved g c =
    let h = c.lays.invariant in
    moved_on h c.in-Some.mv c.in-Some.ensures.course (c.in-Some.ensures.keeps h.items (lays_on h))
    c.relocate.ensures.same c.relocate.ensures.rising

pub returns-in-None : goal.returns-in-None
returns-in-None g c =
    subst (λ v. LaysList g.row.C (divisor_of c.args.layout.now) v c.lays.shelf.items.items)
    (sym (c.in-None.ensures.same refl)) c.lays.invariant

pub returns : goal.returns
returns g c = c.lays.invariant
