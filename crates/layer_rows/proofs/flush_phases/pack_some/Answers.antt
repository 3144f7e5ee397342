use Rattle.std.proofs.Common.{arith, refl, sym, subst}
use Rattle.std.proofs.lemmas.List.Sorted.{Contains-permutation}
use Rattle.segment_layout.specs.Layouts.{divisor_of}
use Rattle.flush_model.specs.Plans.{mover}
use Rattle.layer_rows.specs.Listed.{PacksList}
use Rattle.layer_rows.proofs.ListedLaws.{are_listed, moved_on, packs_on}
use Rattle.layer_rows.proofs.flush_phases.pack_some.Goals as goal

pub next-requires : goal.next-requires
next-requires g c = (omega arith, (c.packs.invariant.items, packs_on c.packs.invariant))

pub relocate-requires-clause-items : goal.relocate-requires-clause-items
relocate-requires-clause-items g c = are_listed c.packs.invariant c.packs.invariant.keeps.packing.items

pub relocate-requires-clause-has : goal.relocate-requires-clause-has
relocate-requires-clause-has g c =
    let h = c.packs.invariant in
    Contains-permutation h.items c.packs.shelf.items.items (mover c.in-Some.mv) h.same
    (c.in-Some.ensures.step h.items (packs_on h)).item.has

pub packs-preserved : goal.packs-preserved
packs-preserved g c =
    let h = c.packs.invariant in
    moved_on h c.in-Some.mv c.in-Some.ensures.course (c.in-Some.ensures.keeps h.items (packs_on h))
    c.relocate.ensures.same c.relocate.ensures.rising

pub returns-in-None : goal.returns-in-None
returns-in-None g c =
    subst (λ v. PacksList g.row.C (divisor_of c.args.layout.now) v c.packs.shelf.items.items)
    (sym (c.in-None.ensures.same refl)) c.packs.invariant

pub returns : goal.returns
returns g c = c.packs.invariant
