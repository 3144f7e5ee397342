use Rattle.std.proofs.Common.{arith, refl}
use Rattle.segment_layout.specs.Layouts.{caps_of, divisor_of}
use Rattle.flush_plan.proofs.PackGoesLaws.{again_fits, again_loose, again_stays}
use Rattle.flush_plan.proofs.PackStepLaws.{packed_from_wall}
use Rattle.flush_plan.proofs.pack.packed_down.Goals as goal

pub down-init : goal.down-init
down-init g c = λ items can. packed_from_wall c.args.numbers items

pub overflow_add-item : goal.overflow_add-item
overflow_add-item g c =
    let layout = c.args.layout.now in
    let items = c.requires.goes_on.0 in
    let can = c.requires.goes_on.1 in
    omega (
      arith,
      again_fits g.row.C (divisor_of layout) (caps_of layout) c.args.numbers items
          (g.S.Shelf.items c.args.shelf.now) can c.down.top (c.down.invariant items can) c.in-Some.item
          (c.in-Some.ensures.last items can.on),
    )

pub returns-then-item-top-clause-loose : goal.returns-then-item-top-clause-loose
returns-then-item-top-clause-loose g c = λ items can.
    let layout = c.args.layout.now in
    again_loose g.row.C (divisor_of layout) (caps_of layout) c.args.numbers items
    (g.S.Shelf.items c.args.shelf.now) can c.down.top (c.down.invariant items can) c.in-Some.item
    (c.in-Some.ensures.last items can.on) c.if-item-top.true

pub down-smaller : goal.down-smaller
down-smaller g c = (c.in-Some.ensures.last c.requires.goes_on.0 c.requires.goes_on.1.on).before

pub down-preserved : goal.down-preserved
down-preserved g c = λ items can.
    let layout = c.args.layout.now in
    again_stays g.row.C (divisor_of layout) (caps_of layout) c.args.numbers items
    (g.S.Shelf.items c.args.shelf.now) can c.down.top (c.down.invariant items can) c.in-Some.item
    (c.in-Some.ensures.last items can.on) (omega (arith, c.if-item-top.false))

pub returns-clause-loose : goal.returns-clause-loose
returns-clause-loose g c = λ items can it has less.
    absurd (omega (arith, less, c.in_default.ensures.none refl items can.on it has))
