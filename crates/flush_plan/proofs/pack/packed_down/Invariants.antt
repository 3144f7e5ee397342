use Rattle.std.proofs.Common.{List}
use Rattle.segment_layout.specs.Layouts.{caps_of, divisor_of}
use Rattle.flush_model.specs.declared.item.Item.{Item}
use Rattle.flush_plan.specs.Packs.{CanGoOn, IsPackedFrom}
use Rattle.flush_plan.proofs.pack.packed_down.Given as goal

abbrev pub invariant-down : goal.invariant-down
invariant-down g l = (items : List Item)
    → CanGoOn g.row.C (divisor_of l.layout) (caps_of l.layout) l.numbers items (g.S.Shelf.items l.shelf)
    → IsPackedFrom l.numbers items l.top

abbrev pub decreases-down : goal.decreases-down
decreases-down g l = l.top
