use Rattle.std.proofs.Common.{◌-◌, ◌≤◌, List}
use Rattle.flush_model.specs.declared.item.Item.{Item}
use Rattle.flush_plan.specs.Lifts.{ArePassed, Lifts}
use Rattle.flush_plan.proofs.lift.Lifting.first_unlifted.Given as goal

abbrev pub invariant-segments : goal.invariant-segments
invariant-segments g l = (l.self.course.numbers.start ≤ l.from)
    × ((items : List Item) → Lifts g.row.C l.self items (g.S.Shelf.items l.shelf)
    → ArePassed l.self.course items l.from)

abbrev pub decreases-segments : goal.decreases-segments
decreases-segments g l = l.self.course.numbers.wall - l.from
