use Rattle.std.proofs.Common.{◌≡◌, ◌≢◌, ◌-◌, ◌<◌, ◌≤◌, ℕ, length, Some, slice_get}
use Rattle.flush_model.specs.declared.item.Item.{Item}
use Rattle.flush_plan.proofs.lay.of_class_from.Given as goal

abbrev pub invariant-objects : goal.invariant-objects
invariant-objects g l = (l.from ≤ l.rank) × (l.rank ≤ length (g.S.Shelf.items l.shelf))
    × ((i : ℕ) (it : Item) → l.from ≤ i → i < l.rank → slice_get (g.S.Shelf.items l.shelf) i ≡ Some it
    → it.class ≢ l.class)

abbrev pub decreases-objects : goal.decreases-objects
decreases-objects g l = length (g.S.Shelf.items l.shelf) - l.rank
