use Rattle.std.proofs.Common.{◌≡◌, ◌-◌, ◌<◌, ◌≤◌, ℕ, length, Some, slice_get}
use Rattle.flush_model.specs.declared.item.Item.{Item}
use Rattle.layer_rows.proofs.list_shelf.ListShelf.rank.Given as goal

abbrev pub invariant-objects : goal.invariant-objects
invariant-objects l = (l.rank ≤ length l.self.items.items)
    × ((i : ℕ) (it : Item) → i < l.rank → slice_get l.self.items.items i ≡ Some it → it.place < l.place)

abbrev pub decreases-objects : goal.decreases-objects
decreases-objects l = length l.self.items.items - l.rank
