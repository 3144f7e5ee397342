use Rattle.std.proofs.Common.{◌≡◌, ◌-◌, ◌<◌, ◌≤◌, ℕ, length, Some, slice_get}
use Rattle.flush_model.specs.declared.item.Item.{Item}
use Rattle.flush_plan.proofs.ranks.rank_from.Given as goal

abbrev pub invariant-ranks : goal.invariant-ranks
invariant-ranks g l = (l.low ≤ l.high) × (l.high ≤ length (g.S.Shelf.items l.shelf))
    × ((i : ℕ) (it : Item) → i < l.low → slice_get (g.S.Shelf.items l.shelf) i ≡ Some it
    → it.place < l.place)
    × ((i : ℕ) (it : Item) → l.high ≤ i → slice_get (g.S.Shelf.items l.shelf) i ≡ Some it
    → l.place ≤ it.place)

abbrev pub decreases-ranks : goal.decreases-ranks
decreases-ranks g l = l.high - l.low
