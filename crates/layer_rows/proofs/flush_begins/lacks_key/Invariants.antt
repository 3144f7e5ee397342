use Rattle.std.proofs.Common.{◌≡◌, ◌≢◌, ◌-◌, ◌<◌, ℕ, length, slice_get, Some}
use Rattle.flush_model.specs.declared.item.Item.{Item}
use Rattle.layer_rows.proofs.flush_begins.lacks_key.Given as goal

abbrev pub invariant-items : goal.invariant-items
invariant-items l = (x : ℕ) (it : Item) → x < l.i → slice_get l.items x ≡ Some it → it.key ≢ l.key

abbrev pub decreases-items : goal.decreases-items
decreases-items l = length l.items - l.i
