use Rattle.std.proofs.Common.{◌≡◌, ◌-◌, ◌<◌, ℕ, length, slice_get, Some}
use Rattle.flush_model.specs.declared.item.Item.{Item}
use Rattle.flush_model.specs.Plans.{ItemsApart}
use Rattle.layer_rows.proofs.flush_begins.is_apart.Given as goal

abbrev pub invariant-others : goal.invariant-others
invariant-others l = (x : ℕ) (it : Item) → x < l.i → slice_get l.others x ≡ Some it → ItemsApart it l.item

abbrev pub decreases-others : goal.decreases-others
decreases-others l = length l.others - l.i
