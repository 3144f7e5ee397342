-- What is counted up over the items of a flush and its pending object.
use Rattle.std.specs.Prelude.{◌≡◌, ℕ, ◌<◌, not, List, ◌∷◌, slice_index}
use Rattle.size_class.specs.Rows.{cells_of}
use Rattle.flush_model.specs.declared.item.Item.{Item}
use Rattle.flush_model.specs.Plans.{class_total, largest_of, object_of, stands_in_payload, weight}
use Rattle.flush_plan.specs.declared.counts.Count.{Count}

-- The bytes of each class and the largest size, the pending object among them, and the bytes of the items
-- that stand in payload segments, and of those in buffers.
pub record IsCount {C : ℕ} (k : ℕ) (caps : List ℕ) (pending : ℕ) (items : List Item) (count : Count C)
    : Type 0 where
  pub totals : (c : ℕ) → c < C
      → slice_index (cells_of count.volumes) c ≡ class_total (object_of pending ∷ items) c
  pub most : count.largest ≡ largest_of items pending
  pub payload : count.in_payload ≡ weight (stands_in_payload k caps) items
  pub buffers : count.in_buffers ≡ weight (λ it. not (stands_in_payload k caps it)) items
