-- The last item before a place, as it is found on the shelf.
use Rattle.std.specs.Prelude.{◌≡◌, ℕ, ◌+◌, ◌<◌, ◌≤◌, List, slice_get, Some, Contains}
use Rattle.std.proofs.Common.{arith, inl, inr}
use Rattle.std.proofs.lemmas.Bool.{cases_lt}
use Rattle.flush_model.specs.declared.item.Item.{Item}
use Rattle.flush_plan.specs.Shelves.{IsLastBefore, IsOnShelf, IsRank}
use Rattle.flush_plan.proofs.ShelfLaws.{got_has, item_on_shelf, rank_last, rank_precedes, rank_zero, shelf_item}

module _ (start : ℕ) (items xs : List Item) (on : IsOnShelf start items xs) (place rank : ℕ)
    (is : IsRank xs place rank) where
  pub none_before : rank ≡ 0 → (it : Item) → Contains items it → place ≤ it.place
  none_before none it has =
      rank_zero xs on.rises place rank is none it (item_on_shelf start items xs on it has).0

  module _ (at : ℕ) (m : Item) (next : at + 1 ≡ rank) (got : slice_get xs at ≡ Some m) where
    -- where the last object before a place stands before the start, no item stands before that place
    pub front_before : m.place < start → (it : Item) → Contains items it → place ≤ it.place
    front_before front it has =
        let old = item_on_shelf start items xs on it has in
        elim (cases_lt it.place place) [
          | inr from ↦ from
          | inl less ↦ absurd (omega (
            arith,
            front,
            old.1,
            rank_last xs on.rises place rank is at m next got it old.0 less,
          ))
        ]

    -- else it is the last item before it
    pub last_on_shelf : start ≤ m.place → IsLastBefore items place m
    last_on_shelf low = record {
      has = shelf_item start items xs on m (got_has xs at m got) low;
      before = rank_precedes xs on.rises place rank is at m next got;
      last = λ it has less. rank_last xs on.rises place rank is at m next got it
          (item_on_shelf start items xs on it has).0 less;
    }
