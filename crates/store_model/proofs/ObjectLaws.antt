-- The items of a table from a class on: objects, no two of which share a byte.
use Rattle.std.specs.Prelude.{◌≡◌, ◌⊎◌, ℕ, ◌+◌, ◌<◌, ◌≤◌, nat_le, nat_lt, true, false, List, length, slice_index_or, Some, refl}
use Rattle.std.proofs.Common.{arith, ap, subst, inl, inr}
use Rattle.std.proofs.lemmas.Bool.{and_parts, ltb-true}
use Rattle.std.specs.FinMap as fin
use Rattle.size_class.specs.Classes.{class_of}
use Rattle.map_model.specs.Weights.{same_name}
use Rattle.table_rules.specs.Tables.{Apart, no_record}
use Rattle.extent_table.specs.declared.spot.Spot.{Spot}
use Rattle.extent_table.specs.Extents.{Extents, IsTable, records_of}
use Rattle.placement_model.proofs.EnterLaws.{apart_by_name}
use Rattle.flush_model.specs.declared.item.Item.{Item}
use Rattle.flush_model.specs.Phases.{AreObjects}
use Rattle.flush_model.specs.Plans.{ItemsApart}
use Rattle.flush_run.specs.Hands.{spot_item, suffix_items}
use Rattle.store_model.specs.Items.{is_from}
use Rattle.store_model.proofs.SuffixLaws.{has_item, keys_differ, pairs_of, stands_at}

module _ (b : ℕ) (e : Extents) (table : IsTable e) where
  abbrev items : List Item
  items = suffix_items b e

  some_of : (s : Spot) → is_from b s ≡ true → 1 ≤ s.size
  some_of s is = ltb-true 0 s.size (and_parts (nat_lt 0 s.size) (nat_le b (class_of s.size)) is).0

  module _ (apart : (i : ℕ) → i < length (records_of e.now) → (h : ℕ) → h < i
      → Apart (slice_index_or (records_of e.now) h no_record) (slice_index_or (records_of e.now) i no_record))
    where
      each_apart : (x y : List ℕ × Spot) → fin.get e.now x.0 ≡ Some x.1 → fin.get e.now y.0 ≡ Some y.1
          → 1 ≤ x.1.size → 1 ≤ y.1.size → same_name x.0 y.0 ≡ false
          → ItemsApart (spot_item e.keys x) (spot_item e.keys y)
      each_apart x y x_is y_is x_some y_some differ = record {
        keys = keys_differ e table.keys x.0 y.0 x.1 y.1 x_is y_is differ;
        bytes = elim (apart_by_name e.now table.now_named apart x.0 y.0 x.1 y.1 x_is y_is differ)
            as (λ _. (x.1.place + x.1.size ≤ y.1.place) ⊎ (y.1.place + y.1.size ≤ x.1.place)) [
              | inl none ↦ absurd (omega (arith, none, x_some))
              | inr (inl none) ↦ absurd (omega (arith, none, y_some))
              | inr (inr rest) ↦ rest
            ];
      }

      -- they are objects of the suffix, no two of which share a byte
      pub are_objects : AreObjects b items
      are_objects = record {
        apart = λ i j x y less at also. pairs_of ItemsApart (spot_item e.keys) (λ z. is_from b z.1)
            (fin.entries e.now) (fin.entries_sorted e.now) (λ v w m n v_at w_at v_in w_in differ.
            each_apart v w (stands_at b e m v v_at) (stands_at b e n w w_at) (some_of v.1 v_in)
            (some_of w.1 w_in) differ) i j x y less at also;
        some = λ it has. let o = has_item b e it has in
            omega (arith, o.some, ap (λ (x : Item). x.size) o.is);
        class = λ it has. let o = has_item b e it has in
            subst (λ (x : Item). x.class ≡ class_of x.size) o.is refl;
        from = λ it has. let o = has_item b e it has in
            omega (arith, o.from, ap (λ (x : Item). x.class) o.is);
      }
