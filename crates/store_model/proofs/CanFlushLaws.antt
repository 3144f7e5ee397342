-- The items of a table from which a flush may begin: the plan of a flush may begin with them.
use Rattle.std.specs.Prelude.{◌≡◌, ◌⊎◌, ℕ, ◌+◌, ◌<◌, ◌≤◌, nat_le, nat_lt, List, Some, None, IsTrue, refl, true, false}
use Rattle.std.proofs.Common.{arith, ap, subst, inl, inr}
use Rattle.std.proofs.lemmas.Bool.{and_from, and_parts, le-leb, lt-ltb, ltb-true}
use Rattle.std.specs.FinMap as fin
use Rattle.size_class.specs.Classes.{class_of}
use Rattle.slot_codec.specs.Choice as choice
use Rattle.slot_codec.specs.declared.codec.Record.{Record}
use Rattle.map_model.specs.Weights.{same_name}
use Rattle.span_math.specs.declared.span.Span.{Span}
use Rattle.segment_layout.specs.Shapes.{buffer_start, taken_in}
use Rattle.table_rules.specs.Suffixes.{Stands}
use Rattle.extent_table.specs.declared.spot.Spot.{Spot}
use Rattle.extent_table.specs.Extents.{Extents, record_of}
use Rattle.placement_model.specs.Laid.{settled_table}
use Rattle.placement_model.proofs.EnterLaws.{by_name, apart_by_name}
use Rattle.placement_model.proofs.SegmentLaws.{lies_parts}
use Rattle.flush_model.specs.declared.item.Item.{Item}
use Rattle.flush_model.specs.Begins.{Begins}
use Rattle.flush_model.specs.Phases.{CanFlush}
use Rattle.flush_model.specs.Plans.{IsInBuffer, ItemsApart, numbers_of, stands_in_payload}
use Rattle.flush_model.proofs.NumbersLaws.{reach_is}
use Rattle.flush_run.specs.Hands.{spot_item, suffix_items}
use Rattle.store_model.specs.Items.{is_from, item_at}
use Rattle.store_model.specs.Starts.{CanStart, IsWith, flush_start}
use Rattle.store_model.proofs.ObjectLaws.{are_objects}
use Rattle.store_model.proofs.SuffixLaws.{has_item, key_other}

module _ (classes size_max : ℕ) (caps : List ℕ) (grid kept_grid : List (List ℕ)) (b : ℕ) (u : choice.InUse)
    (e : Extents) (spans : List Span)
    (h : CanStart classes size_max (flush_start caps grid kept_grid b u e spans)) where
  abbrev k : ℕ
  k = u.block.k

  abbrev items : List Item
  items = suffix_items b e

  -- each object of at least 1 byte stands in its payload segment or in a buffer from its class on
  stands_in : (name : List ℕ) (s : Spot) → fin.get e.now name ≡ Some s → 1 ≤ s.size
      → IsTrue (stands_in_payload k caps (spot_item e.keys (name, s)))
      ⊎ ((j : ℕ) × IsInBuffer k caps j (spot_item e.keys (name, s)))
  stands_in name s there some =
      elim (by_name (λ (r : Record). 0 < r.size → Stands (settled_table classes size_max k caps grid e.now)
      r) e.now
      h.below.named h.below.stand name s there (omega (arith, some)))
      as (λ _. IsTrue (stands_in_payload k caps (spot_item e.keys (name, s)))
      ⊎ ((j : ℕ) × IsInBuffer k caps j (spot_item e.keys (name, s)))) [
        | inl here ↦ inl here
        | inr (j, low, wide, here) ↦
            let q = lies_parts (buffer_start k caps j) (buffer_start k caps j + taken_in grid j)
            (record_of (name, s))
            here in
            inr (
              j,
              record {
                within = wide;
                class = low;
                low = q.0;
                high = omega (arith, q.1, h.below.filled.rows j wide);
              },
            )
      ]

  pub can_flush : CanFlush k caps b items
  can_flush =
      let o = are_objects b e h.table h.below.below.apart in
      record {
        classes = h.below.caps_full.full;
        apart = o.apart;
        some = o.some;
        class = o.class;
        from = o.from;
        stands = λ it has. let t = has_item b e it has in
            subst (λ x. IsTrue (stands_in_payload k caps x) ⊎ ((j : ℕ) × IsInBuffer k caps j x)) t.is
            (stands_in t.name t.spot t.stands t.some);
      }

  -- A flush begins with nothing pending.
  pub begins_alone : Begins k caps (numbers_of k caps b items 0) items None
  begins_alone = (can_flush, refl)

  -- A flush begins with a pending object, which ends where the file is to reach.
  pub begins_pending : (name : List ℕ) (s : Spot) (key : ℕ) (after : Extents) → fin.get e.now name ≡ None
      → IsWith name s key e after → 1 ≤ s.size → s.size ≤ size_max → b ≤ class_of s.size
      → s.place + s.size ≡ (numbers_of k caps b items s.size).reach
      → Begins k caps (numbers_of k caps b items s.size) items (Some (item_at key s))
  begins_pending name s key after new joins some small high place = (
    can_flush,
    refl,
    record {
      some = some;
      high = omega (arith, small, h.small);
      class = refl;
      from = high;
      place = omega (arith, place, reach_is k caps b items can_flush s.size);
      other = λ it has. key_other b e after name s key new joins.now joins.keys (from_of s some high)
          joins.table.keys it
          has;
    },
  )
    where
      from_of : (t : Spot) → 1 ≤ t.size → b ≤ class_of t.size → is_from b t ≡ true
      from_of t some high = and_from (nat_lt 0 t.size) (nat_le b (class_of t.size))
          (lt-ltb 0 t.size (omega (arith, some))) (le-leb b (class_of t.size) high)
