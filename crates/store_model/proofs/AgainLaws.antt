-- A flush that was interrupted goes on from its moving table: the rules of the table are those of its items.
use Rattle.std.specs.Prelude.{◌≡◌, ◌⊎◌, ℕ, ◌+◌, ◌-◌, ◌<◌, ◌≤◌, nat_le, nat_lt, true, false, List, length, slice_index_or, Contains, IsTrue, Some, refl}
use Rattle.std.proofs.Common.{arith, ◌∙◌, ap, subst, inl, inr}
use Rattle.std.proofs.lemmas.Bool.{and_from, and_parts, le-leb, lt-ltb, ltb-true}
use Rattle.std.proofs.lemmas.List.Sorted.{Contains-permutation}
use Rattle.std.specs.FinMap as fin
use Rattle.size_class.specs.Classes.{class_of, width}
use Rattle.slot_codec.specs.Choice as choice
use Rattle.slot_codec.specs.declared.codec.Record.{Record}
use Rattle.map_model.specs.Weights.{same_name}
use Rattle.span_math.specs.declared.span.Span.{Span}
use Rattle.table_rules.specs.Rules.{CanResume}
use Rattle.table_rules.specs.Tables.{Apart, TableInLayout, is_below_wall, is_suffix, no_record, nth, sizes_above}
use Rattle.extent_table.specs.declared.spot.Spot.{Spot}
use Rattle.extent_table.specs.Extents.{Extents, IsTable, records_of}
use Rattle.placement_model.specs.Laid.{laid, moving_header}
use Rattle.placement_model.proofs.ReadLaws.{record_at}
use Rattle.placement_model.proofs.EnterLaws.{apart_by_name}
use Rattle.flush_model.specs.declared.item.Item.{Item}
use Rattle.flush_model.specs.Phases.{AreObjects, PlanState}
use Rattle.flush_model.specs.Plans.{IsPacked, ItemsApart, ItemsCanResume, sizes_over}
use Rattle.flush_run.specs.FlushFrames.{FlushFrame}
use Rattle.flush_run.specs.Hands.{HandsMatchPlan, spot_item, suffix_items}
use Rattle.flush_run.proofs.ResumeLaws.{above_is_over, lengths_agree, starts}
use Rattle.store_model.specs.Items.{is_from}
use Rattle.store_model.proofs.SuffixLaws.{has_item, keys_differ, pairs_of, stands_at}

-- ---- the rules of moving tables

module _ (f : FlushFrame) (u : choice.InUse) (e : Extents) (caps : List ℕ) (grid : List (List ℕ))
    (spans : List Span) (p : PlanState) (h : HandsMatchPlan f u e caps grid spans p) where
  abbrev moving : TableInLayout
  moving = laid f.classes f.size_max u.block.k f.reach
      (moving_header p.numbers.boundary p.numbers.wall p.numbers.slack caps grid) e.now

  -- the record of an item
  record RecordFor (it : Item) : Type 0 where
    at : ℕ
    within : at < length (records_of e.now)
    suffix : IsTrue (is_suffix moving (nth moving at))
    place : (nth moving at).place ≡ it.place
    size : (nth moving at).size ≡ it.size
    class : class_of (nth moving at).size ≡ it.class

  record_for : (it : Item) → Contains p.items it → RecordFor it
  record_for it has =
      let o = has_item p.numbers.boundary e it
      (Contains-permutation p.items (suffix_items p.numbers.boundary e) it h.items has) in
      let r = record_at e.now h.table.now_named o.name o.spot o.stands in
      let size : (nth moving r.0).size ≡ o.spot.size = ap (λ (y : Record). y.size) r.2 in
      record {
        at = r.0;
        within = r.1;
        suffix = and_from (nat_lt 0 (nth moving r.0).size)
            (nat_le p.numbers.boundary (class_of (nth moving r.0).size))
            (lt-ltb 0 (nth moving r.0).size (omega (arith, o.some, size)))
            (le-leb p.numbers.boundary (class_of (nth moving r.0).size)
            (omega (arith, o.from, ap class_of size)));
        place = ap (λ (y : Record). y.place) r.2 ∙ ap (λ (y : Item). y.place) o.is;
        size = size ∙ ap (λ (y : Item). y.size) o.is;
        class = ap class_of size ∙ ap (λ (y : Item). y.class) o.is;
      }

  below : (it : Item) → (r : RecordFor it) → it.place < p.numbers.wall
      → IsTrue (is_below_wall moving (nth moving r.at))
  below it r low = and_from (is_suffix moving (nth moving r.at))
      (nat_lt (nth moving r.at).place p.numbers.wall)
      r.suffix (lt-ltb (nth moving r.at).place p.numbers.wall (omega (arith, r.place, low)))

  pub items_can : CanResume moving → ItemsCanResume p.k p.numbers p.items
  items_can c = record {
    wall = omega (
      arith,
      c.room.wall,
      starts f u e caps grid spans p h,
      lengths_agree f u e caps grid spans p h p.numbers.boundary (width - p.numbers.boundary) (omega arith),
    );
    slack = λ it has. let r = record_for it has in omega (arith, c.room.slack r.at r.within r.suffix, r.size);
    side = λ it has.
        let r = record_for it has in
        elim ((c.places r.at r.within).side r.suffix) as (λ _. (p.numbers.wall ≤ it.place)
        ⊎ ((p.numbers.start ≤ it.place) × (it.place + it.size ≤ p.numbers.wall))) [
          | inl past ↦ inl (omega (arith, past, r.place))
          | inr inside ↦ inr (
            omega (arith, inside.0, r.place, starts f u e caps grid spans p h),
            omega (arith, inside.1, r.place, r.size),
          )
        ];
    order = λ it other has other_has low less.
        let r = record_for it has in
        let q = record_for other other_has in
        omega (
          arith,
          (c.places r.at r.within).order (below it r low) q.at q.within
              (below other q (omega (arith, low, less))) (omega (arith, less, r.place, q.place)),
          r.class,
          q.class,
        );
    gap = λ it has low.
        let r = record_for it has in
        let over : sizes_above moving (nth moving r.at).place ≡ sizes_over p.numbers p.items it.place =
        above_is_over f u e caps grid spans p h (nth moving r.at).place
        ∙ ap (sizes_over p.numbers p.items) r.place in
        elim ((c.places r.at r.within).gap (below it r low)) as (λ _. IsPacked p.numbers p.items it
        ⊎ (it.place + it.size + sizes_over p.numbers p.items it.place + p.numbers.slack ≤ p.numbers.wall)) [
          | inl packed ↦ inl (omega (arith, packed, over, r.place, r.size))
          | inr gap ↦ inr (omega (arith, gap, over, r.place, r.size))
        ];
  }
