-- What a flush holds where it begins: with nothing pending, and with a pending object behind the room for
-- what is lifted.
use Rattle.std.specs.Prelude.{◌≡◌, ◌⊎◌, ℕ, ◌+◌, ◌≤◌, List, Some, None, refl}
use Rattle.std.proofs.Common.{arith, sym, ◌∙◌, ap, subst, inl, inr}
use Rattle.std.proofs.lemmas.Bool.{cases_Bool}
use Rattle.std.proofs.lemmas.List.Sorted.{IsPermutation-refl}
use Rattle.std.specs.FinMap as fin
use Rattle.size_class.specs.Classes.{class_of}
use Rattle.slot_codec.specs.Choice as choice
use Rattle.slot_codec.specs.Names.{IsName}
use Rattle.slot_codec.specs.Spelling.{head_len}
use Rattle.slot_codec.specs.declared.codec.Header.{Header}
use Rattle.slot_codec.specs.declared.codec.Kind.TheVariants.{Moving}
use Rattle.slot_codec.specs.declared.codec.Record.{Record}
use Rattle.map_model.specs.Weights.{same_name}
use Rattle.map_model.proofs.MapLaws.{same_name-is}
use Rattle.span_math.specs.declared.span.Span.{Span}
use Rattle.segment_layout.specs.Shapes.{end_of}
use Rattle.table_rules.specs.Rules.{KeepsPlaces}
use Rattle.table_rules.specs.Suffixes.{KeepsBelow}
use Rattle.table_rules.specs.Tables.{HasFullRows, TableInLayout}
use Rattle.table_rules.proofs.SuffixLaws.{valid_for_suffix}
use Rattle.extent_table.specs.declared.spot.Spot.{Spot}
use Rattle.extent_table.specs.Extents.{Extents, IsTable, Spots}
use Rattle.placement_model.specs.Held.{IsFreed}
use Rattle.placement_model.specs.Joins.{IsAlone}
use Rattle.placement_model.specs.Laid.{laid, moving_header, settled_header}
use Rattle.placement_model.proofs.EnterLaws.{by_name, inserted, apart_by_name}
use Rattle.placement_model.proofs.GuardLaws.{freed_past_new}
use Rattle.placement_model.proofs.JoinLaws.{pending_below}
use Rattle.placement_model.proofs.LaidOutLaws.{laid_below}
use Rattle.placement_model.proofs.QuietLaws.{IsGrid-wider}
use Rattle.flush_model.specs.declared.item.Item.{Item}
use Rattle.flush_model.specs.declared.item.Numbers.{Numbers}
use Rattle.flush_model.specs.Plans.{numbers_of}
use Rattle.flush_run.specs.FlushFrames.{FlushFrame, IsFreeSpace}
use Rattle.flush_run.specs.Hands.{AllEndBy, HandsMatchPlan, suffix_items}
use Rattle.flush_run.specs.Shelved.{phase_now}
use Rattle.flush_plan.specs.Shelves.{course_of}
use Rattle.table_rules.proofs.HeaderLaws.{below_rekinded}
use Rattle.store_model.specs.Starts.{CanStart, IsWith, flush_start}
use Rattle.store_model.proofs.ReachLaws.{all_end, kept_end, reach_low, reach_past_wall, wall_past_end}

-- the header of a table whose suffix, from class b on, isn't laid out anew yet
abbrev pub begun_header : ℕ → ℕ → ℕ → List ℕ → List (List ℕ) → Header
begun_header b wall slack caps grid = record (settled_header caps grid) {
  kind = Moving;
  boundary = b;
  wall = wall;
  slack = slack;
}

-- what a table keeps of the classes below a boundary isn't seen in the other numbers of its header
pub below_begun : (classes size_max k len more b wall slack : ℕ) (caps : List ℕ) (grid : List (List ℕ))
    (spots : Spots)
    → KeepsBelow b (laid classes size_max k len (settled_header caps grid) spots)
    → KeepsBelow b (laid classes size_max k more (begun_header b wall slack caps grid) spots)
below_begun classes size_max k len more b wall slack caps grid spots keeps =
    below_rekinded 1 Moving b 0 0 wall slack more b
    (laid classes size_max k len (settled_header caps grid) spots) keeps

module _ (f : FlushFrame) (caps : List ℕ) (grid kept_grid : List (List ℕ)) (b : ℕ) (u : choice.InUse)
    (e : Extents)
    (spans : List Span) (h : CanStart f.classes f.size_max (flush_start caps grid kept_grid b u e spans))
    (base : f.base ≡ head_len u.block.names) where
  abbrev k : ℕ
  k = u.block.k

  abbrev items : List Item
  items = suffix_items b e

  abbrev numbers : ℕ → Numbers
  numbers pending = numbers_of k caps b items pending

  abbrev begun : ℕ → Spots → TableInLayout
  begun pending now = laid f.classes f.size_max k f.reach
      (begun_header b (numbers pending).wall (numbers pending).slack caps grid) now

  -- the parts of what a flush holds, of which the table after the change and the items are left to say
  hands_of : (pending : ℕ) → pending ≤ f.size_max → f.reach ≡ (numbers pending).reach → (after : Extents)
      → IsTable after → after.names ≡ e.names → after.kept ≡ e.kept → IsFreed spans after.now after.kept
      → KeepsBelow b (begun pending after.now) → AllEndBy after.now f.reach
      → HandsMatchPlan f u after caps grid spans (phase_now
      (course_of k caps (numbers pending) pending) after)
  hands_of pending small reach after table names kept freed below lower = record {
    block = h.block;
    base = base;
    names = names ∙ h.names;
    table = table;
    divisor = refl;
    few = h.below.few;
    caps_full = h.below.caps_full;
    grid_full = h.below.grid_full;
    same_caps = refl;
    boundary = h.low;
    start = refl;
    wall = omega (
      arith,
      reach_past_wall f.classes f.size_max caps grid kept_grid b u e spans h pending small,
    );
    same_reach = omega (arith, reach);
    in_range = omega (
      arith,
      reach,
      reach_low f.classes f.size_max caps grid kept_grid b u e spans h pending
          small,
    );
    items = IsPermutation-refl (suffix_items b after);
    rules = rules;
    lower = lower;
    freed = freed;
    kept_empty = subst (λ (m : Spots). (name : List ℕ) (s : Spot) → fin.get m name ≡ Some s → s.size ≡ 0
        → s.place ≡ 0)
        (sym kept) (by_name (λ (r : Record). r.size ≡ 0 → r.place ≡ 0) e.kept h.kept.named kept_below.empty);
    kept_apart = subst (λ (m : Spots). (a c : List ℕ) (s t : Spot) → fin.get m a ≡ Some s → fin.get m c
        ≡ Some t
        → (a ≡ c) ⊎ (s.size ≡ 0) ⊎ (t.size ≡ 0) ⊎ (s.place + s.size ≤ t.place)
        ⊎ (t.place + t.size ≤ s.place)) (sym kept)
        (λ a c s t is there. elim (cases_Bool (same_name a c))
        as (λ _. (a ≡ c) ⊎ (s.size ≡ 0) ⊎ (t.size ≡ 0) ⊎ (s.place + s.size ≤ t.place)
        ⊎ (t.place + t.size ≤ s.place)) [
          | inl same ↦ inl (same_name-is a c same)
          | inr differ ↦ inr (apart_by_name e.kept h.kept.named kept_below.apart a c s t is there differ)
        ]);
  }
    where
      kept_below : KeepsBelow f.classes (laid f.classes f.size_max k (end_of k caps)
          (settled_header caps kept_grid) e.kept)
      kept_below = laid_below f.classes f.size_max k caps kept_grid e.kept h.kept

      rows : HasFullRows (begun pending after.now)
      rows = record {
        caps_full = h.below.caps_full.full;
        grid_full = IsGrid-wider f.classes grid h.below.few h.below.grid_full;
        classes = h.below.few;
      }

      rules : KeepsPlaces (laid f.classes f.size_max k f.reach
          (moving_header b (numbers pending).wall (numbers pending).slack caps grid) after.now)
      rules = valid_for_suffix b (begun pending after.now) rows (omega (arith, h.low, h.below.few))
          h.boundary below

  -- ---- with nothing pending

  pub hands_alone : f.reach ≡ (numbers 0).reach
      → HandsMatchPlan f u e caps grid spans (phase_now (course_of k caps (numbers 0) 0) e)
  hands_alone reach = hands_of 0 (omega arith) reach e h.table refl refl h.freed
      (below_begun f.classes f.size_max k (end_of k caps) f.reach b (numbers 0).wall (numbers 0).slack caps
      grid e.now
      h.below.below)
      (λ name s there. omega (
        arith,
        all_end f.classes f.size_max caps grid kept_grid b u e spans h name s there,
        wall_past_end f.classes f.size_max caps grid kept_grid b u e spans h 0 (omega arith),
        reach_past_wall f.classes f.size_max caps grid kept_grid b u e spans h 0 (omega arith),
        reach,
      ))

  -- ---- with a pending object

  module _ (name : List ℕ) (is : IsName name) (new : fin.get e.now name ≡ None) (s : Spot) (key : ℕ)
      (some : 1 ≤ s.size)
      (small : s.size ≤ f.size_max) (high : b ≤ class_of s.size) (reach : f.reach ≡ (numbers s.size).reach)
      (place : s.place + s.size ≡ f.reach) where
    -- it stands behind all that stands and all that is kept
    stands_past : end_of k caps ≤ s.place
    stands_past = omega (
      arith,
      wall_past_end f.classes f.size_max caps grid kept_grid b u e spans h s.size small,
      reach_past_wall f.classes f.size_max caps grid kept_grid b u e spans h s.size small,
      reach,
      place,
    )

    -- Its bytes are free, and end where the file is to reach.
    pub pending_free : IsFreeSpace e.now e.kept s.place s.size
    pending_free = record {
      live = λ q x there. inl (omega (
        arith,
        all_end f.classes f.size_max caps grid kept_grid b u e spans h q x there,
        stands_past,
      ));
      held = λ q x there. inl (omega (
        arith,
        kept_end f.classes f.size_max caps grid kept_grid b u e spans h q x there,
        stands_past,
      ));
    }

    alone : IsAlone e.now name s
    alone q x there = inr (inr (inr (omega (
      arith,
      all_end f.classes f.size_max caps grid kept_grid b u e spans h q x there,
      stands_past,
    ))))

    pub hands_pending : (after : Extents) → IsWith name s key e after
        → HandsMatchPlan f u after caps grid spans
        (phase_now (course_of k caps (numbers s.size) s.size) after)
    hands_pending after joins =
        hands_of s.size small reach after joins.table joins.names joins.kept
        (subst (λ x. IsFreed spans x after.kept) (sym joins.now)
        (subst (IsFreed spans (fin.insert e.now name s)) (sym joins.kept)
        (freed_past_new spans e.now e.kept name s new (λ x there. pending_free.held name x there) h.freed)))
        (subst (λ (m : Spots). KeepsBelow b (begun s.size m)) (sym joins.now)
        (pending_below f.classes f.size_max k f.reach
        (begun_header b (numbers s.size).wall (numbers s.size).slack caps grid) b e.now h.below.named name
        is new s some
        small high alone (below_begun f.classes f.size_max k (end_of k caps) f.reach b (numbers s.size).wall
        (numbers s.size).slack caps grid e.now h.below.below)))
        (subst (λ (m : Spots). AllEndBy m f.reach) (sym joins.now) lower)
      where
        lower : AllEndBy (fin.insert e.now name s) f.reach
        lower q x there = elim (inserted e.now name q s x there) as (λ _. x.place + x.size ≤ f.reach) [
          | inl here ↦ omega (
            arith,
            place,
            ap (λ (y : Spot). y.place) here.1,
            ap (λ (y : Spot). y.size)
                here.1,
          )
          | inr old ↦ omega (
            arith,
            all_end f.classes f.size_max caps grid kept_grid b u e spans h q x old.1,
            stands_past,
            place,
          )
        ]
