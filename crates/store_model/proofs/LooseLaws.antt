-- The reach of a flush is loose: for the maps before and after a change that isn't quiet, where the book
-- before it is balanced.
use Rattle.std.specs.Prelude.{◌≡◌, ℕ, ◌+◌, ◌≤◌, cond, false, max, List, length, filter, Option, Some, None, refl, IsPermutation}
use Rattle.std.proofs.Common.{arith, sym, ◌∙◌, ap, subst, inl, inr}
use Rattle.std.proofs.Math.Nat.{le-max_left, le-max_right}
use Rattle.std.proofs.lemmas.List.Sorted.{IsPermutation-refl}
use Rattle.std.specs.FinMap as fin
use Rattle.size_class.specs.Classes.{width}
use Rattle.slot_codec.specs.Choice as choice
use Rattle.slot_codec.specs.Names.{IsName}
use Rattle.slot_codec.specs.Spelling.{head_len}
use Rattle.span_math.specs.declared.span.Span.{Span}
use Rattle.map_model.specs.Maps.{Map, largest, volume}
use Rattle.map_model.specs.Requests.{Change, changed}
use Rattle.map_model.proofs.MapLaws.{get-insert_here, insert-remove, largest-each, largest-remove, sum_by-map, volume-remove}
use Rattle.segment_layout.specs.Balance.{IsBalanced}
use Rattle.segment_layout.specs.Books.{Book, is_quiet, next_book}
use Rattle.segment_layout.specs.Bounds.{Loose, Tight}
use Rattle.segment_layout.specs.Shapes.{end_of, settled_caps}
use Rattle.segment_layout.proofs.BookLaws.{sum_by-filter}
use Rattle.segment_layout.proofs.NextLaws.{balanced_next}
use Rattle.segment_layout.proofs.TightLaws.{tight}
use Rattle.extent_table.specs.declared.spot.Spot.{Spot}
use Rattle.extent_table.specs.Extents.{Extents, Spots, volume_of}
use Rattle.placement_model.specs.Held.{FreesSpot}
use Rattle.placement_model.specs.LaidOut.{shown_book}
use Rattle.placement_model.specs.Quiet.{PlacedTo}
use Rattle.placement_model.proofs.SpotSumLaws.{volume_of-weights}
use Rattle.flush_model.specs.declared.item.Item.{Item}
use Rattle.flush_model.specs.declared.item.Numbers.{Numbers}
use Rattle.flush_model.specs.Begins.{Begins, pending_size, with_pending}
use Rattle.flush_model.proofs.SortLaws.{laid_length_permuted}
use Rattle.flush_model.specs.Plans.{numbers_of, stands_in_payload, total}
use Rattle.flush_model.proofs.BeginLaws.{begun}
use Rattle.flush_model.proofs.ItemLaws.{total_is}
use Rattle.flush_model.proofs.ListLaws.{cond_at_most, sum_by_le_in}
use Rattle.flush_model.proofs.NumbersLaws.{reach_is_loose}
use Rattle.flush_run.specs.FlushFrames.{FlushFrame}
use Rattle.flush_run.specs.Hands.{HandsMatchPlan, spot_item, suffix_items}
use Rattle.flush_run.specs.Shelved.{phase_now}
use Rattle.flush_plan.specs.Shelves.{course_of}
use Rattle.flush_run.proofs.LaidPlaceLaws.{end_is}
use Rattle.placement_model.specs.Tried.{between, new_charged, size_at}
use Rattle.store_model.specs.Items.{is_from, item_at}
use Rattle.store_model.specs.Starts.{CanStart, IsLoud, IsWith, IsWithout, WasBefore, flush_start}
use Rattle.store_model.proofs.CanFlushLaws.{begins_alone, can_flush}
use Rattle.store_model.proofs.OutcomeLaws.{gone_some, new_some, one_missed}
use Rattle.store_model.proofs.LiftStartLaws.{pending_begins, pending_hands, pending_items, pending_starts, placed_hands, placed_starts, removed_hands, removed_starts}
use Rattle.store_model.proofs.NextBookLaws.{next_is}
use Rattle.store_model.specs.Sized.{IsSizedBy, object_size}
use Rattle.store_model.proofs.SizedLaws.{sized_gone, sized_has, sized_put, sized_volume, sized_volumes}
use Rattle.store_model.proofs.SuffixLaws.{has_item}

-- the items have at most the bytes of all live objects
pub items_in_volume : (b : ℕ) (e : Extents) → total (suffix_items b e) ≤ volume_of e.now
items_in_volume b e =
    let es = fin.entries e.now in
    let p = λ (x : List ℕ × Spot). is_from b x.1 in
    omega (
      arith,
      sum_by-map (λ (it : Item). it.size) (spot_item e.keys) (filter p es),
      sum_by-filter (λ (x : List ℕ × Spot). x.1.size) p es,
      sum_by_le_in (λ (x : List ℕ × Spot). cond (p x) x.1.size 0) (λ x. x.1.size) es
          (λ x has. cond_at_most (p x) x.1.size),
      volume_of-weights e.now,
    )

-- an object of a map is at most as large as the largest
sized_low : (m : Map) (spots : Spots) → IsSizedBy m spots → (name : List ℕ) (s : Spot)
    → fin.get spots name ≡ Some s → s.size ≤ largest m
sized_low m spots sized name s there =
    let v = sized_has m spots sized name s there in
    omega (arith, v.2, largest-each m name v.0 v.1)

module _ (classes size_max : ℕ) (caps : List ℕ) (grid kept_grid : List (List ℕ)) (b : ℕ) (u : choice.InUse)
    (e : Extents) (spans : List Span)
    (h : CanStart classes size_max (flush_start caps grid kept_grid b u e spans)) where
  abbrev divisor : ℕ
  divisor = u.block.k

  abbrev all_items : List Item
  all_items = suffix_items b e

  -- where the map of the table's objects is no greater than those of before and after
  loose_from : (pending : ℕ) (before after x : Map) → IsSizedBy x e.now
      → volume x ≤ max (volume before) (volume after) → largest x ≤ max (largest before) (largest after)
      → pending ≤ max (largest before) (largest after) → 1 ≤ max (largest before) (largest after)
      → Tight divisor (end_of divisor caps) before
      → Tight divisor (numbers_of divisor caps b all_items pending).end after
      → Loose divisor (numbers_of divisor caps b all_items pending).reach before after
  loose_from pending before after x sized few low fits some tight_old tight_new =
      reach_is_loose divisor caps b all_items (can_flush classes size_max caps grid kept_grid b u e spans h)
      pending before after
      h.block.divisor_low tight_old tight_new
      (λ it has. let o = has_item b e it has in
      omega (arith, ap (λ (y : Item). y.size) o.is, sized_low x e.now sized o.name o.spot o.stands, low))
      fits some
      (omega (
        arith,
        total_is (stands_in_payload divisor caps) all_items,
        sum_by_le_in (λ (it : Item). cond (stands_in_payload divisor caps it) it.size 0) (λ it. it.size)
            all_items
            (λ it has. cond_at_most (stands_in_payload divisor caps it) it.size),
        items_in_volume b e,
        sized_volume x e.now sized,
        few,
      ))

-- ---- of a change

module _ (f : FlushFrame) (caps : List ℕ) (grid kept_grid : List (List ℕ)) (u : choice.InUse) (e : Extents)
    (spans : List Span) (h : WasBefore f.classes f.size_max caps grid kept_grid u e spans)
    (base : f.base ≡ head_len u.block.names) (name : List ℕ) (after : List (List ℕ)) (b : ℕ) (gone : Extents)
    (without : IsWithout name e gone) (freed : List Span)
    (frees : FreesSpot (fin.get e.now name) (fin.get e.kept name) spans freed) (m : Map)
    (sized : IsSizedBy m e.now)
    (balanced : IsBalanced u.block.k m (shown_book f.classes f.size_max u.block.k caps grid e.now)) where
  abbrev k : ℕ
  k = u.block.k

  abbrev old : Option Spot
  old = fin.get e.now name

  abbrev mid : List (List ℕ)
  mid = between k caps grid old

  abbrev before : Book
  before = shown_book f.classes f.size_max k caps grid e.now

  abbrev numbers : Extents → ℕ → Numbers
  numbers x pending = numbers_of k caps b (suffix_items b x) pending

  tight_before : Tight k (end_of k caps) m
  tight_before = tight k m before balanced

  -- the new end is tight for the map after the change
  tight_after : (object : Option (List ℕ)) (l : IsLoud k caps grid old (object_size object) after b)
      (x : Extents)
      → IsSizedBy (changed (record { name = name; object = object }) m) x.now → (items : List Item)
      (pending : Option Item) → Begins k caps (numbers_of k caps b items (pending_size pending)) items
      pending → b ≤ width
      → IsPermutation (with_pending items pending) (suffix_items b x)
      → HandsMatchPlan f u x caps after freed (phase_now (course_of k caps
      (numbers_of k caps b items (pending_size pending)) (pending_size pending)) x)
      → Tight k (numbers_of k caps b items (pending_size pending)).end
      (changed (record { name = name; object = object }) m)
  tight_after object l x has items pending begins low perm hands =
      let c : Change = record { name = name; object = object } in
      let n = numbers_of k caps b items (pending_size pending) in
      let p = phase_now (course_of k caps n (pending_size pending)) x in
      let same = laid_length_permuted (with_pending items pending) (suffix_items b x) perm k b width in
      let next = next_book k m before c in
      let end : end_of k next.book.caps ≡ n.end =
      ap (λ (y : Book). end_of k y.caps) (next_is f.classes f.size_max caps grid kept_grid u e spans h m
      sized c after b l)
      ∙ ap (λ vs. end_of k (settled_caps b caps vs))
      (sized_volumes (changed c m) x.now has hands.table.now_named)
      ∙ end_is f u x caps after freed p hands
      ∙ ap (λ len. n.start + len) same
      ∙ sym (begun k caps n items pending low begins).layout.end in
      subst (λ y. Tight k y (changed c m)) end (tight k (changed c m) next.book
      (balanced_next k m before c balanced))

  -- something has at least 1 byte
  some_byte : (size : ℕ) (m' : Map) → IsLoud k caps grid old size after b
      → (1 ≤ size → size ≤ largest m') → 1 ≤ max (largest m) (largest m')
  some_byte size m' l new = elim (one_missed k caps grid old size l.needs_flush) as (λ _. 1 ≤ max (largest m)
      (largest m')) [
        | inl missed ↦ omega (
          arith,
          gone_some k caps grid old size missed,
          old_low,
          le-max_left (largest m) (largest m'),
        )
        | inr missed ↦ omega (
          arith,
          new_some k caps grid old size missed,
          new (new_some k caps grid old size missed),
          le-max_right (largest m) (largest m'),
        )
      ]
    where
      old_low : size_at (fin.get e.now name) ≤ largest m
      old_low = by (fin.get e.now name) refl
        where
          by : (o : Option Spot) → fin.get e.now name ≡ o → size_at o ≤ largest m
          by None none = omega arith
          by (Some s) there = sized_low m e.now sized name s there

  -- a removal
  pub removed_loose : IsLoud k caps grid old 0 after b → f.reach ≡ (numbers gone 0).reach
      → Loose k f.reach m (fin.remove m name)
  removed_loose l reach =
      let start = removed_starts f caps grid kept_grid u e spans h base name after b gone without freed
      frees l in
      let items = suffix_items b gone in
      let has : IsSizedBy (fin.remove m name) gone.now = subst
      (λ (x : Spots). IsSizedBy (fin.remove m name) x)
      (sym without.now) (sized_gone m e.now name sized) in
      subst (λ y. Loose k y m (fin.remove m name)) (sym reach)
      (loose_from f.classes f.size_max caps after kept_grid b u gone freed start 0 m (fin.remove m name)
      (fin.remove m name) has (le-max_right (volume m) (volume (fin.remove m name)))
      (le-max_right (largest m) (largest (fin.remove m name))) (omega arith)
      (some_byte 0 (fin.remove m name) l (λ some. absurd (omega (arith, some)))) tight_before
      (tight_after None l gone has items None
      (begins_alone f.classes f.size_max caps after kept_grid b u gone freed start)
      (omega (arith, start.low, start.below.few)) (IsPermutation-refl items)
      (removed_hands f caps grid kept_grid u e spans h base name after b gone without freed frees l reach)))

  module _ (is : IsName name) (object : List ℕ) (small : length object ≤ f.size_max)
      (l : IsLoud k caps grid old (length object) after b) where
    abbrev m' : Map
    m' = fin.insert m name object

    object_low : length object ≤ largest m'
    object_low = largest-each m' name object (get-insert_here m name object)

    sized_after : (s : Spot) (key : ℕ) (put : Extents) → IsWith name s key gone put → s.size ≡ length object
        → IsSizedBy m' put.now
    sized_after s key put joins same = subst (λ (x : Spots). IsSizedBy m' x) (sym (joins.now
        ∙ ap (λ (x : Spots). fin.insert x name s) without.now ∙ insert-remove e.now name s))
        (sized_put m e.now name object s (sym same) sized)

    -- a put whose object found room
    pub placed_loose : (place key : ℕ) → PlacedTo k caps mid (length object) after place → (put : Extents)
        → IsWith name (record { place = place; size = length object }) key gone put
        → f.reach ≡ (numbers put 0).reach → Loose k f.reach m m'
    placed_loose place key placed put joins reach =
        let start = placed_starts f caps grid kept_grid u e spans h base name after b gone without freed
        frees is object
        small l place key placed put joins in
        let items = suffix_items b put in
        let has = sized_after (record { place = place; size = length object }) key put joins refl in
        subst (λ y. Loose k y m m') (sym reach)
        (loose_from f.classes f.size_max caps after kept_grid b u put freed start 0 m m' m' has
        (le-max_right (volume m) (volume m')) (le-max_right (largest m) (largest m')) (omega arith)
        (some_byte (length object) m' l (λ some. object_low)) tight_before
        (tight_after (Some object) l put has items None
        (begins_alone f.classes f.size_max caps after kept_grid b u put freed start)
        (omega (arith, start.low, start.below.few)) (IsPermutation-refl items)
        (placed_hands f caps grid kept_grid u e spans h base name after b gone without freed frees is object
        small l place key placed put joins reach)))

    -- a put whose object waits
    pub pending_loose : is_quiet (new_charged k caps mid (length object)) ≡ false → (place : ℕ)
        → f.reach ≡ (numbers gone (length object)).reach → place + length object ≡ f.reach
        → (key : ℕ) (put : Extents)
        → IsWith name (record { place = place; size = length object }) key gone put → Loose k f.reach m m'
    pending_loose missed place reach ends key put joins =
        let start = pending_starts f caps grid kept_grid u e spans h base name after b gone without freed
        frees is object
        small l missed in
        let items = suffix_items b gone in
        let it = item_at key (record { place = place; size = length object }) in
        let has = sized_after (record { place = place; size = length object }) key put joins refl in
        let rest : IsSizedBy (fin.remove m name) gone.now = subst
        (λ (x : Spots). IsSizedBy (fin.remove m name) x)
        (sym without.now) (sized_gone m e.now name sized) in
        subst (λ y. Loose k y m m') (sym reach)
        (loose_from f.classes f.size_max caps after kept_grid b u gone freed start (length object) m m'
        (fin.remove m name)
        rest (omega (arith, volume-remove m name, le-max_left (volume m) (volume m')))
        (omega (arith, largest-remove m name, le-max_left (largest m) (largest m')))
        (omega (arith, object_low, le-max_right (largest m) (largest m')))
        (some_byte (length object) m' l (λ some. object_low)) tight_before
        (tight_after (Some object) l put has items (Some it)
        (pending_begins f caps grid kept_grid u e spans h base name after b gone without freed frees is
        object small l
        missed place reach ends key put joins)
        (omega (arith, start.low, start.below.few))
        (pending_items f caps grid kept_grid u e spans h base name after b gone without freed frees is
        object small l
        missed place reach ends key put joins)
        (pending_hands f caps grid kept_grid u e spans h base name after b gone without freed frees is
        object small l
        missed place reach ends key put joins)))
