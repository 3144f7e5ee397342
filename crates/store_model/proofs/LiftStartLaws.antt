-- Lifting may begin after a change that isn't quiet: a removal, a put whose object found room, and a put
-- whose object waits.
use Rattle.std.specs.Prelude.{◌≡◌, ℕ, ◌+◌, ◌<◌, ◌≤◌, nat_le, nat_lt, false, List, length, Option, Some, None, IsPermutation, refl}
use Rattle.std.proofs.Common.{arith, sym, ◌∙◌, ap, subst}
use Rattle.std.proofs.lemmas.Bool.{and_from, le-leb, lt-ltb}
use Rattle.std.specs.FinMap as fin
use Rattle.size_class.specs.Classes.{class_of}
use Rattle.slot_codec.specs.Choice as choice
use Rattle.slot_codec.specs.Names.{IsName}
use Rattle.slot_codec.specs.Spelling.{head_len}
use Rattle.span_math.specs.declared.span.Span.{Span}
use Rattle.map_model.specs.Maps.{Map}
use Rattle.segment_layout.specs.Books.{Book, is_quiet, next_book, with_digests}
use Rattle.segment_layout.specs.Shapes.{end_of}
use Rattle.table_rules.specs.Tables.{book_of}
use Rattle.extent_table.specs.declared.spot.Spot.{Spot}
use Rattle.extent_table.specs.Extents.{Extents, Spots}
use Rattle.placement_model.specs.Buffered.{AreBuffered}
use Rattle.placement_model.specs.Held.{FreesSpot}
use Rattle.placement_model.specs.Laid.{laid, moving_header}
use Rattle.placement_model.specs.LaidOut.{shown_book}
use Rattle.placement_model.specs.Quiet.{PlacedTo}
use Rattle.placement_model.specs.Reads.{AreNamed, LiesApart}
use Rattle.map_model.proofs.MapLaws.{get-remove_here, insert-remove}
use Rattle.flush_model.specs.declared.item.Numbers.{Numbers}
use Rattle.flush_model.specs.Begins.{Begins, with_pending}
use Rattle.flush_model.specs.Plans.{numbers_of}
use Rattle.flush_run.specs.FlushFrames.{FlushFrame, IsFreeSpace}
use Rattle.flush_run.specs.Hands.{AllEndBy, HandsMatchPlan, suffix_items}
use Rattle.flush_run.specs.Shelved.{phase_now}
use Rattle.flush_plan.specs.Shelves.{course_of}
use Rattle.placement_model.specs.Tried.{between, new_charged}
use Rattle.store_model.specs.Items.{item_at}
use Rattle.store_model.specs.Lifting.{BeginsLift}
use Rattle.store_model.specs.Starts.{CanStart, IsLoud, IsWith, IsWithout, WasBefore, flush_start}
use Rattle.store_model.proofs.CanFlushLaws.{begins_pending}
use Rattle.store_model.proofs.OutcomeLaws.{new_some}
use Rattle.placement_model.proofs.GoneLaws.{left_over}
use Rattle.store_model.proofs.HandsLaws.{hands_alone, hands_pending, pending_free}
use Rattle.store_model.proofs.NextBookLaws.{begun, book_begun, buffered_pending, buffered_placed, buffered_removed, names}
use Rattle.store_model.proofs.ReachLaws.{kept_end, reach_past_wall, wall_past_end}
use Rattle.store_model.specs.Sized.{IsSizedBy}
use Rattle.store_model.proofs.SizedLaws.{sized_gone, sized_put}
use Rattle.store_model.proofs.SuffixLaws.{items_with}
use Rattle.store_model.proofs.StartLaws.{after_gone, after_missed, new_high, placed_apart_kept, placed_apart_now, placed_within, started_with, started_without}

module _ (f : FlushFrame) (caps : List ℕ) (grid kept_grid : List (List ℕ)) (u : choice.InUse) (e : Extents)
    (spans : List Span) (h : WasBefore f.classes f.size_max caps grid kept_grid u e spans)
    (base : f.base ≡ head_len u.block.names) (name : List ℕ) (after : List (List ℕ)) (b : ℕ) (gone : Extents)
    (without : IsWithout name e gone) (freed : List Span)
    (frees : FreesSpot (fin.get e.now name) (fin.get e.kept name) spans freed) where
  abbrev k : ℕ
  k = u.block.k

  abbrev old : Option Spot
  old = fin.get e.now name

  abbrev mid : List (List ℕ)
  mid = between k caps grid old

  abbrev before : Book
  before = shown_book f.classes f.size_max k caps grid e.now

  abbrev numbers : Extents → ℕ → Numbers
  numbers x pending = numbers_of k caps b (suffix_items b x) pending

  -- ---- a removal

  module _ (l : IsLoud k caps grid old 0 after b) where
    -- a flush may begin once the name is gone
    pub removed_starts : CanStart f.classes f.size_max (flush_start caps after kept_grid b u gone freed)
    removed_starts = started_without f.classes f.size_max caps grid kept_grid u e spans h name 0 after b
        (omega arith) l
        gone without freed frees
        (after_gone f.classes f.size_max caps grid kept_grid u e spans h name 0 after b (omega arith) l refl)

    module _ (reach : f.reach ≡ (numbers gone 0).reach) where
      pub removed_hands : HandsMatchPlan f u gone caps after freed
          (phase_now (course_of k caps (numbers gone 0) 0) gone)
      removed_hands = hands_alone f caps after kept_grid b u gone freed removed_starts base reach

      pub removed_lifts : (m : Map) → IsSizedBy m e.now
          → with_digests f.new_book.digests
          (next_book k m before (record { name = name; object = None })).book ≡ f.new_book
          → BeginsLift f caps after u gone freed (phase_now (course_of k caps (numbers gone 0) 0) gone)
      removed_lifts m sized book = record {
        hands = removed_hands;
        low = kept_end f.classes f.size_max caps after kept_grid b u gone freed removed_starts;
        book = ap (λ (x : Book). with_digests f.new_book.digests x)
            (subst (λ (x : Spots). book_of (laid f.classes f.size_max k f.reach
            (moving_header b (numbers gone 0).wall (numbers gone 0).slack caps after) x)
            ≡ (next_book k m before (record { name = name; object = None })).book) (sym without.now)
            begun_book) ∙ book;
      }
        where
          begun_book : book_of (laid f.classes f.size_max k f.reach
              (moving_header b (numbers gone 0).wall (numbers gone 0).slack caps after)
              (fin.remove e.now name))
              ≡ (next_book k m before (record { name = name; object = None })).book
          begun_book = book_begun f.classes f.size_max caps grid kept_grid u e spans h m sized
              (record { name = name; object = None }) after b l (numbers gone 0).wall (numbers gone 0).slack
              f.reach
              (fin.remove e.now name) removed_starts.low
              (subst (λ (x : Spots). AreNamed x) without.now removed_starts.below.named)
              (sized_gone m e.now name sized) removed_starts.below.grid_full.full
              (buffered_removed f.classes f.size_max caps grid kept_grid u e spans h m sized
              (record { name = name; object = None }) after b l removed_starts.low (numbers gone 0).wall
              (numbers gone 0).slack f.reach refl)

  -- ---- a put

  module _ (is : IsName name) (object : List ℕ) (small : length object ≤ f.size_max)
      (l : IsLoud k caps grid old (length object) after b) where
    abbrev size : ℕ
    size = length object

    -- the book of after is the next one but for its digests, for each map of before whose objects have
    -- these sizes
    abbrev IsNext : Map → Type 0
    IsNext m = with_digests f.new_book.digests
        (next_book k m before (record { name = name; object = Some object })).book ≡ f.new_book

    -- what stands after a put, where the name is set again
    put_now : (s : Spot) (key : ℕ) (put : Extents) → IsWith name s key gone put
        → put.now ≡ fin.insert e.now name s
    put_now s key put joins = joins.now ∙ ap (λ (x : Spots). fin.insert x name s) without.now
        ∙ insert-remove e.now name s

    book_put : (m : Map) (sized : IsSizedBy m e.now) (s : Spot) (key : ℕ) (put : Extents)
        → IsWith name s key gone put
        → s.size ≡ size → b < f.classes → AreNamed put.now → length after ≡ 32 → (wall slack : ℕ)
        → AreBuffered b (begun f.classes f.size_max caps grid kept_grid u e spans h m sized
        (record { name = name; object = Some object }) after b l wall slack f.reach (fin.insert e.now name s))
        (fin.insert e.now name s) (names f.classes f.size_max caps grid kept_grid u e spans h m sized
        (record { name = name; object = Some object }) after b l)
        → book_of (laid f.classes f.size_max k f.reach (moving_header b wall slack caps after) put.now)
        ≡ (next_book k m before (record { name = name; object = Some object })).book
    book_put m sized s key put joins same low named long wall slack are =
        subst (λ (x : Spots). book_of (laid f.classes f.size_max k f.reach
        (moving_header b wall slack caps after) x)
        ≡ (next_book k m before (record { name = name; object = Some object })).book)
        (sym (put_now s key put joins))
        (book_begun f.classes f.size_max caps grid kept_grid u e spans h m sized
        (record { name = name; object = Some object }) after b l wall slack f.reach
        (fin.insert e.now name s) low
        (subst (λ (x : Spots). AreNamed x) (put_now s key put joins) named)
        (sized_put m e.now name object s (sym same) sized) long are)

    -- ---- whose object found room

    module _ (place key : ℕ) (placed : PlacedTo k caps mid size after place) (put : Extents)
        (joins : IsWith name (record { place = place; size = size }) key gone put) where
      pub placed_starts : CanStart f.classes f.size_max (flush_start caps after kept_grid b u put freed)
      placed_starts = started_with f.classes f.size_max caps grid kept_grid u e spans h name size after b
          small l gone
          without freed frees is place key placed put joins

      -- Its bytes are free, and end within the reach.
      pub placed_free : IsFreeSpace gone.now gone.kept place size
      placed_free = record {
        live = subst (λ (x : Spots). (q : List ℕ) (s : Spot) → fin.get x q ≡ Some s → LiesApart place size s)
            (sym without.now) (λ q s there. placed_apart_now f.classes f.size_max caps grid kept_grid u e
            spans h name
            size place after placed q s (left_over e.now name q s there).1);
        held = subst (λ (x : Spots). (q : List ℕ) (s : Spot) → fin.get x q ≡ Some s → LiesApart place size s)
            (sym without.kept) (placed_apart_kept f.classes f.size_max caps grid kept_grid u e spans h name
            size place
            after placed);
      }

      pub placed_in_reach : place + size ≤ (numbers put 0).reach
      placed_in_reach = omega (
        arith,
        placed_within f.classes f.size_max caps grid kept_grid u e spans h name size place after placed,
        wall_past_end f.classes f.size_max caps after kept_grid b u put freed placed_starts 0 (omega arith),
        reach_past_wall f.classes f.size_max caps after kept_grid b u put freed placed_starts 0 (omega arith),
      )

      module _ (reach : f.reach ≡ (numbers put 0).reach) where
        pub placed_hands : HandsMatchPlan f u put caps after freed
            (phase_now (course_of k caps (numbers put 0) 0) put)
        placed_hands = hands_alone f caps after kept_grid b u put freed placed_starts base reach

        pub placed_lifts : (m : Map) → IsSizedBy m e.now → IsNext m
            → BeginsLift f caps after u put freed (phase_now (course_of k caps (numbers put 0) 0) put)
        placed_lifts m sized book = record {
          hands = placed_hands;
          low = kept_end f.classes f.size_max caps after kept_grid b u put freed placed_starts;
          book = ap (λ (x : Book). with_digests f.new_book.digests x)
              (book_put m sized (record { place = place; size = size }) key put joins refl placed_starts.low
              placed_starts.below.named placed_starts.below.grid_full.full (numbers put 0).wall
              (numbers put 0).slack
              (buffered_placed f.classes f.size_max caps grid kept_grid u e spans h m sized
              (record { name = name; object = Some object }) after b l placed_starts.low (numbers put 0).wall
              (numbers put 0).slack f.reach place placed)) ∙ book;
        }

    -- ---- whose object waits

    module _ (missed : is_quiet (new_charged k caps mid size) ≡ false) where
      pub pending_starts : CanStart f.classes f.size_max (flush_start caps after kept_grid b u gone freed)
      pending_starts = started_without f.classes f.size_max caps grid kept_grid u e spans h name size after
          b small l
          gone without freed frees
          (after_missed f.classes f.size_max caps grid kept_grid u e spans h name size after b small l missed)

      pub pending_some : 1 ≤ size
      pending_some = new_some k caps grid old size missed

      pub pending_high : b ≤ class_of size
      pending_high = new_high f.classes f.size_max caps grid kept_grid u e spans h name size after b small l
          missed

      pub pending_new : fin.get gone.now name ≡ None
      pending_new = ap (λ (x : Spots). fin.get x name) without.now ∙ get-remove_here e.now name

      module _ (place : ℕ) (reach : f.reach ≡ (numbers gone size).reach) (ends : place + size ≡ f.reach) where
        pub pending_is_free : IsFreeSpace gone.now gone.kept place size
        pending_is_free = pending_free f caps after kept_grid b u gone freed pending_starts base name is
            pending_new
            (record { place = place; size = size }) 0 pending_some small pending_high reach ends

        module _ (key : ℕ) (put : Extents) (joins : IsWith name (record { place = place; size = size }) key
            gone put)
          where
            pub pending_begins : Begins k caps (numbers gone size) (suffix_items b gone)
                (Some (item_at key (record { place = place; size = size })))
            pending_begins = begins_pending f.classes f.size_max caps after kept_grid b u gone freed
                pending_starts name
                (record { place = place; size = size }) key put pending_new joins pending_some small
                pending_high
                (omega (arith, ends, reach))

            -- the items of the table are those of before and the pending one
            pub pending_items : IsPermutation (with_pending (suffix_items b gone)
                (Some (item_at key (record { place = place; size = size })))) (suffix_items b put)
            pending_items = items_with b gone put name (record { place = place; size = size }) key pending_new
                joins.now joins.keys (and_from (nat_lt 0 size) (nat_le b (class_of size))
                (lt-ltb 0 size (omega (arith, pending_some))) (le-leb b (class_of size) pending_high))

            pub pending_hands : HandsMatchPlan f u put caps after freed
                (phase_now (course_of k caps (numbers gone size) size) put)
            pending_hands = hands_pending f caps after kept_grid b u gone freed pending_starts base name is
                pending_new
                (record { place = place; size = size }) key pending_some small pending_high reach ends put
                joins

            pub pending_lifts : (m : Map) → IsSizedBy m e.now → IsNext m
                → BeginsLift f caps after u put freed
                (phase_now (course_of k caps (numbers gone size) size) put)
            pending_lifts m sized book = record {
              hands = pending_hands;
              low = subst (λ (x : Spots). AllEndBy x (end_of k caps)) (sym joins.kept)
                  (kept_end f.classes f.size_max caps after kept_grid b u gone freed pending_starts);
              book = ap (λ (x : Book). with_digests f.new_book.digests x)
                  (book_put m sized (record { place = place; size = size }) key put joins refl
                  pending_starts.low
                  joins.table.now_named pending_starts.below.grid_full.full (numbers gone size).wall
                  (numbers gone size).slack
                  (buffered_pending f.classes f.size_max caps grid kept_grid u e spans h m sized
                  (record { name = name; object = Some object }) after b l pending_starts.low
                  (numbers gone size).wall
                  (numbers gone size).slack f.reach (record { place = place; size = size }) pending_high))
                  ∙ book;
            }
