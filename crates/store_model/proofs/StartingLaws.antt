-- A flush begins once the name of its change is gone, and where the new object was placed or waits.
use Rattle.std.specs.Prelude.{◌≡◌, ℕ, ◌+◌, ◌<◌, ◌≤◌, true, false, List, [], ◌++◌, fold, length, Option, refl}
use Rattle.std.proofs.Common.{arith, sym, ◌∙◌, ap, subst, inr}
use Rattle.std.proofs.lemmas.List.{append-nil}
use Rattle.std.specs.FinMap as fin
use Rattle.size_class.specs.Classes.{class_of}
use Rattle.size_class.specs.declared.TheConstants.{SIZE_MAX}
use Rattle.slot_codec.specs.Names.{IsName}
use Rattle.span_math.specs.declared.span.Span.{Span}
use Rattle.slot_codec.specs.Choice.{Digests}
use Rattle.map_model.specs.Maps.{Map}
use Rattle.map_model.specs.Requests.{Change}
use Rattle.segment_layout.specs.Books.{is_quiet, next_book, some_size, trigger, with_digests}
use Rattle.segment_layout.specs.Shapes.{boundary_of, end_of, is_boundary}
use Rattle.extent_table.specs.declared.spot.Spot.{Spot}
use Rattle.extent_table.specs.Extents.{Extents, Spots, digests_seen}
use Rattle.placement_model.specs.Held.{FreesSpot}
use Rattle.placement_model.specs.Quiet.{PlacedTo}
use Rattle.placement_model.specs.Reads.{read_at}
use Rattle.map_model.proofs.MapLaws.{insert-remove}
use Rattle.flush_model.specs.declared.item.Numbers.{Numbers}
use Rattle.flush_model.specs.Phases.{PlanState}
use Rattle.flush_model.specs.Plans.{numbers_of}
use Rattle.flush_run.specs.FlushFrames.{FlushFrame, IsFreeSpace}
use Rattle.flush_run.specs.Hands.{suffix_items}
use Rattle.flush_run.specs.Shelved.{phase_now}
use Rattle.flush_plan.specs.Shelves.{course_of}
use Rattle.flush_run.specs.Parts.{HandsValue, saved_digests}
use Rattle.placement_model.specs.Tried.{between, charged_by, new_charged}
use Rattle.store_model.specs.Lifting.{BeginsLift}
use Rattle.store_model.specs.Starts.{CanStart, IsLoud, IsWith, IsWithout, WasBefore, flush_start}
use Rattle.store_model.proofs.LiftStartLaws.{pending_high, pending_is_free, pending_lifts, pending_some, pending_starts, placed_free, placed_in_reach, placed_lifts, placed_starts, removed_lifts, removed_starts}
use Rattle.store_model.proofs.LooseLaws.{pending_loose, placed_loose, removed_loose}
use Rattle.store_model.proofs.ReachLaws.{reach_low, reach_past_wall, wall_past_end}
use Rattle.store_model.proofs.StartLaws.{placed_within}
use Rattle.store_model.specs.Digested.{IsDigestFor}
use Rattle.store_model.specs.Flushing.{IsBegun, IsStarted, MayBegin, BeforeChange, book_before, flight_of, shown_before}
use Rattle.store_model.specs.Quiet.{added, del_of, put_of, sizes_at}
use Rattle.store_model.proofs.DigestLaws.{few_gone, few_put, next_digests, next_with, seen_gone, seen_with, with_own}

-- A table has the digests of the parts, but for a name that was given an object's.
pub record HasDigest (x0 : HandsValue) (name object : List ℕ) (put : Extents) : Type 0 where
  pub digest : List ℕ
  pub same : put.digests ≡ fin.insert x0.table.digests name digest
  pub own : IsDigestFor (saved_digests x0) object digest

module _ {classes : ℕ} {kept_grid : List (List ℕ)} {x0 : HandsValue} (may : MayBegin classes kept_grid x0)
    (name : List ℕ) where
  abbrev k : ℕ
  k = x0.in_use.block.k

  abbrev old : Option Spot
  old = fin.get x0.table.now name

  -- ---- once the name is gone

  module _ (gone : Extents) (freed : List Span) (asked : List ℕ) (without : IsWithout name x0.table gone)
      (frees : FreesSpot old (fin.get x0.table.kept name) x0.spans freed)
      (after : List (List ℕ)) (b : ℕ) where
    abbrev parts : Extents → HandsValue
    parts e = record x0 { table = e; grid = after; spans = freed; asked = asked }

    abbrev h : WasBefore classes SIZE_MAX x0.caps x0.grid kept_grid x0.in_use x0.table x0.spans
    h = may.before

    -- some setting, where none matters
    abbrev some_setting : BeforeChange
    some_setting = record {
      map = read_at 0 [] x0.table.now;
      kept_map = read_at 0 [] x0.table.now;
      kept_book = book_before classes x0;
      is_at_rest = false;
    }

    -- the next book of any change has the digests of the change
    next_as_with : (m : Map) (c : Change)
        → with_digests (next_book k m (book_before classes x0) c).book.digests
        (next_book k m (shown_before classes x0) c).book ≡ (next_book k m (book_before classes x0) c).book
    next_as_with m c =
        (λ i. with_digests (next_digests k m (book_before classes x0) c i)
        (next_book k m (shown_before classes x0) c).book)
        ∙ sym (next_with k m (shown_before classes x0) c (saved_digests x0))

    -- ---- a removal

    module _ (l : IsLoud k x0.caps x0.grid old 0 after b) where
      abbrev numbers : Numbers
      numbers = numbers_of k x0.caps b (suffix_items b gone) 0

      abbrev del_flight : ℕ → BeforeChange → FlushFrame
      del_flight reach g = flight_of classes x0 (del_of name) reach g

      pub del_starts : CanStart classes SIZE_MAX (flush_start x0.caps after kept_grid b x0.in_use gone freed)
      del_starts = removed_starts (del_flight 0 some_setting) x0.caps x0.grid kept_grid x0.in_use x0.table
          x0.spans h may.base name after b gone without freed frees l

      pub begun_removed : (p : PlanState) → IsStarted b k x0.caps gone p
          → asked ≡ fold added x0.asked (sizes_at old)
          → gone.digests ≡ fin.remove x0.table.digests name
          → IsBegun classes x0 (del_of name) (parts gone) p 0
      begun_removed p st sums taken =
          let reach : p.numbers.reach ≡ numbers.reach = ap (λ (q : PlanState). q.numbers.reach) st.value in
          record {
            lifts = λ g sized. subst (λ (q : PlanState). BeginsLift
                (del_flight p.numbers.reach g) x0.caps after
                x0.in_use gone freed q) (sym st.value)
                (removed_lifts (del_flight p.numbers.reach g) x0.caps x0.grid kept_grid x0.in_use x0.table
                x0.spans h may.base name after b gone without freed frees l reach g.map sized
                (next_as_with g.map (del_of name)));
            loose = λ m sized balanced. removed_loose (del_flight p.numbers.reach some_setting) x0.caps
                x0.grid kept_grid x0.in_use x0.table x0.spans h may.base name after b gone without
                freed frees m sized
                balanced l reach;
            now = without.now;
            free = record { live = λ q s there. inr (omega arith); held = λ q s there. inr (omega arith) };
            within = omega arith;
            longer = omega (
              arith,
              reach,
              wall_past_end classes SIZE_MAX x0.caps after kept_grid b x0.in_use gone freed del_starts 0
                  (omega arith),
              reach_past_wall classes SIZE_MAX x0.caps after kept_grid b x0.in_use gone freed del_starts 0
                  (omega arith),
            );
            low = omega (
              arith,
              reach,
              reach_low classes SIZE_MAX x0.caps after kept_grid b x0.in_use gone freed del_starts
                  0 (omega arith),
            );
            whole = subst (λ (q : PlanState). is_boundary after q.numbers.boundary ≡ true) (sym st.value)
                del_starts.boundary;
            boundary = ap (λ (q : PlanState). q.numbers.boundary) st.value ∙ l.boundary
                ∙ ap (λ (g : List (List ℕ)). boundary_of g (trigger (charged_by k x0.caps x0.grid old 0)))
                l.after_is;
            divisor = may.divisor ∙ sym (ap (λ (q : PlanState). q.k) st.value);
            asked = sums ∙ ap (λ (xs : List ℕ). fold added x0.asked xs) (sym (append-nil (sizes_at old)));
            kept = without.kept;
            table = without.table;
            names = without.names;
            cap = without.cap;
            few = omega (
              arith,
              few_gone x0.table.now name x0.table.cap may.few,
              ap (λ (m : Spots). fin.len m) without.now,
              without.cap,
            );
            digests = ap (λ (d : Digests). digests_seen x0.version d) taken
                ∙ seen_gone x0.version x0.table.digests name;
            rest = refl;
          }

    -- ---- a put

    module _ (is : IsName name) (object : List ℕ) (small : length object ≤ SIZE_MAX)
        (l : IsLoud k x0.caps x0.grid old (length object) after b) where
      abbrev size : ℕ
      size = length object

      abbrev spot_at : ℕ → Spot
      spot_at place = record { place = place; size = size }

      abbrev put_flight : ℕ → BeforeChange → FlushFrame
      put_flight reach g = flight_of classes x0 (put_of name object) reach g

      now_is : (place key : ℕ) (put : Extents) → IsWith name (spot_at place) key gone put
          → put.now ≡ fin.insert x0.table.now name (spot_at place)
      now_is place key put joins = joins.now
          ∙ ap (λ (m : Spots). fin.insert m name (spot_at place)) without.now
          ∙ insert-remove x0.table.now name (spot_at place)

      few_joined : (place key : ℕ) (put : Extents) → IsWith name (spot_at place) key gone put
          → fin.len gone.now < gone.cap → fin.len put.now ≤ put.cap
      few_joined place key put joins room = omega (
        arith,
        few_put gone.now name (spot_at place) gone.cap (omega (arith, room)) (inr room),
        ap (λ (m : Spots). fin.len m) joins.now,
        joins.cap,
      )

      free_is : (place : ℕ) → IsFreeSpace gone.now gone.kept place size
          → IsFreeSpace (fin.remove x0.table.now name) x0.table.kept place size
      free_is place free = subst (λ (m : Spots). IsFreeSpace (fin.remove x0.table.now name) m place size)
          without.kept (subst (λ (m : Spots). IsFreeSpace m gone.kept place size) without.now free)

      -- whose object found room

      module _ (place : ℕ) (placed : PlacedTo k x0.caps (between k x0.caps x0.grid old) size
          after place) where
        pub put_starts : (key : ℕ) (put : Extents) → IsWith name (spot_at place) key gone put
            → CanStart classes SIZE_MAX (flush_start x0.caps after kept_grid b x0.in_use put freed)
        put_starts key put joins = placed_starts (put_flight 0 some_setting) x0.caps x0.grid kept_grid
            x0.in_use x0.table x0.spans h may.base name after b gone without freed frees is object small l
            place key placed
            put joins

        pub begun_placed : (key : ℕ) (put : Extents) → IsWith name (spot_at place) key gone put
            → (p : PlanState)
            → IsStarted b k x0.caps put p
            → asked ≡ fold added x0.asked (sizes_at old ++ some_size size)
            → HasDigest x0 name object put → fin.len gone.now < gone.cap
            → IsBegun classes x0 (put_of name object) (parts put) p place
        begun_placed key put joins p st sums given room =
            let starts = put_starts key put joins in
            let reach : p.numbers.reach ≡ (numbers_of k x0.caps b (suffix_items b put) 0).reach =
            ap (λ (q : PlanState). q.numbers.reach) st.value in
            record {
              lifts = λ g sized. subst (λ (q : PlanState). BeginsLift
                  (put_flight p.numbers.reach g) x0.caps after
                  x0.in_use put freed q) (sym st.value)
                  (placed_lifts (put_flight p.numbers.reach g) x0.caps x0.grid kept_grid x0.in_use x0.table
                  x0.spans h may.base name after b gone without freed frees is object small l place key placed
                  put joins reach g.map sized (next_as_with g.map (put_of name object)));
              loose = λ m sized balanced. placed_loose (put_flight p.numbers.reach some_setting) x0.caps
                  x0.grid kept_grid x0.in_use x0.table x0.spans h may.base name after b gone without
                  freed frees m sized
                  balanced is object small l place key placed put joins reach;
              now = now_is place key put joins;
              free = free_is place (placed_free (put_flight 0 some_setting) x0.caps x0.grid kept_grid
                  x0.in_use x0.table x0.spans h may.base name after b gone without freed frees is object small
                  l place key placed put joins);
              within = omega (
                arith,
                reach,
                placed_in_reach (put_flight 0 some_setting) x0.caps x0.grid kept_grid x0.in_use x0.table
                    x0.spans h may.base name after b gone without freed frees is object small l place key
                    placed put joins,
              );
              longer = omega (
                arith,
                reach,
                wall_past_end classes SIZE_MAX x0.caps after kept_grid b x0.in_use put freed starts
                    0 (omega arith),
                reach_past_wall classes SIZE_MAX x0.caps after kept_grid b x0.in_use put freed starts 0
                    (omega arith),
              );
              low = omega (
                arith,
                reach,
                reach_low classes SIZE_MAX x0.caps after kept_grid b x0.in_use put freed starts
                    0 (omega arith),
              );
              whole = subst (λ (q : PlanState). is_boundary after q.numbers.boundary ≡ true) (sym st.value)
                  starts.boundary;
              boundary = ap (λ (q : PlanState). q.numbers.boundary) st.value ∙ l.boundary
                  ∙ ap (λ (g : List (List ℕ)). boundary_of g
                  (trigger (charged_by k x0.caps x0.grid old size)))
                  l.after_is;
              divisor = may.divisor ∙ sym (ap (λ (q : PlanState). q.k) st.value);
              asked = sums;
              kept = joins.kept ∙ without.kept;
              table = joins.table;
              names = joins.names ∙ without.names;
              cap = joins.cap ∙ without.cap;
              few = few_joined place key put joins room;
              digests = ap (λ (d : Digests). digests_seen x0.version d) given.same
                  ∙ seen_with x0.version x0.table.digests name given.digest
                  ∙ with_own (saved_digests x0) name object given.digest given.own;
              rest = refl;
            }

        -- it ends where the layout does, or before
        pub placed_low : place + size ≤ end_of k x0.caps
        placed_low = placed_within classes SIZE_MAX x0.caps x0.grid kept_grid x0.in_use x0.table x0.spans h
            name size place after placed

      -- whose object waits

      module _ (missed : is_quiet (new_charged k x0.caps (between k x0.caps x0.grid old) size) ≡ false) where
        pub wait_starts : CanStart classes SIZE_MAX
            (flush_start x0.caps after kept_grid b x0.in_use gone freed)
        wait_starts = pending_starts (put_flight 0 some_setting) x0.caps x0.grid kept_grid x0.in_use x0.table
            x0.spans h may.base name after b gone without freed frees is object small l missed

        pub wait_some : 1 ≤ size
        wait_some = pending_some (put_flight 0 some_setting) x0.caps x0.grid kept_grid x0.in_use x0.table
            x0.spans h may.base name after b gone without freed frees is object small l missed

        pub wait_high : b ≤ class_of size
        wait_high = pending_high (put_flight 0 some_setting) x0.caps x0.grid kept_grid x0.in_use x0.table
            x0.spans h may.base name after b gone without freed frees is object small l missed

        pub begun_waiting : (place key : ℕ) (put : Extents) → IsWith name (spot_at place) key gone put
            → (p : PlanState) → p ≡ phase_now (course_of k x0.caps (numbers_of k x0.caps b
            (suffix_items b gone) size) size) put
            → place + size ≡ p.numbers.reach
            → asked ≡ fold added x0.asked (sizes_at old ++ some_size size)
            → HasDigest x0 name object put → fin.len gone.now < gone.cap
            → IsBegun classes x0 (put_of name object) (parts put) p place
        begun_waiting place key put joins p value ends sums given room =
            let reach : p.numbers.reach ≡ (numbers_of k x0.caps b (suffix_items b gone) size).reach =
            ap (λ (q : PlanState). q.numbers.reach) value in
            record {
              lifts = λ g sized. subst (λ (q : PlanState). BeginsLift
                  (put_flight p.numbers.reach g) x0.caps after
                  x0.in_use put freed q) (sym value)
                  (pending_lifts (put_flight p.numbers.reach g) x0.caps x0.grid kept_grid x0.in_use x0.table
                  x0.spans h may.base name after b gone without freed frees is object small l missed place
                  reach ends key put joins g.map sized (next_as_with g.map (put_of name object)));
              loose = λ m sized balanced. pending_loose (put_flight p.numbers.reach some_setting) x0.caps
                  x0.grid kept_grid x0.in_use x0.table x0.spans h may.base name after b gone without
                  freed frees m sized
                  balanced is object small l missed place reach ends key put joins;
              now = now_is place key put joins;
              free = free_is place (pending_is_free (put_flight p.numbers.reach some_setting) x0.caps x0.grid
                  kept_grid x0.in_use x0.table x0.spans h may.base name after b gone without freed frees is
                  object small l missed place reach ends);
              within = omega (arith, ends);
              longer = omega (
                arith,
                reach,
                wall_past_end classes SIZE_MAX x0.caps after kept_grid b x0.in_use gone freed
                    wait_starts size small,
                reach_past_wall classes SIZE_MAX x0.caps after kept_grid b x0.in_use gone freed wait_starts
                    size small,
              );
              low = omega (
                arith,
                reach,
                reach_low classes SIZE_MAX x0.caps after kept_grid b x0.in_use gone freed
                    wait_starts size small,
              );
              whole = subst (λ (q : PlanState). is_boundary after q.numbers.boundary ≡ true) (sym value)
                  wait_starts.boundary;
              boundary = ap (λ (q : PlanState). q.numbers.boundary) value ∙ l.boundary
                  ∙ ap (λ (g : List (List ℕ)). boundary_of g
                  (trigger (charged_by k x0.caps x0.grid old size)))
                  l.after_is;
              divisor = may.divisor ∙ sym (ap (λ (q : PlanState). q.k) value);
              asked = sums;
              kept = joins.kept ∙ without.kept;
              table = joins.table;
              names = joins.names ∙ without.names;
              cap = joins.cap ∙ without.cap;
              few = few_joined place key put joins room;
              digests = ap (λ (d : Digests). digests_seen x0.version d) given.same
                  ∙ seen_with x0.version x0.table.digests name given.digest
                  ∙ with_own (saved_digests x0) name object given.digest given.own;
              rest = refl;
            }
