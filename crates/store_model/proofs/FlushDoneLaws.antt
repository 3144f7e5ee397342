-- A store after its flush, whether or not it failed.
use Rattle.std.specs.Prelude.{◌≡◌, ℕ, ◌+◌, ◌-◌, ◌*◌, ◌<◌, ◌≤◌, true, false, List, slice_index, Option, None, Ok, Err, IsTrue, vec_len}
use Rattle.std.proofs.Common.{arith, sym, ◌∙◌, ap, subst, inl, inr}
use Rattle.disk_face.specs.States as disk
use Rattle.disk_face.specs.Counts.{HasCause}
use Rattle.disk_face.specs.Moments.{Leaves}
use Rattle.size_class.specs.Rows.{cells_of}
use Rattle.size_class.specs.declared.TheConstants.{SIZE_MAX}
use Rattle.placement_model.specs.Laid.{laid}
use Rattle.slot_codec.specs.Readable.{IsSuperBlock}
use Rattle.slot_codec.specs.Reading.{is_version}
use Rattle.slot_codec.specs.Spelling.{cap, head_len}
use Rattle.slot_codec.specs.declared.codec.SuperBlock.{SuperBlock}
use Rattle.logged_pair.specs.Slots.{has_logs, used_in}
use Rattle.map_model.specs.Requests as ask
use Rattle.map_model.specs.Requests.{Change, changed}
use Rattle.segment_layout.specs.Books.{Book, is_quiet, next_book, trigger, volumes, with_digests}
use Rattle.table_rules.specs.Tables.{book_of}
use Rattle.segment_layout.specs.Shapes.{boundary_of}
use Rattle.map_model.specs.Maps.{Map}
use Rattle.store_model.specs.Keeps.{now_map}
use Rattle.store_model.specs.Sized.{IsSizedBy}
use Rattle.std.proofs.lemmas.Bool.{cases_lt}
use Rattle.std.specs.FinMap as fin
use Rattle.segment_layout.specs.Layouts.{caps_of, grid_of}
use Rattle.extent_table.specs.Extents.{Spots, digests_seen}
use Rattle.flush_model.specs.Phases.{PlanState}
use Rattle.flush_run.specs.declared.hands.Hands.{Hands}
use Rattle.flush_run.specs.Calls.{CallsSoFar, piece_calls}
use Rattle.flush_run.specs.FlushFrames.{FlushFrame}
use Rattle.flush_run.specs.Loops.{phase_header}
use Rattle.flush_run.specs.Parts.{FitsVersion, HandsValue, parts_of, saved_digests, size_in}
use Rattle.flush_run.proofs.SizeLaws.{sizes_len}
use Rattle.flush_run.specs.Settling.{FlushEnds}
use Rattle.store_model.specs.declared.answers.Refusal.{Refusal}
use Rattle.store_model.specs.declared.answers.Done.{Done}
use Rattle.store_model.specs.Connection.{IsOver, StoreValue, RestsOnTable, base_of, limits_of, state_of}
use Rattle.store_model.specs.Flushed.{IsFlushed}
use Rattle.store_model.specs.Flushes.{IsFlush, IsFlushImage, flush_boundary, map_after, names_after, size_after}
use Rattle.store_model.specs.Flushing.{CanMakeFlush, BeforeChange, flight_of, lift_start}
use Rattle.store_model.specs.Inside.{Inside, IsWhole, kept_of}
use Rattle.store_model.specs.Quiet.{asked_after, charges_of}
use Rattle.store_model.specs.States.{Facts, State, Step, refusal}
use Rattle.store_model.specs.Answers.{facts_at}
use Rattle.store_model.specs.Digested.{digested_book}
use Rattle.store_model.specs.Stores.{IsStore}
use Rattle.store_model.proofs.DigestLaws.{next_digests}
use Rattle.store_model.proofs.FlushLaws.{can_fly, flush_content, flush_left, flush_step, some_flight}
use Rattle.store_model.proofs.FlushedLaws.{ended_only, ended_opens, ended_over, ended_rests, ended_state, ended_store, flushed_view, flushed_whole}
use Rattle.store_model.proofs.QuietLaws.{quiet_by_book}
use Rattle.store_model.proofs.StepLaws.{facts_same}
use Rattle.store_model.proofs.MadeFlushLaws.{IsFlown, same_charges, items_total, len_after, sizes_after}

module _ {C : ℕ} (s : Inside C) (c : Change) (hands1 : Hands C) (p : PlanState) (place : ℕ) (bytes : List ℕ)
    (hands2 : Hands C) (a d : disk.State) (w : IsFlown s c hands1 p place bytes hands2 a d) where
  abbrev ks : StoreValue
  ks = kept_of s

  abbrev x0 : HandsValue
  x0 = parts_of s.hands

  -- ---- what stays

  same_block : (used_in hands2.slots).block ≡ (used_in s.hands.slots).block
  same_block = w.made.keeps.block ∙ ap (λ (y : HandsValue). y.in_use.block) w.begun.rest

  same_base : hands2.base ≡ s.hands.base
  same_base = w.made.keeps.base ∙ ap (λ (y : HandsValue). y.base) w.begun.rest

  same_version : hands2.version ≡ s.hands.version
  same_version = w.made.keeps.version ∙ ap (λ (y : HandsValue). y.version) w.begun.rest

  same_buffer : vec_len hands2.buf ≡ 65536
  same_buffer = w.made.keeps.buffer ∙ ap (λ (y : HandsValue). y.buffer) w.begun.rest ∙ w.whole.buf

  same_names : hands2.table.names ≡ s.hands.table.names
  same_names = w.made.keeps.names ∙ w.begun.names

  same_cap : hands2.table.cap ≡ s.hands.table.cap
  same_cap = w.made.keeps.cap ∙ w.begun.cap

  same_form : has_logs hands2.slots ≡ has_logs s.hands.slots
  same_form = w.made.keeps.same_form ∙ ap (λ (y : HandsValue). y.has_logs) w.begun.rest

  -- no more names are live than a table of the version has records
  fits : FitsVersion (parts_of hands2)
  fits = record {
    plain = same_form ∙ w.whole.plain;
    known = subst (λ v. IsTrue (is_version v)) (sym same_version) w.whole.version;
    few = subst (λ n. fin.len hands2.table.now ≤ n)
        (same_cap ∙ w.whole.cap ∙ (λ i. cap ((sym same_block) i).names ((sym same_version) i)))
        (omega (
          arith,
          w.begun.few,
          w.begun.cap,
          same_cap,
          sizes_len hands1.table.now hands2.table.now w.made.sizes,
        ));
  }

  same_room : hands2.guard.room ≡ s.hands.guard.room
  same_room = w.made.keeps.room ∙ ap (λ (y : HandsValue). y.room) w.begun.rest

  same_sequence : (used_in hands1.slots).sequence ≡ (used_in s.hands.slots).sequence
  same_sequence = ap (λ (y : HandsValue). y.in_use.sequence) w.begun.rest

  same_moved : cells_of hands1.ledger.moved ≡ cells_of s.hands.ledger.moved
  same_moved = ap (λ (y : HandsValue). y.moved) w.begun.rest

  names_are : fin.len hands1.table.now ≡ names_after ks c
  names_are = ap (λ (m : Spots). fin.len m) w.begun.now ∙ len_after ks c place

  sizes_are : (q : List ℕ) → size_in hands2.table.now q ≡ size_after ks c q
  sizes_are q = w.made.sizes q ∙ ap (λ (m : Spots). size_in m q) w.begun.now ∙ sizes_after ks c place q

  asked_is : cells_of hands2.ledger.asked ≡ asked_after ks c
  asked_is = w.made.keeps.asked ∙ w.begun.asked

  most_is : CallsSoFar a.turn d.turn ks.moved (cells_of hands2.ledger.moved) (piece_calls + 4)
      ((used_in hands2.slots).sequence - ks.in_use.sequence + 1) (names_after ks c)
  most_is = subst (λ n. CallsSoFar a.turn d.turn ks.moved (cells_of hands2.ledger.moved) (piece_calls + 4)
      ((used_in hands2.slots).sequence - ks.in_use.sequence + 1) n) names_are
      (subst (λ q. CallsSoFar a.turn d.turn ks.moved (cells_of hands2.ledger.moved) (piece_calls + 4)
      ((used_in hands2.slots).sequence - q + 1) (fin.len hands1.table.now)) same_sequence
      (subst (λ r. CallsSoFar a.turn d.turn r (cells_of hands2.ledger.moved) (piece_calls + 4)
      ((used_in hands2.slots).sequence - (used_in hands1.slots).sequence + 1) (fin.len hands1.table.now))
      same_moved w.made.most))

  few_saves_is : (used_in hands2.slots).sequence ≤ ks.in_use.sequence + 2 * ks.in_use.block.k
  few_saves_is = omega (
    arith,
    w.made.few_saves,
    same_sequence,
    ap (λ (y : HandsValue). y.in_use.block.k) w.begun.rest,
  )

  few_image : (used_in hands2.slots).sequence + 1 ≤ ks.in_use.sequence + 2 * ks.in_use.block.k + 1
  few_image = omega (arith, few_saves_is)

  content_is : IsTrue a.tells → IsFlushImage C ks c a.file d.file
  content_is told = flush_content s w.whole w.unbroken c (parts_of hands1) p place bytes w.begun w.name
      w.object w.fresh a (w.over told) _ few_image (w.left x0 c _
      (can_fly s w.whole w.unbroken c (parts_of hands1)
      p place bytes w.begun w.name w.object w.fresh a (w.over told) false (λ t.
      absurd (let e : false ≡ true = t in cc))) told)

  left_is : IsTrue a.tells → RestsOnTable (base_of ks) ks.kept a → Leaves a d (IsFlushImage C ks c a.file)
  left_is told rests = flush_left s w.whole w.unbroken c (parts_of hands1) p place bytes w.begun w.name
      w.object w.fresh a (w.over told) _ few_image (w.left x0 c _
      (can_fly s w.whole w.unbroken c (parts_of hands1)
      p place bytes w.begun w.name w.object w.fresh a (w.over told) true (λ t. rests)) told)

  -- ---- the bytes moved

  lower_is : (q : ℕ) → q < flush_boundary ks c → slice_index (cells_of hands2.ledger.moved) q
      ≡ slice_index ks.moved q
  lower_is q low = w.made.lower q (omega (
    arith,
    low,
    w.begun.boundary,
    ap (λ y. boundary_of y.grid (trigger y)) (same_charges ks c),
  )) ∙ ap (λ (xs : List ℕ). slice_index xs q) same_moved

  few_by_size_is : (m : Map) → IsSizedBy m ks.now → (q : ℕ) → slice_index (cells_of hands2.ledger.moved) q
      ≤ slice_index ks.moved q + 2 * slice_index (volumes (changed c m)) q
  few_by_size_is m sized q = elim (cases_lt q p.numbers.boundary)
      as (λ _. slice_index (cells_of hands2.ledger.moved) q
      ≤ slice_index ks.moved q + 2 * slice_index (volumes (changed c m)) q) [
        | inl low ↦ omega (arith, w.made.lower q low, ap (λ (xs : List ℕ). slice_index xs q) same_moved)
        | inr high ↦
            let any = some_flight s w.whole w.unbroken c (parts_of hands1) p place bytes w.begun w.name
            w.object w.fresh a w.over in
            omega (
              arith,
              w.made.few q,
              ap (λ (xs : List ℕ). slice_index xs q) same_moved,
              items_total any.1 m sized q (omega (arith, high)),
            )
      ]

  few_is : IsTrue a.tells → (q : ℕ) → slice_index (cells_of hands2.ledger.moved) q
      ≤ slice_index ks.moved q + 2 * slice_index (volumes (map_after ks c a.file)) q
  few_is told = few_by_size_is (now_map ks a.file)
      (can_fly s w.whole w.unbroken c (parts_of hands1) p place bytes w.begun w.name w.object w.fresh a
      (w.over told) false (λ t. absurd (let e : false ≡ true = t in cc))).sized

  -- ---- where the disk failed

  abbrev failed_inside : Inside C
  failed_inside = record s { hands = hands2; kept_layout = hands2.layout; broken = true }

  pub failed_flush : {E : Type 0} (why : Refusal) (fault : E)
      → HasCause {T = Unit {0}} a.faults d.faults (Err fault)
      → IsFlush C c ks (kept_of failed_inside) a d (Err why)
  failed_flush why fault cause = record {
    value = tt;
    opened = λ told. tt;
    content = content_is;
    left = left_is;
    rests = λ told. tt;
    on_table = λ told. tt;
    few_saves = few_saves_is;
    calls = tt;
    most = most_is;
    lower = lower_is;
    few = few_is;
    few_by_size = few_by_size_is;
    frame = w.made.keeps.disk;
    cause = record { later = cause.later; rose = cause.rose; calm = tt };
  }

  -- ---- where it was done

  module _ (ends : (x : HandsValue) (e : Change) (g : BeforeChange)
      → CanMakeFlush C x e g (parts_of hands1) (lift_start p place) bytes a
      → FlushEnds C (flight_of C x e p.numbers.reach g) (parts_of hands2) d)
      (low : (used_in hands1.slots).sequence + 1 ≤ (used_in hands2.slots).sequence)
      (high : (used_in hands2.slots).sequence ≤ (used_in hands1.slots).sequence
      + 2 * (used_in hands1.slots).block.k)
    where
      abbrev done_inside : Inside C
      done_inside = record s { hands = hands2; kept_layout = hands2.layout }

      any : (g : BeforeChange) × CanMakeFlush C x0 c g (parts_of hands1) (lift_start p place) bytes a
      any = some_flight s w.whole w.unbroken c (parts_of hands1) p place bytes w.begun w.name w.object
          w.fresh a w.over

      any_ends : FlushEnds C (flight_of C x0 c p.numbers.reach any.0) (parts_of hands2) d
      any_ends = ends x0 c any.0 any.1

      view : IsFlushed C (used_in hands2.slots) hands2.table.now (saved_digests (parts_of hands2))
          (caps_of hands2.layout) (grid_of hands2.layout) (kept_of done_inside)
      view = flushed_view s hands2 any_ends.kept any_ends.kept_digests

      -- the flush began as it would for any map of these sizes, so the book is the next one of each
      book_is : (m : Map) → IsSizedBy m ks.now
          → (kept_of done_inside).book ≡ (next_book ks.in_use.block.k m ks.book c).book
      book_is m sized =
          let next : Map → Book = λ n. (next_book ks.in_use.block.k n ks.book c).book in
          let same : (next any.0.map).digests ≡ (next m).digests =
          next_digests ks.in_use.block.k any.0.map ks.book c
          ∙ sym (next_digests ks.in_use.block.k m ks.book c) in
          any_ends.book ∙ sym (w.begun.lifts any.0 any.1.sized).book
          ∙ ap (λ (ds : Option Map). with_digests ds (book_of (laid C SIZE_MAX (used_in hands1.slots).block.k
          p.numbers.reach (phase_header p (caps_of hands1.layout) (grid_of hands1.layout))
          hands1.table.now))) same
          ∙ (w.begun.lifts (record any.0 { map = m }) sized).book

      names_now : hands2.table.names ≡ (used_in hands2.slots).block.names
      names_now = same_names ∙ w.whole.room ∙ ap (λ (b : SuperBlock). b.names) (sym same_block)

      block_now : IsSuperBlock (used_in hands2.slots).block
      block_now = subst IsSuperBlock (sym same_block) (w.whole.sound w.unbroken).block

      base_now : head_len (used_in hands2.slots).block.names ≡ s.hands.base
      base_now = ap (λ (b : SuperBlock). head_len b.names) same_block ∙ sym w.whole.base

      pub done_store : IsStore C (kept_of done_inside)
      done_store = ended_store hands2 (flight_of C x0 c p.numbers.reach any.0) d any_ends names_now block_now
          fits (kept_of done_inside) view

      pub done_whole : IsWhole done_inside
      done_whole = flushed_whole s hands2 w.whole same_form same_version same_block same_base same_buffer
          any_ends.divisor
          same_names same_cap same_room any_ends.table any_ends.kept any_ends.empty done_store

      abbrev told_flight : IsTrue a.tells → FlushFrame
      told_flight told = flight_of C x0 c p.numbers.reach (record {
        map = (state_of ks a.file).map;
        kept_map = (state_of ks a.file).kept;
        kept_book = ks.kept_book;
        is_at_rest = false;
      })

      told_ends : (told : IsTrue a.tells) → FlushEnds C (told_flight told) (parts_of hands2) d
      told_ends told = ends x0 c _ (can_fly s w.whole w.unbroken c (parts_of hands1) p place bytes w.begun
          w.name w.object w.fresh a (w.over told) false (λ t. absurd (let e : false ≡ true = t in cc)))

      module _ (told : IsTrue a.tells) where
        still : IsTrue d.tells
        still = w.made.keeps.disk.stays.told ∙ told

        pub done_over : IsOver C (kept_of done_inside) d.file
        done_over = ended_over hands2 (told_flight told) d (told_ends told) names_now block_now fits
            (kept_of done_inside) view base_now still

        pub done_step : refusal (limits_of ks) (facts_at ks (ask.change c)) (ask.change c) ≡ None
            → is_quiet (charges_of ks c) ≡ false
            → Step (limits_of ks) (state_of ks a.file) (ask.change c) ask.kept
            (state_of (kept_of done_inside) d.file)
        done_step calm needs_flush =
            let h = w.whole.sound w.unbroken in
            let is = ended_state hands2 (told_flight told) d (told_ends told) names_now block_now fits
            (kept_of done_inside) view base_now still in
            flush_step (limits_of ks) (state_of ks a.file) (state_of (kept_of done_inside) d.file) c
            (ap (λ (f : Facts). refusal (limits_of ks) f (ask.change c))
            (facts_same ks a.file (ask.change c) h.now.named h.kept.named) ∙ calm)
            (quiet_by_book C ks a.file c h (w.over told) ∙ needs_flush) (ap (λ (x : State). x.map) is)
            (ap (λ (x : State). x.kept) is) (ap (λ (x : State). x.book) is)
            (ap (λ (x : State). x.kept_book) is)
            (omega (arith, low, same_sequence))
            (omega (arith, high, same_sequence, ap (λ (y : HandsValue). y.in_use.block.k) w.begun.rest))

      pub done_flush : (done : Done) (x : Unit {0}) → CallsSoFar a.turn d.turn (cells_of hands1.ledger.moved)
          (cells_of hands2.ledger.moved) 4 ((used_in hands2.slots).sequence - (used_in hands1.slots).sequence)
          (fin.len hands1.table.now)
          → {E : Type 0} → HasCause {E = E} a.faults d.faults (Ok x)
          → IsFlush C c ks (kept_of done_inside) a d (Ok done)
      done_flush done x calls cause = record {
        value = record {
          same_block = same_block;
          sizes = sizes_are;
          book = book_is;
          kept = any_ends.kept;
          kept_book = λ i. digested_book C (used_in hands2.slots).block.k (caps_of hands2.layout)
              (grid_of hands2.layout) (any_ends.kept i) (digests_seen hands2.version
              (any_ends.kept_digests i));
          asked = asked_is;
          saved = omega (arith, low, same_sequence);
        };
        opened = λ told. ended_opens hands2 (told_flight told) d (told_ends told) names_now block_now fits
            (kept_of done_inside) view base_now (still told);
        content = content_is;
        left = left_is;
        rests = λ told. ended_only hands2 (told_flight told) d (told_ends told) names_now block_now fits
            (kept_of done_inside) view base_now (still told);
        on_table = λ told. ended_rests hands2 (told_flight told) d (told_ends told) names_now block_now fits
            (kept_of done_inside) view base_now (still told);
        few_saves = few_saves_is;
        calls = subst (λ n. CallsSoFar a.turn d.turn ks.moved (cells_of hands2.ledger.moved) 4
            ((used_in hands2.slots).sequence - ks.in_use.sequence) n) names_are
            (subst (λ q. CallsSoFar a.turn d.turn ks.moved (cells_of hands2.ledger.moved) 4
            ((used_in hands2.slots).sequence - q) (fin.len hands1.table.now)) same_sequence
            (subst (λ r. CallsSoFar a.turn d.turn r (cells_of hands2.ledger.moved) 4
            ((used_in hands2.slots).sequence - (used_in hands1.slots).sequence) (fin.len hands1.table.now))
            same_moved calls));
        most = most_is;
        lower = lower_is;
        few = few_is;
        few_by_size = few_by_size_is;
        frame = w.made.keeps.disk;
        cause = record { later = cause.later; rose = tt; calm = cause.calm };
      }

-- ---- as contracts see the store

module _ {C : ℕ} (s : Inside C) (c : Change) (hands1 : Hands C) (p : PlanState) (place : ℕ) (bytes : List ℕ)
    (hands2 : Hands C) (a d : disk.State) (w : IsFlown s c hands1 p place bytes hands2 a d) (t : StoreValue)
    (is : kept_of s ≡ t) where
  abbrev stopped : StoreValue
  stopped = kept_of (record s { hands = hands2; kept_layout = hands2.layout; broken = true })

  pub failed_seen : {E : Type 0} (why : Refusal) (fault : E)
      → HasCause {T = Unit {0}} a.faults d.faults (Err fault) → IsFlush C c t stopped a d (Err why)
  failed_seen why fault cause = subst (λ (x : StoreValue). IsFlush C c x stopped a d (Err why)) is
      (failed_flush s c hands1 p place bytes hands2 a d w why fault cause)

  module _ (ends : (x : HandsValue) (e : Change) (g : BeforeChange)
      → CanMakeFlush C x e g (parts_of hands1) (lift_start p place) bytes a
      → FlushEnds C (flight_of C x e p.numbers.reach g) (parts_of hands2) d)
      (low : (used_in hands1.slots).sequence + 1 ≤ (used_in hands2.slots).sequence)
      (high : (used_in hands2.slots).sequence ≤ (used_in hands1.slots).sequence
      + 2 * (used_in hands1.slots).block.k)
    where
      abbrev after : StoreValue
      after = kept_of (record s { hands = hands2; kept_layout = hands2.layout })

      pub done_seen : {E : Type 0} (done : Done) → CallsSoFar a.turn d.turn (cells_of hands1.ledger.moved)
          (cells_of hands2.ledger.moved) 4 ((used_in hands2.slots).sequence - (used_in hands1.slots).sequence)
          (fin.len hands1.table.now)
          → HasCause {T = Unit {0}} {E = E} a.faults d.faults (Ok tt) → IsFlush C c t after a d (Ok done)
      done_seen done calls cause = subst (λ (x : StoreValue). IsFlush C c x after a d (Ok done)) is
          (done_flush s c hands1 p place bytes hands2 a d w ends low high done tt calls cause)

      pub step_seen : IsTrue a.tells → refusal (limits_of t) (facts_at t (ask.change c)) (ask.change c) ≡ None
          → is_quiet (charges_of t c) ≡ false
          → Step (limits_of t) (state_of t a.file) (ask.change c) ask.kept (state_of after d.file)
      step_seen told calm needs_flush = subst (λ (x : StoreValue). Step (limits_of x) (state_of x a.file)
          (ask.change c) ask.kept (state_of after d.file)) is
          (done_step s c hands1 p place bytes hands2 a d w ends low high told
          (subst (λ (x : StoreValue). refusal (limits_of x) (facts_at x (ask.change c)) (ask.change c) ≡ None)
          (sym is) calm) (subst (λ (x : StoreValue). is_quiet (charges_of x c) ≡ false) (sym is) needs_flush))
