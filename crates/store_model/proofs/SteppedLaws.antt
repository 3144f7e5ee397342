-- A step of a flush in hand: what it may count on, and what the store and its disk are after it.
use Rattle.std.specs.Prelude.{◌≡◌, ℕ, ◌+◌, ◌*◌, ◌≤◌, ◌<◌, true, false, List, length, slice_index, Some, Ok, IsTrue, refl}
use Rattle.std.proofs.Common.{arith, ap, sym, ◌∙◌, subst, inl, inr}
use Rattle.std.proofs.lemmas.Bool.{cases_Bool, cases_lt}
use Rattle.std.specs.FinMap as fin
use Rattle.disk_face.specs.States as disk
use Rattle.data_area.specs.Pieces.{pieces}
use Rattle.size_class.specs.Classes.{class_of}
use Rattle.size_class.specs.Rows.{cells_of}
use Rattle.size_class.specs.declared.TheConstants.{SIZE_MAX}
use Rattle.size_class.proofs.ClassLaws.{class_below}
use Rattle.slot_codec.specs.Reading.{is_version}
use Rattle.slot_codec.specs.Spelling.{cap, head_len}
use Rattle.slot_codec.specs.declared.codec.SuperBlock.{SuperBlock}
use Rattle.logged_pair.specs.Slots.{used_in}
use Rattle.map_model.specs.Maps.{Map}
use Rattle.segment_layout.specs.Books.{Book, with_digests, volumes, volumes_of_sizes}
use Rattle.segment_layout.specs.Bounds.{Loose}
use Rattle.segment_layout.specs.Layouts.{caps_of, divisor_of, grid_of}
use Rattle.segment_layout.specs.declared.layout.Layout.{Layout}
use Rattle.segment_layout.proofs.ShapeLaws.{caps-settled_above}
use Rattle.table_rules.specs.Tables.{book_of, sizes}
use Rattle.placement_model.specs.Laid.{laid}
use Rattle.extent_table.specs.Extents.{records_of}
use Rattle.flush_model.specs.Plans.{class_total}
use Rattle.flush_plan.specs.Shelves.{PlanFrame}
use Rattle.flush_run.specs.declared.hands.Hands.{Hands}
use Rattle.flush_run.specs.declared.phase.Phase.{Phase}
use Rattle.flush_run.specs.Calls.{CallsSoFar, IsOpenRow}
use Rattle.flush_run.specs.FlushFrames.{FlushFrame, LeavesOldOrNew, MidFlush}
use Rattle.flush_run.specs.MadeMoves.{calls_of_save}
use Rattle.flush_run.specs.Loops.{phase_header}
use Rattle.flush_run.specs.Parts.{HandsValue, KeepsSettling, parts_of, saved_digests}
use Rattle.flush_run.specs.Phases.{CanAdvance, GoesOn, KeepsIn, PaidIn, course_in, items_in, phase_in}
use Rattle.flush_run.specs.Steps.{HasMovedOne}
use Rattle.flush_run.specs.Sums.{SumsUp}
use Rattle.flush_run.proofs.HandLaws.{paid_more}
use Rattle.flush_run.proofs.LaidPlaceLaws.{new_cap}
use Rattle.flush_run.proofs.MadeLaws.{settling_of}
use Rattle.flush_run.proofs.OneStepLaws.{sums_over}
use Rattle.flush_run.proofs.SumLaws.{saves_high, sums_begin, sums_next, sums_still, steps_some}
use Rattle.store_model.specs.Sized.{IsSizedBy}
use Rattle.store_model.proofs.SizedLaws.{sized_volumes}
use Rattle.store_model.specs.declared.answers.Progress.TheVariants as progress
use Rattle.store_model.specs.declared.hand.Began.{Began}
use Rattle.store_model.specs.Facts.{bytes_left_of}
use Rattle.store_model.specs.Steps.{MovesOne, StepsHalf, SumsOfStep}
use Rattle.store_model.specs.Inside.{Inside, IsGoing, IsWhole, hand_of, kept_of, seen, still_frame, untold}
use Rattle.store_model.specs.Connection.{FlushInHand, StoreValue}
use Rattle.store_model.specs.Halves.{HalfAgrees, IsHalfway, Origin, frame_at}
use Rattle.store_model.specs.Quiet.{added}
use Rattle.store_model.proofs.HalfLaws.{half_left}
use Rattle.store_model.proofs.BytesLeftLaws.{left_fewer, risen_more, sized_any}
use Rattle.store_model.proofs.KeepLaws.{length-records_of}
use Rattle.store_model.proofs.GoingOnLaws.{can_go, goes_with, sums_anew, with_maps}

-- ---- from the store's fields

-- What a store with a flush in hand is to what contracts see of it.
pub record StepsFrom {C : ℕ} (began : Began C) (s : Inside C) (v : Phase C) (t : StoreValue) : Type 0 where
  pub going : IsGoing began s v
  pub view : seen (Some v) began s ≡ t

module _ {C : ℕ} {began : Began C} {s : Inside C} {v : Phase C} {t : StoreValue}
    (x : StepsFrom began s v t) where
  -- what is known of a store and its flush, is known of what contracts see
  pub as_seen : (P : StoreValue → FlushInHand → Type 0) → P (seen (Some v) began s) (hand_of began s v)
      → (h : FlushInHand) → t.in_hand ≡ Some h → P t h
  as_seen P p h is =
      let all : Some (hand_of began s v) ≡ Some h = ap (λ (y : StoreValue). y.in_hand) x.view ∙ is in
      let same : hand_of began s v ≡ h = (cc) in
      subst (λ y. P t y) same (subst (λ y. P y (hand_of began s v)) x.view p)

  -- and the other way round
  pub half_at : {a : disk.State} → IsHalfway C t a → IsTrue a.tells
      → (o : Origin) × HalfAgrees C (seen (Some v) began s) (hand_of began s v) o a
  half_at {a} h told =
      let at = h.half told in
      let all : Some h.hand ≡ Some (hand_of began s v) =
      sym h.is ∙ ap (λ (y : StoreValue). y.in_hand) (sym x.view) in
      let same : h.hand ≡ hand_of began s v = (cc) in (
        at.0,
        subst (λ y. HalfAgrees C y (hand_of began s v) at.0 a) (sym x.view)
            (subst (λ y. HalfAgrees C t y at.0 a) same at.1),
      )

-- at least one step is left
-- ---- a step

module _ {C : ℕ} (began : Began C) (s : Inside C) (v : Phase C) (g : IsGoing began s v) where
  abbrev x1 : HandsValue
  x1 = parts_of s.hands

  abbrev hand : FlushInHand
  hand = hand_of began s v

  abbrev seen_now : StoreValue
  seen_now = seen (Some v) began s

  abbrev frame : Origin → FlushFrame
  frame o = frame_at C seen_now hand o

  -- ---- what it may count on

  pub can_half : {a : disk.State} (o : Origin) → (IsTrue a.tells → HalfAgrees C seen_now hand o a)
      → CanAdvance (frame o) v x1 a
  can_half o half = can_go (goes_with g.goes o.is_at_rest o.kept_map o.kept_book o.after hand.book_after refl
      (λ told. (half told).flies)) g.room

  no_origin : Origin
  no_origin = record {
    before = fin.empty;
    after = fin.empty;
    kept_map = fin.empty;
    kept_book = hand.book_after;
    is_at_rest = false;
  }

  pub some_can : {a : disk.State} → (IsTrue a.tells → (o : Origin) × HalfAgrees C seen_now hand o a)
      → (o : Origin) × CanAdvance (frame o) v x1 a
  some_can {a} half = elim (cases_Bool a.tells) as (λ _. (o : Origin) × CanAdvance (frame o) v x1 a) [
    | inl told ↦ ((half told).0, can_half (half told).0 (λ t. (half told).1))
    | inr none ↦ (
      no_origin,
      can_half no_origin (λ told. absurd (let e : false ≡ true = sym none ∙ told in cc)),
    )
  ]

  -- ---- what it sums up to

  -- the items have as many bytes as the objects of any map of these sizes
  total_is : (m : Map) → IsSizedBy m s.hands.table.now → (c : ℕ) → hand.boundary ≤ c
      → class_total (items_in v s.hands.table) c ≡ slice_index (volumes m) c
  total_is m sized c high =
      let h = g.goes.goes.hands in
      let p = phase_in v s.hands.table in
      let live = volumes_of_sizes (sizes (records_of s.hands.table.now)) in
      sym (new_cap (still_frame began s v) (used_in s.hands.slots) s.hands.table (caps_of s.hands.layout)
      (grid_of s.hands.layout) s.hands.guard.spans p h c high)
      ∙ caps-settled_above p.numbers.boundary c (caps_of s.hands.layout) live h.caps_full.full
      (omega (arith, h.boundary, h.few)) high
      ∙ ap (λ (xs : List ℕ). slice_index xs c) (sym (sized_volumes m s.hands.table.now sized
      h.table.now_named))

  module _ {t : ℕ} {more saves : ℕ} {x2 : HandsValue} {d : disk.State}
      (u : SumsUp (record g.mark { turn = t }) hand.boundary more saves x2 d) where
    pub lower_since : (c : ℕ) → c < hand.boundary → slice_index x2.moved c ≡ slice_index hand.moved_then c
    lower_since c low = u.lower c low ∙ ap (λ (r : List ℕ). slice_index r c) g.moved

    pub few_since : (m : Map) → IsSizedBy m s.hands.table.now → (c : ℕ)
        → slice_index x2.moved c ≤ slice_index hand.moved_then c + 2 * slice_index (volumes m) c
    few_since m sized c = elim (cases_lt c hand.boundary) as (λ _. slice_index x2.moved c
        ≤ slice_index hand.moved_then c + 2 * slice_index (volumes m) c) [
          | inl low ↦ omega (arith, lower_since c low)
          | inr high ↦ omega (
            arith,
            u.few c,
            g.sums.totals c,
            ap (λ (r : List ℕ). slice_index r c) g.moved,
            total_is m sized c (omega (arith, high)),
          )
        ]

  -- at most 2k saves come since it began, also where one more fails
  pub saves_since : (n : ℕ) → n ≤ x1.in_use.sequence + 1 → n ≤ hand.began
      + 2 * (used_in s.hands.slots).block.k
  saves_since n one = omega (arith, one, paid_more v x1 g.goes began.sequence g.paid)

  -- ---- the parts after it

  pub parts_after : {a d : disk.State} (hands2 : Hands C) (layout : Layout C)
      → KeepsSettling a d x1 (parts_of hands2) → caps_of layout ≡ caps_of hands2.layout
      → divisor_of layout ≡ (used_in s.hands.slots).block.k
      → IsWhole (record s { hands = hands2; kept_layout = layout; broken = true })
  parts_after hands2 layout keeps caps divisor = record {
    classes = g.parts.classes;
    wide = g.parts.wide;
    plain = keeps.same_form ∙ g.parts.plain;
    version = subst (λ n. IsTrue (is_version n)) (sym keeps.version) g.parts.version;
    base = keeps.base ∙ g.parts.base ∙ ap (λ (b : SuperBlock). head_len b.names) (sym keeps.block);
    few = omega (arith, g.parts.few, ap (λ (b : SuperBlock). b.names) keeps.block);
    buf = keeps.buffer ∙ g.parts.buf;
    divisor = keeps.divisor ∙ g.parts.divisor ∙ ap (λ (b : SuperBlock). b.k) (sym keeps.block);
    kept_divisor = divisor ∙ ap (λ (b : SuperBlock). b.k) (sym keeps.block);
    kept_caps = caps;
    room = keeps.names ∙ g.parts.room ∙ ap (λ (b : SuperBlock). b.names) (sym keeps.block);
    cap = keeps.cap ∙ g.parts.cap ∙ (λ i. cap ((sym keeps.block) i).names ((sym keeps.version) i));
    guard_room = keeps.room ∙ g.parts.guard_room ∙ ap (λ (b : SuperBlock). b.names) (sym keeps.block);
    table = λ sound. absurd (cc);
    sound = λ sound. absurd (cc);
    freed = λ sound. absurd (cc);
  }

  -- ---- where an object was moved

  module _ (v2 : Phase C) (hands2 : Hands C) {a d : disk.State}
      (made : HasMovedOne v v2 x1 (parts_of hands2) a d)
      (on : (f : FlushFrame) → CanAdvance f v x1 a → GoesOn f v2 (parts_of hands2) d)
      (keeps : KeepsIn v2 (items_in v2 hands2.table))
      (paid : (q : ℕ) → PaidIn q v x1 → PaidIn q v2 (parts_of hands2))
      (start : (o : Origin) × CanAdvance (frame o) v x1 a) (n : ℕ) (one : began.left ≡ n + 1) where
    abbrev pub next : Inside C
    next = record s { hands = hands2 }

    abbrev pub fewer : Began C
    fewer = record began { left = n }

    abbrev x2 : HandsValue
    x2 = parts_of hands2

    same_course : course_in v2 ≡ course_in v
    same_course = made.move.course ∙ made.over.course

    some_on : GoesOn (frame start.0) v2 x2 d
    some_on = on (frame start.0) start.1

    book_is : (hand_of fewer next v2).book_after ≡ hand.book_after
    book_is = ap (λ (n : ℕ). with_digests (saved_digests x2) (book_of
        (laid C SIZE_MAX (used_in hands2.slots).block.k n
        (phase_header (phase_in v2 hands2.table) (caps_of hands2.layout) (grid_of hands2.layout))
        hands2.table.now))) (ap (λ (c : PlanFrame). c.numbers.reach) same_course) ∙ some_on.goes.book

    pub hand_moved : hand_of fewer next v2 ≡ record hand { left = n }
    hand_moved = λ i. record {
      reach = (same_course i).numbers.reach;
      boundary = (same_course i).numbers.boundary;
      left = n;
      began = began.sequence;
      moved_then = cells_of began.moved;
      book_after = book_is i;
    }

    frame_is : with_maps (frame start.0) false fin.empty (kept_of next).kept_book fin.empty hand.book_after
        ≡ still_frame fewer next v2
    frame_is = λ i. record {
      classes = C;
      size_max = SIZE_MAX;
      base = head_len (sym made.move.keeps.block i).names;
      reach = (sym same_course i).numbers.reach;
      is_fresh = true;
      is_at_rest = false;
      old_map = fin.empty;
      old_book = (kept_of next).kept_book;
      new_map = fin.empty;
      new_book = sym book_is i;
    }

    moved_on : GoesOn (still_frame fewer next v2) v2 x2 untold
    moved_on = subst (λ f. GoesOn f v2 x2 untold) frame_is
        (goes_with some_on false fin.empty (kept_of next).kept_book fin.empty hand.book_after
        some_on.goes.book (λ told. absurd (cc)))

    pub moved_going : IsGoing fewer next v2
    moved_going = record {
      unbroken = g.unbroken;
      parts = parts_after hands2 s.kept_layout (settling_of made.move.keeps)
          (g.parts.kept_caps ∙ sym made.move.keeps.caps) g.parts.kept_divisor;
      goes = moved_on;
      keeps = keeps;
      steps = omega (arith, g.steps, made.fewer, one);
      room = omega (
        arith,
        g.room,
        made.fewer,
        saves_high made.move.saved (used_in hands2.slots) (used_in s.hands.slots) made.move.pair,
      );
      paid = paid began.sequence g.paid;
      mark = record g.mark { turn = 0 };
      sequence = g.sequence;
      moved = g.moved;
      sums = sums_anew (sums_next made.move (sums_anew (sums_over made.over g.sums) a)) untold;
    }

    -- what contracts see of it
    abbrev seen_next : StoreValue
    seen_next = seen (Some v2) fewer next

    moved_row : x2.moved ≡ added x1.moved made.move.object.spot.size
    moved_row = subst (λ n. x2.moved ≡ added x1.moved n) (sym made.move.object.size) made.move.row

    pub moved_sums : SumsOfStep seen_now seen_next hand a d (Ok progress.Moved)
    moved_sums =
        let since = sums_next made.move (sums_anew (sums_over made.over g.sums) a) in
        let up = subst (λ (c : PlanFrame). SumsUp (record g.mark { turn = a.turn }) c.numbers.boundary 0 0 x2
        d)
        same_course (sums_still since) in
        record {
          few_saves = saves_since (used_in hands2.slots).sequence
              (saves_high made.move.saved (used_in hands2.slots) (used_in s.hands.slots) made.move.pair);
          lower = lower_since up;
          few = few_since up;
          calls = subst (λ n. CallsSoFar a.turn d.turn x1.moved x2.moved 0 n (fin.len s.hands.table.now))
              (omega arith) (sums_next made.move (sums_begin made.from x1 a)).calls;
        }

    -- as many bytes fewer are left as the object has
    moved_bytes : IsOpenRow x2.moved
        → bytes_left_of seen_now ≡ bytes_left_of seen_next + made.move.object.spot.size
    moved_bytes free =
        let size = made.move.object.spot.size in
        let then = cells_of began.moved in
        let h = g.goes.goes.hands in
        let any = sized_any s.hands.table.now (course_in v).numbers.reach h.table.now_named h.lower in
        let rises = moved_sums.calls.later free in
        let later : slice_index then (class_of size) ≤ slice_index x1.moved (class_of size) =
        omega (
          arith,
          g.sums.calls.later (λ c. omega (arith, rises c, free c)) (class_of size),
          ap (λ (r : List ℕ). slice_index r (class_of size)) g.moved,
        ) in
        left_fewer then x1.moved x2.moved size s.hands.table.now hands2.table.now any.0
        (risen_more then x1.moved x2.moved size (omega (arith, class_below size, made.move.full)) moved_row
        free later) any.1 made.move.sizes (moved_sums.few any.0 any.1)

    pub moved_makes : MovesOne seen_now seen_next hand a d
    moved_makes =
        let o = made.move.object in
        record {
          name = o.name;
          spot = o.spot;
          place = made.move.mv.to;
          there = o.there;
          now_there = o.now;
          row = moved_row;
          saved = made.move.saved;
          pair = made.move.pair;
          kept = made.move.kept;
          turns = subst (λ n. d.turn ≤ a.turn + calls_of_save made.move.saved n + pieces 65536 o.spot.size)
              (length-records_of s.hands.table.now g.goes.goes.hands.table.now_named)
              (subst (λ n. d.turn ≤ a.turn + calls_of_save made.move.saved
              (length (records_of s.hands.table.now)) + pieces 65536 n) (sym o.size) made.move.turns);
          left = n;
          in_hand = ap (λ (h : FlushInHand). Some h) hand_moved;
          fewer = one;
          some = omega (arith, g.steps, made.fewer, steps_some v2 hands2.table, one);
          bytes = moved_bytes;
          rest = λ i. record seen_next { asked = made.move.keeps.asked i };
        }

    module _ (o : Origin) (half : HalfAgrees C seen_now hand o a) (told : IsTrue d.tells) where
      moved_half : (left : ℕ) → HalfAgrees C seen_next (record hand { left = left }) o d
      moved_half left = record {
        flies = subst (λ f. MidFlush f (used_in hands2.slots) hands2.table.now hands2.table.kept d.file
            d.may_leave)
            (λ i. record (frame o) { base = head_len (sym made.move.keeps.block i).names })
            ((on (frame o) (can_half o (λ t. half))).goes.flies told);
        loose = subst (λ (b : SuperBlock). Loose b.k hand.reach o.before o.after) (sym made.move.keeps.block)
            half.loose;
      }

    pub moved_over : (IsTrue a.tells → (o : Origin) × HalfAgrees C seen_now hand o a)
        → IsHalfway C seen_next d
    moved_over half = record {
      hand = record hand { left = n };
      is = ap (λ (h : FlushInHand). Some h) hand_moved;
      digests = ap (λ (b : Book). b.digests) book_is;
      half = λ told.
          let at = half (subst IsTrue made.move.keeps.disk.stays.told told) in
          (at.0, moved_half at.0 at.1 told n);
    }

    pub moved_steps : (o : Origin) → HalfAgrees C seen_now hand o a → IsTrue a.tells
        → LeavesOldOrNew (frame o) ((used_in hands2.slots).sequence + 1) a d
        → StepsHalf C o seen_now seen_next a d (Ok progress.Moved)
    moved_steps o half told left =
        let few = saves_since (used_in hands2.slots).sequence
        (saves_high made.move.saved (used_in hands2.slots) (used_in s.hands.slots) made.move.pair) in
        let all = half_left seen_now hand o half.loose ((used_in hands2.slots).sequence + 1)
        (omega (arith, few))
        left in
        record {
          hand = hand;
          is = refl;
          left = all.0;
          content = all.1;
          on = λ m is. moved_half o half (subst IsTrue (sym made.move.keeps.disk.stays.told) told) m;
        }
