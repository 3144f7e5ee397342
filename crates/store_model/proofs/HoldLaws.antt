-- A flush that is begun and in hand: the store holds it, and its disk half agrees.
use Rattle.std.specs.Prelude.{◌≡◌, ℕ, ◌+◌, ◌*◌, ◌≤◌, ◌<◌, ◌^◌, Bool, true, false, List, Option, Some, IsTrue, refl}
use Rattle.std.proofs.Common.{arith, ap, sym, ◌∙◌, subst}
use Rattle.std.specs.FinMap as fin
use Rattle.disk_face.specs.Moments.{Leaves}
use Rattle.disk_face.specs.States as disk
use Rattle.size_class.specs.Rows.{cells_of}
use Rattle.size_class.specs.declared.TheConstants.{SIZE_MAX}
use Rattle.slot_codec.specs.Names.{IsName}
use Rattle.slot_codec.specs.Reading.{is_version}
use Rattle.slot_codec.specs.Spelling.{cap, head_len}
use Rattle.slot_codec.specs.declared.codec.SuperBlock.{SuperBlock}
use Rattle.logged_pair.specs.Slots.{used_in}
use Rattle.map_model.specs.Maps.{Map}
use Rattle.map_model.specs.Requests.{Change}
use Rattle.segment_layout.specs.Books.{next_book, trigger, with_digests}
use Rattle.segment_layout.specs.Bounds.{Loose}
use Rattle.segment_layout.specs.Layouts.{caps_of, grid_of}
use Rattle.segment_layout.specs.Shapes.{boundary_of}
use Rattle.table_rules.specs.Tables.{book_of}
use Rattle.placement_model.specs.Laid.{laid}
use Rattle.extent_table.specs.Extents.{Spots}
use Rattle.flush_model.specs.Phases.{PlanState}
use Rattle.flush_plan.specs.Lifts.{KeepsLifting, Lift}
use Rattle.flush_run.specs.declared.hands.Hands.{Hands}
use Rattle.flush_run.specs.declared.phase.Phase.{Phase}
use Rattle.flush_run.specs.declared.phase.Phase.TheVariants as phases
use Rattle.flush_run.specs.FlushFrames.{FlushFrame, IsMidFlush, LeavesOldOrNew, MidFlush}
use Rattle.flush_run.specs.Loops.{phase_header}
use Rattle.flush_run.specs.Parts.{HandsValue, parts_of, size_in}
use Rattle.flush_run.specs.Phases.{GoesOn}
use Rattle.flush_run.specs.Shelved.{items_now, phase_now}
use Rattle.flush_run.specs.Sums.{mark_of}
use Rattle.flush_run.proofs.SumLaws.{steps_few, sums_begin}
use Rattle.store_model.specs.Sized.{IsSizedBy}
use Rattle.store_model.specs.declared.hand.Began.{Began}
use Rattle.store_model.specs.Begins.{HoldsFlush, origin_of}
use Rattle.store_model.specs.Flushes.{IsFlushImage, map_after}
use Rattle.store_model.specs.Inside.{Inside, IsGoing, IsWhole, hand_of, kept_of, seen, still_frame, untold}
use Rattle.store_model.specs.Keeps.{now_map}
use Rattle.store_model.specs.Connection.{FlushInHand, IsOver, RestsOnTable, StoreValue, base_of}
use Rattle.store_model.specs.Flushing.{BeforeChange, CanMakeFlush, IsBegun, book_before, bytes_of, flight_of, lift_start}
use Rattle.store_model.specs.Halves.{HalfAgrees, Origin, frame_at}
use Rattle.store_model.proofs.DigestLaws.{next_digests}
use Rattle.store_model.proofs.GoingOnLaws.{goes_with, room_for_all}
use Rattle.store_model.proofs.MakeFlushLaws.{can_run}
use Rattle.store_model.proofs.BytesLeftLaws.{risen_none}
use Rattle.store_model.proofs.FlushLaws.{can_fly, flush_content, flush_left, loose_at, setting, some_flight}
use Rattle.store_model.proofs.MadeFlushLaws.{len_after, same_charges, sizes_after}

module _ {C : ℕ} (s : Inside C) (whole : IsWhole s) (unbroken : s.broken ≡ false) (c : Change)
    (name : IsName c.name) (fresh : (used_in s.hands.slots).sequence < 2 ^ 61) (a : disk.State)
    (over : IsTrue a.tells → IsOver C (kept_of s) a.file) (hands1 : Hands C) (v : Lift) (place : ℕ)
    (bytes : List ℕ)
    (begun : IsBegun C (parts_of s.hands) c (parts_of hands1) (phase_now v.course hands1.table) place)
    (object : bytes_of c ≡ bytes) (began : Began C) (at : began.sequence ≡ (used_in s.hands.slots).sequence)
    (row : cells_of began.moved ≡ cells_of s.hands.ledger.moved)
    (many : began.left ≡ 2 * fin.len hands1.table.now + 1) where
  abbrev ks : StoreValue
  ks = kept_of s

  abbrev x0 : HandsValue
  x0 = parts_of s.hands

  abbrev x1 : HandsValue
  x1 = parts_of hands1

  abbrev p : PlanState
  p = phase_now v.course hands1.table

  abbrev phase : Phase C
  phase = phases.Lift v

  abbrev pub holding : Inside C
  holding = record s { hands = hands1 }

  abbrev hand : FlushInHand
  hand = hand_of began holding phase

  abbrev pub held : StoreValue
  held = seen (Some phase) began holding

  -- ---- what stays

  same_block : (used_in hands1.slots).block ≡ (used_in s.hands.slots).block
  same_block = ap (λ (y : HandsValue). y.in_use.block) begun.rest

  same_version : hands1.version ≡ s.hands.version
  same_version = ap (λ (y : HandsValue). y.version) begun.rest

  base_is : s.hands.base ≡ head_len (used_in hands1.slots).block.names
  base_is = whole.base ∙ ap (λ (b : SuperBlock). head_len b.names) (sym same_block)

  pub begun_whole : IsWhole (record holding { broken = true })
  begun_whole = record {
    classes = whole.classes;
    wide = whole.wide;
    plain = ap (λ (y : HandsValue). y.has_logs) begun.rest ∙ whole.plain;
    version = subst (λ n. IsTrue (is_version n)) (sym same_version) whole.version;
    base = ap (λ (y : HandsValue). y.base) begun.rest ∙ base_is;
    few = omega (arith, whole.few, ap (λ (b : SuperBlock). b.names) same_block);
    buf = ap (λ (y : HandsValue). y.buffer) begun.rest ∙ whole.buf;
    divisor = ap (λ (y : HandsValue). y.divisor) begun.rest ∙ whole.divisor
        ∙ ap (λ (b : SuperBlock). b.k) (sym same_block);
    kept_divisor = whole.kept_divisor ∙ ap (λ (b : SuperBlock). b.k) (sym same_block);
    kept_caps = whole.kept_caps ∙ sym (ap (λ (y : HandsValue). y.caps) begun.rest);
    room = begun.names ∙ whole.room ∙ ap (λ (b : SuperBlock). b.names) (sym same_block);
    cap = begun.cap ∙ whole.cap ∙ (λ i. cap ((sym same_block) i).names ((sym same_version) i));
    guard_room = ap (λ (y : HandsValue). y.room) begun.rest ∙ whole.guard_room
        ∙ ap (λ (b : SuperBlock). b.names) (sym same_block);
    table = λ sound. absurd (cc);
    sound = λ sound. absurd (cc);
    freed = λ sound. absurd (cc);
  }

  -- ---- the flush may go on

  abbrev flight : BeforeChange → FlushFrame
  flight g = flight_of C x0 c p.numbers.reach g

  lifts_on : (g : BeforeChange) → CanMakeFlush C x0 c g x1 (lift_start p place) bytes a → (d : disk.State)
      → (IsTrue d.tells → IsMidFlush (flight g) (used_in hands1.slots) hands1.table d) → GoesOn (flight g)
      phase x1 d
  lifts_on g can d flies = let r = can_run can d flies in record { goes = r.lifts.goes; low = r.lifts.low }

  any : (g : BeforeChange) × CanMakeFlush C x0 c g x1 (lift_start p place) bytes a
  any = some_flight s whole unbroken c x1 p place bytes begun name object fresh a over

  still : GoesOn (record (flight any.0) { base = head_len (used_in hands1.slots).block.names }) phase x1
      untold
  still = subst (λ n. GoesOn (record (flight any.0) { base = n }) phase x1 untold) base_is
      (lifts_on any.0 any.1 untold (λ told. absurd (cc)))

  begun_goes : GoesOn (still_frame began holding phase) phase x1 untold
  begun_goes = goes_with still false fin.empty (kept_of holding).kept_book fin.empty hand.book_after refl
      (λ told. absurd (cc))

  pub begun_going : KeepsLifting C v (items_now v.course hands1.table) → IsGoing began holding phase
  begun_going keeps = record {
    unbroken = unbroken;
    parts = begun_whole;
    goes = begun_goes;
    keeps = keeps;
    steps = omega (arith, many, steps_few phase hands1.table);
    room = room_for_all begun_goes (omega (
      arith,
      fresh,
      ap (λ (y : HandsValue). y.in_use.sequence) begun.rest,
    ));
    paid = ap (λ (y : HandsValue). y.in_use.sequence) begun.rest ∙ sym at;
    mark = mark_of phase x1 untold;
    sequence = ap (λ (y : HandsValue). y.in_use.sequence) begun.rest ∙ sym at;
    moved = ap (λ (y : HandsValue). y.moved) begun.rest ∙ sym row;
    sums = sums_begin phase x1 untold;
  }

  -- ---- what the store holds

  book_is : (m : Map) → IsSizedBy m ks.now
      → hand.book_after ≡ (next_book ks.in_use.block.k m ks.book c).book
  book_is m sized =
      let g : BeforeChange = record any.0 { map = m } in
      ap (λ (ds : Option Map). with_digests ds (book_of (laid C SIZE_MAX (used_in hands1.slots).block.k
      p.numbers.reach (phase_header p (caps_of hands1.layout) (grid_of hands1.layout)) hands1.table.now)))
      (begun.digests ∙ sym (next_digests (used_in s.hands.slots).block.k m (book_before C x0) c))
      ∙ (begun.lifts g sized).book

  pub begun_holds : HoldsFlush c ks held hand
  begun_holds = record {
    is = refl;
    place = place;
    places = begun.now;
    sizes = λ q. ap (λ (m : Spots). size_in m q) begun.now ∙ sizes_after ks c place q;
    book = book_is;
    asked = begun.asked;
    boundary = begun.boundary ∙ ap (λ y. boundary_of y.grid (trigger y)) (same_charges ks c);
    steps = omega (
      arith,
      many,
      ap (λ (m : Spots). fin.len m) begun.now,
      len_after ks c place,
    );
    bytes = omega (
      arith,
      risen_none (cells_of began.moved) x1.moved (ap (λ (y : HandsValue). y.moved) begun.rest ∙ sym row),
    );
    began = at;
    moved_then = row;
    rest = λ i. record held {
      in_use = ap (λ (y : HandsValue). y.in_use) begun.rest i;
      kept = begun.kept i;
      moved = ap (λ (y : HandsValue). y.moved) begun.rest i;
    };
  }

  -- ---- the disk

  module _ (told : IsTrue a.tells) (rests : Bool) (given : IsTrue rests → RestsOnTable (base_of ks) ks.kept a)
    where
      abbrev g : BeforeChange
      g = setting s whole unbroken a.file rests

      pub begun_can : CanMakeFlush C x0 c g x1 (lift_start p place) bytes a
      begun_can = can_fly s whole unbroken c x1 p place bytes begun name object fresh a (over told) rests
          given

      abbrev origin : Origin
      origin = origin_of ks c a.file rests

      flight_is : flight g ≡ frame_at C held hand origin
      flight_is = λ i. record (flight g) {
        base = base_is i;
        new_book = sym (book_is (now_map ks a.file) begun_can.sized) i;
      }

      pub begun_half : (d : disk.State) → IsMidFlush (flight g) (used_in hands1.slots) hands1.table d
          → HalfAgrees C held hand origin d
      begun_half d mid = record {
        flies = subst (λ f. MidFlush f (used_in hands1.slots) hands1.table.now hands1.table.kept d.file
            d.may_leave)
            flight_is mid;
        loose = subst (λ (b : SuperBlock). Loose b.k p.numbers.reach (now_map ks a.file)
            (map_after ks c a.file)) (sym same_block)
            (loose_at s whole unbroken c x1 p place bytes begun name object fresh a (over told)
            p.numbers.reach (omega arith));
      }

  few : (used_in hands1.slots).sequence + 1 ≤ ks.in_use.sequence + 2 * ks.in_use.block.k + 1
  few = omega (arith, ap (λ (y : HandsValue). y.in_use.sequence) begun.rest)

  module _ (told : IsTrue a.tells) (d : disk.State)
      (left : (x : HandsValue) (e : Change) (g : BeforeChange)
      → CanMakeFlush C x e g x1 (lift_start p place) bytes a
      → IsTrue a.tells → LeavesOldOrNew (flight_of C x e p.numbers.reach g)
      ((used_in hands1.slots).sequence + 1) a d)
    where
      pub begun_content : IsFlushImage C ks c a.file d.file
      begun_content = flush_content s whole unbroken c x1 p place bytes begun name object fresh a (over told)
          _
          few (left x0 c _ (begun_can told false (λ t. absurd (let e : false ≡ true = t in cc))) told)

      pub begun_left : RestsOnTable (base_of ks) ks.kept a → Leaves a d (IsFlushImage C ks c a.file)
      begun_left rests = flush_left s whole unbroken c x1 p place bytes begun name object fresh a (over told)
          _
          few (left x0 c _ (begun_can told true (λ t. rests)) told)
