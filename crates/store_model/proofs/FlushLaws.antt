-- A flush of a store: what it begins with, and what it leaves.
use Rattle.std.specs.Prelude.{◌≡◌, ◌⊎◌, ℕ, ◌+◌, ◌-◌, ◌*◌, ◌^◌, ◌<◌, ◌≤◌, Bool, true, false, if◌then◌else◌, List, length, None, IsTrue, refl}
use Rattle.std.proofs.Common.{arith, sym, ◌∙◌, ap, subst, inl, inr}
use Rattle.std.proofs.Math.Nat.{mul-le-mul_left}
use Rattle.std.proofs.lemmas.Bool.{cases_Bool}
use Rattle.std.specs.FinMap as fin
use Rattle.byte_ranges.specs.Ranges.{SameBelow}
use Rattle.disk_face.specs.States as disk
use Rattle.disk_face.specs.Moments.{Leaves}
use Rattle.disk_face.proofs.MomentLaws.{Leaves-weaken}
use Rattle.size_class.specs.declared.TheConstants.{SIZE_MAX}
use Rattle.slot_codec.specs.Names.{IsName}
use Rattle.logged_pair.specs.Slots.{used_in}
use Rattle.map_model.specs.Maps.{Map}
use Rattle.map_model.specs.Requests as ask
use Rattle.map_model.specs.Requests.{Change, changed}
use Rattle.segment_layout.specs.Books.{Book, is_quiet, next_book}
use Rattle.segment_layout.specs.Bounds.{Loose}
use Rattle.segment_layout.specs.Layouts.{caps_of, grid_of}
use Rattle.table_rules.proofs.SequenceLaws.{sequence_wider}
use Rattle.table_rules.specs.Opening.{Opens}
use Rattle.placement_model.specs.Reads.{read_at}
use Rattle.placement_model.proofs.LaidOutLaws.{laid_ends}
use Rattle.placement_model.proofs.ReadLaws.{read_at-remove}
use Rattle.flush_model.specs.Phases.{PlanState}
use Rattle.flush_run.specs.FlushFrames.{IsOldOrNew, LeavesOldOrNew}
use Rattle.flush_run.specs.Parts.{HandsValue, parts_of}
use Rattle.placement_model.specs.Tried.{charged_by}
use Rattle.store_model.proofs.LaidEndLaws.{blank, in_blank}
use Rattle.placement_model.proofs.GoneLaws.{left_over}
use Rattle.store_model.proofs.SizedLaws.{sized_read}
use Rattle.store_model.specs.Connection.{IsOver, StoreValue, RestsOnTable, base_of, kept_map}
use Rattle.store_model.specs.Flushes.{IsFlushImage, book_after, map_after}
use Rattle.store_model.specs.Flushing.{CanMakeFlush, IsBegun, NeedsFlushAt, MayBegin, BeforeChange, bytes_of, flight_of, lift_start}
use Rattle.store_model.specs.Inside.{Inside, IsWhole, kept_of}
use Rattle.store_model.specs.Keeps.{now_map}
use Rattle.store_model.specs.Quiet.{charges_of, del_of, put_of}
use Rattle.store_model.specs.States.{Limits, Served, State, Step, facts_of, refusal, served}
use Rattle.store_model.specs.Stores.{IsStore}
use Rattle.store_model.proofs.LaidEndLaws.{shown_balanced}
use Rattle.store_model.proofs.OverLaws.{head_is, opens_again}
use Rattle.store_model.proofs.InsideLaws.{few_live}
use Rattle.store_model.proofs.RequestLaws.{served_by, step_to}
use Rattle.store_model.proofs.StoreLaws.{now_lies}

-- a change that isn't quiet is a step to the map and the book of after, which are kept
pub flush_step : (limits : Limits) (s after : State) (c : Change)
    → refusal limits (facts_of s (ask.change c)) (ask.change c) ≡ None
    → (next_book limits.k s.map s.book c).quiet ≡ false → after.map ≡ changed c s.map
    → after.kept ≡ changed c s.map
    → after.book ≡ (next_book limits.k s.map s.book c).book
    → after.kept_book ≡ (next_book limits.k s.map s.book c).book → s.sequence + 1 ≤ after.sequence
    → after.sequence ≤ s.sequence + (2 * limits.k + 1) → Step limits s (ask.change c) ask.kept after
flush_step limits s after c none needs_flush map kept book kept_book low high =
    let next = next_book limits.k s.map s.book c in
    let m = changed c s.map in
    let is : served limits s (ask.change c) ≡ record {
      reply = ask.kept;
      state = record s { map = m; kept = m; book = next.book; kept_book = next.book };
      saves = record { least = 1; most = 2 * limits.k + 1 };
    } = served_by limits s (ask.change c) None none
    ∙ ap (λ (b : Bool). let r : Served = if b then record {
      reply = ask.done;
      state = record s { map = m; book = next.book };
      saves = record { least = 0; most = 0 };
    } else record {
      reply = ask.kept;
      state = record s { map = m; kept = m; book = next.book; kept_book = next.book };
      saves = record { least = 1; most = 2 * limits.k + 1 };
    } in r) needs_flush in
    step_to limits s after (ask.change c) _ is map kept book kept_book low high

module _ {C : ℕ} (s : Inside C) (whole : IsWhole s) (unbroken : s.broken ≡ false) where
  abbrev ks : StoreValue
  ks = kept_of s

  abbrev x0 : HandsValue
  x0 = parts_of s.hands

  abbrev k : ℕ
  k = (used_in s.hands.slots).block.k

  pub h : IsStore C ks
  h = whole.sound unbroken

  pub may_begin : MayBegin C (grid_of s.kept_layout) x0
  may_begin = record {
    before = record {
      block = h.block;
      table = whole.table unbroken;
      names = whole.room;
      small = omega arith;
      both = record { now_laid = h.now; kept_laid = h.kept; fuller = h.fuller; freed = whole.freed unbroken };
    };
    base = whole.base;
    few = few_live s whole unbroken;
    cap = whole.cap;
    room = whole.guard_room;
    divisor = whole.divisor;
    plain = whole.plain;
    version = whole.version;
  }

  pub put_loud : (name object : List ℕ) → is_quiet (charges_of ks (put_of name object)) ≡ false
      → NeedsFlushAt x0 name (length object)
  put_loud name object needs_flush = subst (λ (n : ℕ). is_quiet (charged_by n (caps_of s.hands.layout)
      (grid_of s.hands.layout) (fin.get s.hands.table.now name) (length object)) ≡ false)
      (sym whole.divisor) needs_flush

  pub del_loud : (name : List ℕ) → is_quiet (charges_of ks (del_of name)) ≡ false → NeedsFlushAt x0 name 0
  del_loud name needs_flush = subst (λ (n : ℕ). is_quiet (charged_by n (caps_of s.hands.layout)
      (grid_of s.hands.layout) (fin.get s.hands.table.now name) 0) ≡ false) (sym whole.divisor) needs_flush

  -- ---- the device calls may begin

  abbrev pub setting : List ℕ → Bool → BeforeChange
  setting file rests = record {
    map = now_map ks file;
    kept_map = kept_map ks file;
    kept_book = ks.kept_book;
    is_at_rest = rests;
  }

  module _ (c : Change) (x : HandsValue) (p : PlanState) (place : ℕ) (bytes : List ℕ)
      (begun : IsBegun C x0 c x p place) (name : IsName c.name) (object : bytes_of c ≡ bytes)
      (fresh : ks.in_use.sequence < 2 ^ 61)
      (a : disk.State) where
    module _ (over : IsOver C ks a.file) (rests : Bool)
        (given : IsTrue rests → RestsOnTable (base_of ks) ks.kept a) where
      pub can_fly : CanMakeFlush C x0 c (setting a.file rests) x (lift_start p place) bytes a
      can_fly = record {
        kept_grid = grid_of s.kept_layout;
        may = may_begin;
        begun = begun;
        sized = sized_read (base_of ks) a.file ks.now h.now.named (now_lies ks a.file h over);
        name = name;
        object = object;
        fresh = fresh;
        start = λ told. record {
          content = record {
            base = whole.base;
            slot = over.checkpoint.slot;
            same_length = omega (arith, over.same_length, whole.base);
            within = λ q y there. laid_ends C SIZE_MAX k ks.book.caps ks.book.grid ks.now h.now q y
                (left_over ks.now c.name q y there).1;
            live = ap (λ (b : ℕ). read_at b a.file (fin.remove ks.now c.name)) whole.base
                ∙ read_at-remove (base_of ks) a.file ks.now c.name h.now.named;
          };
          opens = record {
            t = over.table;
            m = kept_map ks a.file;
            b = ks.kept_book;
            checkpoint = record {
              either = inl (refl, refl);
              base = whole.base ∙ sym (head_is ks h a.file over);
              records = over.checkpoint.records;
            };
            opens = over.checkpoint.opens;
            images = λ rest image left. let same = given rest image left in record {
              opens = opens_again ks h a.file over image same;
              below = subst (λ (b : ℕ). SameBelow b a.file image) (sym whole.base) same.below;
              longest = omega (arith, same.same_length, over.same_length, whole.base);
            };
          };
        };
      }

    -- where the disk tells nothing, any map serves whose objects have the sizes
    can_fly_untold : a.tells ≡ false → CanMakeFlush C x0 c (record {
      map = read_at 0 (blank C SIZE_MAX k ks.book.caps ks.book.grid ks.now h.now) ks.now;
      kept_map = kept_map ks a.file;
      kept_book = ks.kept_book;
      is_at_rest = false;
    }) x (lift_start p place) bytes a
    can_fly_untold none = record {
      kept_grid = grid_of s.kept_layout;
      may = may_begin;
      begun = begun;
      sized = sized_read 0 (blank C SIZE_MAX k ks.book.caps ks.book.grid ks.now h.now) ks.now h.now.named
          (in_blank C SIZE_MAX k ks.book.caps ks.book.grid ks.now h.now);
      name = name;
      object = object;
      fresh = fresh;
      start = λ told. absurd (let e : false ≡ true = sym none ∙ told in cc);
    }

    pub some_flight : (IsTrue a.tells → IsOver C ks a.file) → (g : BeforeChange) × CanMakeFlush C x0 c g
        x (lift_start p place) bytes a
    some_flight over = elim (cases_Bool a.tells) as (λ _. (g : BeforeChange)
        × CanMakeFlush C x0 c g x (lift_start p place) bytes a) [
          | inl told ↦ (
            setting a.file false,
            can_fly (over told) false (λ t. absurd (let e : false ≡ true = t in cc)),
          )
          | inr none ↦ (_, can_fly_untold none)
        ]

    -- ---- what was left

    module _ (over : IsOver C ks a.file) where
      pub loose_at : (n : ℕ) → n ≤ p.numbers.reach → Loose k n (now_map ks a.file) (map_after ks c a.file)
      loose_at n low = omega (
        arith,
        mul-le-mul_left (k - 1) low,
        begun.loose (now_map ks a.file)
            (sized_read (base_of ks) a.file ks.now h.now.named (now_lies ks a.file h over))
            (shown_balanced C SIZE_MAX k ks.book.caps ks.book.grid ks.now h.now (base_of ks) a.file
            (now_lies ks a.file h over)),
      )

      module _ (most : ℕ) (few : most ≤ ks.in_use.sequence + 2 * ks.in_use.block.k + 1) where
        pub flush_image : (rests : Bool) (image : List ℕ)
            → IsOldOrNew (flight_of C x0 c p.numbers.reach (setting a.file rests)) most image
            → IsFlushImage C ks c a.file image
        flush_image rests image i = record {
          opens = elim i.either as (λ _. Opens C SIZE_MAX image (kept_map ks a.file) ks.kept_book
              ⊎ Opens C SIZE_MAX image (map_after ks c a.file) (book_after ks c a.file)) [
                | inl old ↦ inl (subst (λ (m : Map). Opens C SIZE_MAX image m ks.kept_book) old.0
                    (subst (λ (b : Book). Opens C SIZE_MAX image i.m b) old.1 i.opens))
                | inr new ↦ inr (subst (λ (m : Map). Opens C SIZE_MAX image m (book_after ks c a.file)) new.0
                    (subst (λ (b : Book). Opens C SIZE_MAX image i.m b) new.1 i.opens))
              ];
          sequence = sequence_wider most (ks.in_use.sequence + 2 * ks.in_use.block.k
              + 1) image few i.sequence;
          loose = loose_at (length image - base_of ks) (omega (arith, i.longest, whole.base));
        }

        module _ {d : disk.State} where
          pub flush_left : LeavesOldOrNew (flight_of C x0 c p.numbers.reach (setting a.file true)) most a d
              → Leaves a d (IsFlushImage C ks c a.file)
          flush_left left = Leaves-weaken (IsFlushImage C ks c a.file) (flush_image true) ((left refl).0 refl)

          pub flush_content : LeavesOldOrNew (flight_of C x0 c p.numbers.reach
              (setting a.file false)) most a d
              → IsFlushImage C ks c a.file d.file
          flush_content left = flush_image false d.file (left refl).1
