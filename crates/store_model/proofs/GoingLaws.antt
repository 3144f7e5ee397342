-- The flush of a moving table goes on from the file that the table was read from, and leaves what was found.
use Rattle.std.specs.Prelude.{◌≡◌, ℕ, ◌+◌, ◌-◌, ◌<◌, ◌≤◌, ◌^◌, Bool, true, false, List, [], length, IsTrue, refl}
use Rattle.std.proofs.Common.{arith, ap, sym, ◌∙◌, subst, inl, inr}
use Rattle.std.proofs.lemmas.Bool.{cases_Bool}
use Rattle.std.proofs.lemmas.List.Sorted.{IsPermutation-sym}
use Rattle.std.specs.FinMap as fin
use Rattle.byte_ranges.specs.Ranges.{SameBelow}
use Rattle.disk_face.specs.States as disk
use Rattle.disk_face.specs.Moments.{Leaves}
use Rattle.disk_face.proofs.MomentLaws.{Leaves-weaken}
use Rattle.size_class.specs.declared.TheConstants.{SIZE_MAX}
use Rattle.slot_codec.specs.Choice as choice
use Rattle.slot_codec.specs.Spelling.{cap, head_len}
use Rattle.slot_codec.specs.Reading.{worn_from}
use Rattle.slot_codec.specs.declared.codec.Kind.TheVariants as kind
use Rattle.slot_codec.specs.declared.codec.SuperBlock.{SuperBlock}
use Rattle.map_model.specs.Maps.{Map}
use Rattle.segment_layout.specs.Books.{Book, with_digests}
use Rattle.segment_layout.specs.Layouts.{caps_of, divisor_of, grid_of}
use Rattle.table_rules.specs.Opening.{Opens}
use Rattle.table_rules.specs.Rules.{IsValid}
use Rattle.table_rules.specs.Sequences.{HasSequenceUpTo}
use Rattle.table_rules.proofs.SequenceLaws.{sequence_wider}
use Rattle.table_rules.specs.Tables.{book_of}
use Rattle.extent_table.specs.Extents.{Spots, records_of}
use Rattle.placement_model.specs.Laid.{laid}
use Rattle.placement_model.specs.Reads.{read_at}
use Rattle.placement_model.proofs.OpenedLaws.{opens_long}
use Rattle.flush_model.specs.Phases.{PlanState, phase_of}
use Rattle.flush_run.specs.FlushFrames.{IsMidFlush, FlushFrame, IsOldOrNew, LeavesOldOrNew}
use Rattle.flush_run.specs.Parts.{FitsVersion, HandsValue}
use Rattle.flush_run.specs.Runs.{CanResume}
use Rattle.reopen.specs.declared.state.Loaded.{Loaded}
use Rattle.reopen.specs.Loads.{IsLoadedFrom, KeepsLoaded, book_loaded, digests_loaded, table_loaded}
use Rattle.store_model.specs.Opened.{IsFoundImage, LeavesRoom, RestsOnFound, RoomOf, most_by}
use Rattle.store_model.specs.Resuming.{PacksAgain, StartsAgain}
use Rattle.store_model.proofs.MovingLaws.{again, book_saved, hands_again, numbers, same_divisor, whole}
use Rattle.store_model.proofs.OpeningLaws.{opens_alike}

module _ {C : ℕ} (x : Loaded C) (loads : KeepsLoaded x) (moving : x.header.kind ≡ kind.Moving) (few : C ≤ 32)
    (wide : SIZE_MAX < 2 ^ C) (y : HandsValue) (starts : StartsAgain x y) (p : PlanState)
    (packs : PacksAgain x p) where
  abbrev now : Spots
  now = x.table.now

  abbrev base : ℕ
  base = head_len x.slots.block.names

  same_base : base ≡ head_len x.block.names
  same_base = ap (λ (b : SuperBlock). head_len b.names) loads.same_block

  -- the parts and the phase in the words of what was read
  abbrev there : HandsValue
  there = record y {
    in_use = x.slots;
    table = x.table;
    divisor = divisor_of x.layout;
    caps = caps_of x.layout;
    grid = grid_of x.layout;
    spans = [];
    base = base;
    version = x.header.version;
  }

  there_is : there ≡ y
  there_is = λ i. record y {
    in_use = sym starts.in_use i;
    table = sym starts.table i;
    divisor = sym starts.divisor i;
    caps = sym starts.caps i;
    grid = sym starts.grid i;
    spans = sym starts.spans i;
    base = (same_base ∙ sym starts.base) i;
    version = sym starts.version i;
  }

  abbrev pub phase : PlanState
  phase = phase_of (divisor_of x.layout) (caps_of x.layout)
      (numbers x loads moving few wide (divisor_of x.layout)) 0 p.items

  -- no more names are live than a table of its version has records
  fits : FitsVersion there
  fits = record {
    plain = starts.plain;
    known = loads.version;
    few = subst (λ m. fin.len now ≤ m)
        (loads.cap ∙ (λ i. cap ((sym loads.same_block) i).names x.header.version)) loads.few;
  }

  fresh_sequence : x.slots.sequence < 2 ^ 62 - 2 ^ 18
  fresh_sequence =
      let low : x.header.sequence < worn_from kind.Moving =
      subst (λ z. x.header.sequence < worn_from z) moving loads.fresh in
      omega (arith, low, loads.sequence)

  -- It may go on in a flight from a map and a book to the same, where the disk has them.
  module _ (n : ℕ) (v : IsValid (laid C SIZE_MAX x.block.k n x.header now)) (fresh rests : Bool) (m : Map)
      (d : disk.State) (flies : IsTrue d.tells → IsMidFlush (again x loads moving few wide n v fresh rests m
      (with_digests (digests_loaded x) (book_of (laid C SIZE_MAX x.block.k n x.header now)))) x.slots x.table
      d)
      (leaves : IsTrue fresh → x.header.sequence + 2 ^ 19 ≤ 2 ^ 62) where
    abbrev book : Book
    book = with_digests (digests_loaded x) (book_of (laid C SIZE_MAX x.block.k n x.header now))

    abbrev f : FlushFrame
    f = again x loads moving few wide n v fresh rests m book

    can_there : CanResume C f there phase d
    can_there = record {
      goes = record {
        hands = hands_again x loads moving few wide n v fresh rests m book (divisor_of x.layout)
            (same_divisor x loads moving few wide) p.items
            (IsPermutation-sym _ p.items packs.items);
        version = fits;
        book = ap (λ (b : Book). with_digests (digests_loaded x) b) (book_saved x loads moving few wide n v);
        same_base = refl;
        divisor = refl;
        same_classes = refl;
        same_max = refl;
        whole = whole x loads moving few wide n v;
        wide = wide;
        limit = omega arith;
        guard = omega (arith, starts.room, loads.room);
        flies = flies;
      };
      fresh = fresh_sequence;
      moving = λ is. omega (arith, leaves is, loads.sequence);
    }

    pub can_resume : CanResume C f y p d
    can_resume = subst (λ (q : PlanState). CanResume C f y q d) (sym packs.value)
        (subst (λ (z : HandsValue). CanResume C f z phase d) there_is can_there)

  -- ---- the disk that it was read from

  module _ (first : disk.State) (from : IsLoadedFrom first.file x) where
    abbrev t : choice.SlotTable
    t = table_loaded x

    abbrev n : ℕ
    n = length first.file - head_len x.block.names

    abbrev m : Map
    m = read_at (head_len x.block.names) first.file now

    abbrev b : Book
    b = book_loaded first.file x

    pub begins_within : head_len x.block.names ≤ length first.file
    begins_within = opens_long C SIZE_MAX t first.file m b from.opens

    module _ (fresh rests : Bool) (given : IsTrue rests → RestsOnFound t first)
        (leaves : IsTrue fresh → x.header.sequence + 2 ^ 19 ≤ 2 ^ 62) where
      abbrev pub flight : FlushFrame
      flight = again x loads moving few wide n from.opens.valid fresh rests m b

      flies : IsMidFlush flight x.slots x.table first
      flies = record {
        content = record {
          base = refl;
          slot = from.in_use;
          same_length = omega (arith, begins_within, same_base);
          within = (hands_again x loads moving few wide n from.opens.valid fresh rests m b
              (divisor_of x.layout) (same_divisor x loads moving few wide) p.items
              (IsPermutation-sym _ p.items packs.items)).lower;
          live = ap (λ z. read_at z first.file now) same_base;
        };
        opens = λ is. record {
          t = t;
          m = m;
          b = b;
          checkpoint = record {
            either = inl (refl, refl);
            base = same_base;
            records = ap records_of (sym loads.kept);
          };
          opens = from.opens;
          images = λ rest image left. let same = given rest image left in record {
            opens = opens_alike C t first.file m b from.opens image same;
            below = subst (λ z. SameBelow z first.file image) (sym same_base) same.below;
            longest = omega (arith, same.same_length, begins_within, same_base);
          };
        };
      }

      pub can_told : CanResume C flight y p first
      can_told = can_resume n from.opens.valid fresh rests m first (λ told. flies) leaves

      -- what is old or new is what was found
      pub found_again : (most : ℕ) → most ≤ x.header.sequence + (2 ^ 18 - 1) → (image : List ℕ)
          → IsOldOrNew flight most image → IsFoundImage C t m b (length first.file) image
      found_again most low image is = record {
        opens = elim is.either as (λ _. Opens C SIZE_MAX image m b) [
          | inl old ↦ subst (λ (z : Map). Opens C SIZE_MAX image z b) old.0
              (subst (λ (z : Book). Opens C SIZE_MAX image is.m z) old.1 is.opens)
          | inr new ↦ subst (λ (z : Map). Opens C SIZE_MAX image z b) new.0
              (subst (λ (z : Book). Opens C SIZE_MAX image is.m z) new.1 is.opens)
        ];
        sequence = subst (λ z. HasSequenceUpTo (most_by z x.header.sequence) image) (sym moving)
            (sequence_wider most (x.header.sequence + (2 ^ 18 - 1)) image low is.sequence);
        no_longer = omega (arith, is.longest, begins_within, same_base);
      }

  -- where the disk tells nothing, it may go on too
  pub some_again : (first : disk.State) → (IsTrue first.tells → IsLoadedFrom first.file x)
      → (f : FlushFrame) × CanResume C f y p first
  some_again first from = elim (cases_Bool first.tells) as (λ _. (f : FlushFrame) × CanResume C f y p first) [
    | inl told ↦ (
      _,
      can_told first (from told) false false (λ e. absurd (let z : false ≡ true = e in cc))
          (λ e. absurd (let z : false ≡ true = e in cc)),
    )
    | inr none ↦ (
      _,
      can_resume loads.data_len loads.valid false false fin.empty first
          (λ told. absurd (let z : false ≡ true = sym none ∙ told in cc))
          (λ e. absurd (let z : false ≡ true = e in cc)),
    )
  ]

  -- ---- what it left

  module _ (first last : disk.State) (most : ℕ) (few_most : most ≤ x.header.sequence + (2 ^ 18 - 1))
      (left : (f : FlushFrame) → CanResume C f y p first → IsTrue first.tells
      → LeavesOldOrNew f most first last) (told : IsTrue first.tells) (from : IsLoadedFrom first.file x) where
    room_is : LeavesRoom (table_loaded x) → x.header.sequence + 2 ^ 19 ≤ 2 ^ 62
    room_is leaves = subst (λ z. RoomOf z x.header.sequence) moving leaves

    pub content_again : LeavesRoom (table_loaded x)
        → IsFoundImage C (table_loaded x) (m first from) (b first from) (length first.file) last.file
    content_again leaves =
        let given : IsTrue false → RestsOnFound (table_loaded x) first =
        λ e. absurd (let z : false ≡ true = e in cc) in
        found_again first from true false given (λ _. room_is leaves) most few_most last.file
        (left _ (can_told first from true false given (λ _. room_is leaves)) told refl).1

    pub left_again : LeavesRoom (table_loaded x) → RestsOnFound (table_loaded x) first
        → Leaves first last (IsFoundImage C (table_loaded x) (m first from) (b first from)
        (length first.file))
    left_again leaves rests = Leaves-weaken (IsFoundImage C (table_loaded x) (m first from) (b first from)
        (length first.file))
        (found_again first from true true (λ _. rests) (λ _. room_is leaves) most few_most)
        ((left _ (can_told first from true true (λ _. rests) (λ _. room_is leaves)) told refl).0 refl)
