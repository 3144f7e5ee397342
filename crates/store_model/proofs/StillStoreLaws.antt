-- The store of a settled table that was read from a file, over that file and once it is cut.
use Rattle.std.specs.Prelude.{◌≡◌, ℕ, ◌+◌, ◌-◌, ◌<◌, ◌≤◌, ◌^◌, nat_lt, cond, List, length, take, slice_index, Ok, refl}
use Rattle.std.proofs.Common.{arith, ap, sym, ◌∙◌, subst, inl, inr}
use Rattle.std.proofs.lemmas.Bool.{le-ltb, cond-false}
use Rattle.std.specs.FinMap as fin
use Rattle.byte_ranges.specs.Ranges.{resized}
use Rattle.byte_ranges.proofs.RangeLaws.{length-resized, resized-index}
use Rattle.disk_face.specs.Moments.{ResizedImage}
use Rattle.size_class.specs.Classes.{IsGrid, IsRow}
use Rattle.size_class.specs.declared.TheConstants.{SIZE_MAX}
use Rattle.slot_codec.specs.Choice as choice
use Rattle.slot_codec.specs.Readable.{IsSuperBlock}
use Rattle.slot_codec.specs.Spelling.{cap, head_len}
use Rattle.slot_codec.specs.declared.codec.Header.{Header}
use Rattle.slot_codec.specs.declared.codec.Kind.TheVariants as kind
use Rattle.slot_codec.specs.declared.codec.SuperBlock.{SuperBlock}
use Rattle.slot_codec.proofs.ChoiceLaws.{same_in_use}
use Rattle.map_model.specs.Maps.{Map}
use Rattle.segment_layout.specs.Books.{Book, book_end, version_of, with_digests}
use Rattle.segment_layout.specs.Layouts.{caps_of, grid_of}
use Rattle.segment_layout.specs.Shapes.{end_of}
use Rattle.segment_layout.proofs.ShapeLaws.{end_of-rest}
use Rattle.table_rules.specs.Opening.{OpensBy, placed_table}
use Rattle.table_rules.specs.Objects.{HasRoomFor}
use Rattle.table_rules.specs.Rules.{IsValid}
use Rattle.table_rules.specs.Suffixes.{KeepsBelow}
use Rattle.table_rules.specs.Tables.{book_of, end_of_record, last_end, nth}
use Rattle.table_rules.proofs.SuffixLaws.{below_of_places}
use Rattle.extent_table.specs.Extents.{Spots, records_of}
use Rattle.placement_model.specs.Laid.{book_at, laid, settled_table}
use Rattle.placement_model.specs.LaidOut.{IsLaidOut, shown_book}
use Rattle.placement_model.specs.Reads.{read_at}
use Rattle.placement_model.proofs.LaidOutLaws.{laid_from_below}
use Rattle.placement_model.proofs.OpenedLaws.{opens_long, opens_resized}
use Rattle.placement_model.proofs.QuietLaws.{IsGrid-wider}
use Rattle.placement_model.proofs.RiseLaws.{CellsRise-itself}
use Rattle.placement_model.proofs.ShownLaws.{book_shown}
use Rattle.reopen.specs.declared.state.Loaded.{Loaded}
use Rattle.reopen.specs.Loads.{IsLoadedFrom, KeepsLoaded, book_loaded, digests_loaded, table_loaded}
use Rattle.store_model.specs.Connection.{IsOver, StoreValue, base_of, kept_map, opened_store, state_of}
use Rattle.store_model.specs.Opened.{IsFoundImage, IsFresh, SameOnFound, most_found, state_at}
use Rattle.store_model.specs.Stores.{IsStore}
use Rattle.table_rules.proofs.HeaderLaws.{below_rekinded}
use Rattle.table_rules.proofs.SequenceLaws.{sequence_of_table}
use Rattle.store_model.proofs.DigestLaws.{version_seen}
use Rattle.store_model.proofs.OpeningLaws.{found_low, opens_alike}

-- what a settled table keeps of its classes isn't seen in the other numbers of its header
below_still : (classes size_max k len : ℕ) (h : Header) (spots : Spots)
    → KeepsBelow classes (laid classes size_max k len h spots)
    → KeepsBelow classes (settled_table classes size_max k h.caps h.used spots)
below_still classes size_max k len h spots keeps = below_rekinded 1 kind.Settled 0 0 0 0 0 (end_of k h.caps)
    classes (laid classes size_max k len h spots) keeps

module _ {C : ℕ} (x : Loaded C) (loads : KeepsLoaded x) (still : x.header.kind ≡ kind.Settled) (few : C ≤ 32)
    (wide : SIZE_MAX < 2 ^ C) where
  abbrev k : ℕ
  k = x.block.k

  abbrev base : ℕ
  base = head_len x.block.names

  abbrev caps : List ℕ
  caps = caps_of x.layout

  abbrev grid : List (List ℕ)
  grid = grid_of x.layout

  abbrev now : Spots
  now = x.table.now

  row : IsRow C caps
  row = x.layout.caps.shape

  full : IsGrid C grid
  full = x.layout.used.shape

  -- the header, as its kind and the layout say
  abbrev h : Header
  h = record x.header { kind = kind.Settled; caps = caps; used = grid }

  header_is : x.header ≡ h
  header_is = λ i. record x.header { kind = still i; caps = sym loads.caps i; used = sym loads.used i }

  keeps : KeepsBelow C (laid C SIZE_MAX k loads.data_len h now)
  keeps = below_of_places C (laid C SIZE_MAX k loads.data_len h now) (record {
    caps_full = row.full;
    grid_full = IsGrid-wider C grid few full;
    classes = few;
  }) (subst (λ (y : Header). IsValid (laid C SIZE_MAX k loads.data_len y now)) header_is loads.valid).0.places
      few (omega arith)

  pub still_laid : IsLaidOut C SIZE_MAX k caps grid now
  still_laid = laid_from_below C SIZE_MAX k caps grid now few wide row full loads.is_table.now_named
      (below_still C SIZE_MAX k loads.data_len h now keeps)

  -- the store
  abbrev s : StoreValue
  s = opened_store C x.slots now (digests_loaded x) caps grid

  pub same_base : base_of s ≡ base
  same_base = ap (λ (b : SuperBlock). head_len b.names) loads.same_block

  abbrev end : ℕ
  end = end_of k caps

  abbrev len : ℕ
  len = base + end

  -- its book is that of the table
  pub book_is : (n : ℕ) → with_digests (digests_loaded x) (book_of (laid C SIZE_MAX k n x.header now))
      ≡ s.book
  book_is n = (λ i. with_digests (digests_loaded x) (book_of (laid C SIZE_MAX k n (header_is i) now)))
      ∙ (λ i. with_digests (digests_loaded x)
      (book_at C SIZE_MAX ((sym loads.same_block) i).k caps grid now))

  end_is : end_of s.in_use.block.k caps ≡ end
  end_is = ap (λ (b : SuperBlock). end_of b.k caps) loads.same_block

  pub book_ends : book_end s.in_use.block.k s.book ≡ end
  book_ends =
      let shown = book_shown C SIZE_MAX s.in_use.block.k caps grid now
      (subst (λ (b : SuperBlock). IsLaidOut C SIZE_MAX b.k caps grid now) (sym loads.same_block)
      still_laid) in
      ap (λ (b : Book). book_end s.in_use.block.k b) shown ∙ end_is

  -- where the layout ends in the header's words
  last_is : (n : ℕ) → last_end (laid C SIZE_MAX k n x.header now) x.header.kind ≡ end_of k (take C caps)
  last_is n = (λ i. last_end (laid C SIZE_MAX k n x.header now) (still i))
      ∙ ap (λ cs. end_of k (take C cs)) (sym loads.caps)

  -- the table has room where its layout ends
  room : (n : ℕ) → HasRoomFor (laid C SIZE_MAX k n x.header now) (len - base)
  room n i low = subst (λ e. cond (nat_lt i (length (records_of now)))
      (end_of_record (nth (laid C SIZE_MAX k n x.header now) i)) e ≤ len - base) (sym (last_is n))
      (omega (arith, still_laid.valid.0.within i low))

  -- ---- over a file

  module _ (file : List ℕ) (m : Map) (b : Book) (slot : choice.slot_in_use file ≡ Ok x.slots)
      (o : OpensBy C SIZE_MAX (table_loaded x) file m b) (long : length file ≡ len) where
    map_is : kept_map s file ≡ m
    map_is = ap (λ n. read_at n file now) same_base ∙ sym o.same_map

    book_same : s.book ≡ b
    book_same = sym (o.same_book ∙ book_is (length file - base))

    pub still_over : IsOver C s file
    still_over = record {
      table = table_loaded x;
      checkpoint = record {
        slot = slot;
        records = refl;
        opens = subst (λ (n : Map). OpensBy C SIZE_MAX (table_loaded x) file n s.kept_book) (sym map_is)
            (subst (λ (c : Book). OpensBy C SIZE_MAX (table_loaded x) file m c) (sym book_same) o);
      };
      same_length = omega (arith, long, same_base, book_ends);
    }

    pub still_state : state_of s file ≡ state_at m b s.in_use.sequence
    still_state = λ i. record {
      map = map_is i;
      kept = map_is i;
      book = book_same i;
      kept_book = book_same i;
      sequence = s.in_use.sequence;
    }

  -- ---- the file that it was read from

  module _ (file : List ℕ) (from : IsLoadedFrom file x) where
    abbrev t : choice.SlotTable
    t = table_loaded x

    abbrev m : Map
    m = read_at base file now

    abbrev b : Book
    b = book_loaded file x

    begins_within : base ≤ length file
    begins_within = opens_long C SIZE_MAX t file m b from.opens

    pub len_low : len ≤ length file
    len_low = omega (
      arith,
      begins_within,
      from.opens.valid.0.within (length (records_of now)) (omega arith),
      cond-false (nat_lt (length (records_of now)) (length (records_of now)))
          (end_of_record (nth (placed_table C SIZE_MAX file t) (length (records_of now))))
          (last_end (placed_table C SIZE_MAX file t) x.header.kind)
          (le-ltb (length (records_of now)) (length (records_of now)) (omega arith)),
      last_is (length file - base),
      end_of-rest k caps C (λ c high. row.zero_above c high),
    )

    -- an image that is alike on the table, once its length is set, or is being set
    pub resized_image : (old image : List ℕ) → SameOnFound t file old → ResizedImage len old image
        → IsFoundImage C t m b (length file) image
    resized_image old image same step =
        let opens = opens_resized C SIZE_MAX t old image m b len
        (opens_alike C t file m b from.opens old same)
        step (omega arith) (room (length old - base)) in
        record {
          opens = record { table = t; opens = opens };
          sequence = sequence_of_table image t (most_found t) opens.read (found_low C t file m b from.opens);
          no_longer = elim step.either as (λ _. length image ≤ length file) [
            | inl e ↦ omega (arith, e, same.same_length)
            | inr e ↦ omega (arith, e, len_low)
          ];
        }

    module _ (image : List ℕ) (is : image ≡ resized file len) where
      pub cut_len : length image ≡ len
      cut_len = ap length is ∙ length-resized file len

      cut_step : ResizedImage len file image
      cut_step = record {
        either = inr cut_len;
        bytes = λ i low old new. ap (λ (xs : List ℕ). slice_index xs i) is ∙ resized-index file len i low old;
      }

      pub cut_opens : OpensBy C SIZE_MAX t image m b
      cut_opens = opens_resized C SIZE_MAX t file image m b len from.opens cut_step (omega arith)
          (room (length file - base))

      pub cut_slot : choice.slot_in_use image ≡ Ok x.slots
      cut_slot = same_in_use file image x.slots from.in_use (omega (arith, cut_len, same_base))
          (λ i low. sym (cut_step.bytes i (omega (arith, low, same_base))
          (omega (arith, low, same_base, begins_within)) (omega (arith, low, same_base, cut_len))))

  -- ---- the store

  still_store : IsStore C s
  still_store =
      let laid_there : IsLaidOut C SIZE_MAX x.slots.block.k caps grid now =
      subst (λ (b : SuperBlock). IsLaidOut C SIZE_MAX b.k caps grid now) (sym loads.same_block) still_laid in
      let shown = book_shown C SIZE_MAX x.slots.block.k caps grid now laid_there in
      let ds = digests_loaded x in
      let few_names : fin.len now ≤ cap x.slots.block.names (version_of (with_digests ds
      (shown_book C SIZE_MAX x.slots.block.k caps grid now))) =
      subst (λ m. fin.len now ≤ m) (loads.cap ∙ (λ i. cap ((sym loads.same_block) i).names
      (sym (version_seen x.header.version x.table.digests
      (shown_book C SIZE_MAX x.slots.block.k caps grid now) loads.version) i))) loads.few in
      subst (λ (b : Book). IsStore C (record s { book = with_digests ds b; kept_book = with_digests ds b }))
      (sym shown) (record {
        block = subst IsSuperBlock (sym loads.same_block) loads.ranges;
        now = laid_there;
        now_book = refl;
        now_few = few_names;
        now_in_range = loads.is_table.now_in_range;
        kept = laid_there;
        kept_book = refl;
        kept_few = few_names;
        kept_in_range = loads.is_table.now_in_range;
        fuller = CellsRise-itself grid;
      })

  pub still_fresh : IsFresh C s
  still_fresh = record {
    whole = refl;
    store = still_store;
    same_now = refl;
    same_book = refl;
    moved = refl;
    asked = refl;
    idle = refl;
  }
