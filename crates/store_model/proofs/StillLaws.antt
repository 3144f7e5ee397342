-- The file of a settled table that was read, where opening cuts it or its disk fails.
use Rattle.std.specs.Prelude.{◌≡◌, ℕ, ◌+◌, ◌*◌, ◌-◌, ◌<◌, ◌≤◌, ◌^◌, nat_lt, List, length, Ok, Err, IsTrue, Result, refl}
use Rattle.std.proofs.Common.{arith, ap, sym, ◌∙◌, subst, inl, inr}
use Rattle.std.proofs.lemmas.Bool.{cases_lt, lt-ltb, le-ltb, cond-false, cond-true}
use Rattle.disk_face.specs.States as disk
use Rattle.disk_face.specs.Counts.{HasCause, counted}
use Rattle.disk_face.specs.Frames.{Asks, Unchanged, call_weight}
use Rattle.disk_face.specs.Moments.{Leaves}
use Rattle.disk_face.specs.Writes.{KeepsDisk}
use Rattle.disk_face.proofs.FrameLaws.{asks_nothing, asks_then}
use Rattle.disk_face.proofs.MomentLaws.{Leaves-weaken}
use Rattle.size_class.specs.declared.TheConstants.{SIZE_MAX}
use Rattle.slot_codec.specs.Choice as choice
use Rattle.slot_codec.specs.Spelling.{head_len}
use Rattle.slot_codec.specs.declared.codec.Kind.TheVariants as kind
use Rattle.slot_codec.specs.declared.codec.SuperBlock.{SuperBlock}
use Rattle.slot_pair.specs.declared.find.SlotFault.TheVariants as slot
use Rattle.map_model.specs.Maps.{Map}
use Rattle.segment_layout.specs.Books.{Book, book_end}
use Rattle.segment_layout.specs.Layouts.{caps_of, grid_of}
use Rattle.segment_layout.specs.Shapes.{end_of}
use Rattle.table_rules.specs.Opening.{OpensBy}
use Rattle.extent_table.specs.Extents.{Spots}
use Rattle.placement_model.specs.Reads.{read_at}
use Rattle.reopen.specs.declared.fault.OpenFault.TheVariants as fault_of
use Rattle.reopen.specs.declared.state.Loaded.{Loaded}
use Rattle.reopen.specs.Loads.{IsLoadedFrom, KeepsLoaded, book_loaded, digests_loaded, table_loaded}
use Rattle.store_model.specs.Connection.{StoreValue, RestsOnTable, SameOnTable, base_of, opened_store}
use Rattle.store_model.specs.Opened.{AsksToCut, ContinuesFrom, IsCut, IsFoundImage, IsOpened, IsOpening, OpenCallsOf, OpensFound, LeavesAlone, MostCallsOf, RestsOnFound, found_base, most_found, turn_after_cut}
use Rattle.table_rules.proofs.SequenceLaws.{sequence_of_table}
use Rattle.store_model.proofs.OpeningLaws.{found_by, found_itself, found_low, found_one, found_spots, left_same, still_rests}
use Rattle.store_model.proofs.OverLaws.{same_itself}
use Rattle.store_model.proofs.StillStoreLaws.{same_base, book_is, book_ends, still_over, still_state, len_low, resized_image, cut_len, cut_opens, cut_slot, still_fresh}

module _ {C : ℕ} (x : Loaded C) (loads : KeepsLoaded x) (still : x.header.kind ≡ kind.Settled) (few : C ≤ 32)
    (wide : SIZE_MAX < 2 ^ C) where
  abbrev k : ℕ
  k = x.block.k

  abbrev base : ℕ
  base = head_len x.block.names

  abbrev caps : List ℕ
  caps = caps_of x.layout

  abbrev grid : List (List ℕ)
  grid = grid_of x.layout

  abbrev now : Spots
  now = x.table.now

  abbrev s : StoreValue
  s = opened_store C x.slots now (digests_loaded x) caps grid

  abbrev end : ℕ
  end = end_of k caps

  abbrev len : ℕ
  len = base + end

  -- ---- the disk

  module _ (first last : disk.State) (from : IsTrue first.tells → IsLoadedFrom first.file x)
      (short : IsTrue first.tells → length first.file ≤ len → Unchanged first last)
      (frame : KeepsDisk first last)
    where
      -- the layout ends there by the book found
      found_end : found_base (table_loaded x) + book_end x.block.k (book_loaded first.file x) ≡ len
      found_end = omega (
        arith,
        ap (λ (b : Book). book_end x.block.k b) (book_is x loads still few wide (length first.file - base)),
        ap (λ (b : SuperBlock). book_end b.k s.book) (sym loads.same_block),
        book_ends x loads still few wide,
      )

      -- what a crash may leave meanwhile
      module _ {T E : Type 0} {result : Result T E} (told : IsTrue first.tells)
          (cut : IsTrue first.tells → len < length first.file → IsCut len first last result) where
        abbrev u : choice.SlotTable
        u = table_loaded x

        abbrev found_map : Map
        found_map = read_at base first.file now

        abbrev found_book : Book
        found_book = book_loaded first.file x

        abbrev IsLeft : List ℕ → Type 0
        IsLeft = IsFoundImage C u found_map found_book (length first.file)

        still_left : RestsOnFound u first → Leaves first last IsLeft
        still_left rests = elim (cases_lt len (length first.file)) as (λ _. Leaves first last IsLeft) [
          | inl longer ↦ Leaves-weaken IsLeft (λ image was. resized_image x loads still few wide first.file
              (from told) was.0 image (rests was.0 was.1) was.2) (cut told longer).left
          | inr not ↦ left_same (short told not) told (from told).opens rests
        ]

        still_content : IsLeft last.file
        still_content = elim (cases_lt len (length first.file)) as (λ _. IsLeft last.file) [
          | inl longer ↦ elim (cut told longer).either as (λ _. IsLeft last.file) [
            | inl same ↦ subst IsLeft (sym same)
                (found_itself C u first.file found_map found_book (from told).opens)
            | inr is ↦ record {
              opens = record {
                table = u;
                opens = cut_opens x loads still few wide first.file
                    (from told) last.file is;
              };
              sequence = sequence_of_table last.file u (most_found u)
                  (cut_opens x loads still few wide first.file (from told) last.file is).read
                  (found_low C u first.file found_map found_book (from told).opens);
              no_longer = omega (
                arith,
                cut_len x loads still few wide first.file (from told) last.file is,
                len_low x loads still few wide first.file (from told),
              );
            }
          ]
          | inr not ↦ subst IsLeft (sym ((short told not).same_file told))
              (found_itself C u first.file found_map found_book (from told).opens)
        ]

        still_most : MostCallsOf x.header.kind u found_map first.turn last.turn
        still_most = subst (λ y. MostCallsOf y u found_map first.turn last.turn) (sym still)
            (elim (cases_lt len (length first.file)) as (λ _. last.turn ≤ first.turn + 2) [
              | inl longer ↦ (cut told longer).most
              | inr not ↦ omega (arith, (short told not).same_turn)
            ])

        still_asks : AsksToCut u first last
        still_asks settled = elim (cases_lt len (length first.file))
            as (λ _. Asks (2 * call_weight) (length first.file) first last) [
              | inl longer ↦ asks_then (cut told longer).asks (asks_nothing last) (omega arith)
                  (omega (arith, longer)) (omega arith)
              | inr not ↦ asks_then (short told not).asks (asks_nothing last) (omega arith) (omega arith)
                  (omega arith)
            ]

        still_alone : LeavesAlone u found_book first last
        still_alone settled low = short told (omega (arith, low, found_end))

      -- the disk failed
      failed : {T E : Type 0} (fault : E)
          → (IsTrue first.tells → len < length first.file → IsCut {T = T} len first last (Err fault))
          → HasCause {T = T} first.faults last.faults (Err fault)
          → IsOpening C first last (Err (fault_of.Slot slot.Disk))
      failed fault cut cause = record {
        opened = λ told. tt;
        over = λ told. tt;
        fresh = tt;
        refused = λ told. tt;
        found = λ told t m b o.
            found_by (found_one C (table_loaded x) t first.file _ m _ b (from told).opens o) (record {
              content = λ room. still_content told cut;
              left = λ room rests. still_left told cut rests;
              rests = λ rests. tt;
              calls = tt;
              most = still_most told cut;
              alone = still_alone told cut;
              asks = still_asks told cut;
            });
        unchanged = tt;
        closed = λ told none. absurd (none _ _
            (record { table = table_loaded x; opens = (from told).opens }));
        frame = frame;
        cause = record { later = cause.later; rose = λ is. cause.rose; calm = λ other. absurd (other refl) };
      }

      -- the file has the length of the layout
      module _ {T E : Type 0} (y : T)
          (cut : IsTrue first.tells → len < length first.file → IsCut {E = E} len first last (Ok y))
          (told : IsTrue first.tells) where
        abbrev done_map : Map
        done_map = read_at base first.file now

        abbrev done_book : Book
        done_book = book_loaded first.file x

        record Ends : Type 0 where
          slot : choice.slot_in_use last.file ≡ Ok x.slots
          opens : OpensBy C SIZE_MAX (table_loaded x) last.file done_map done_book
          long : length last.file ≡ len

        ends : Ends
        ends = elim (cases_lt len (length first.file)) as (λ _. Ends) [
          | inl longer ↦ record {
            slot = cut_slot x loads still few wide first.file (from told) last.file (cut told longer).done;
            opens = cut_opens x loads still few wide first.file (from told) last.file (cut told longer).done;
            long = cut_len x loads still few wide first.file (from told) last.file (cut told longer).done;
          }
          | inr not ↦
              let same = sym ((short told not).same_file told) in
              record {
                slot = subst (λ f. choice.slot_in_use f ≡ Ok x.slots) same (from told).in_use;
                opens = subst (λ f. OpensBy C SIZE_MAX (table_loaded x) f done_map done_book) same
                    (from told).opens;
                long = omega (
                  arith,
                  ap length same,
                  not,
                  len_low x loads still few wide
                      first.file (from told),
                );
              }
        ]

        done_rests : RestsOnFound (table_loaded x) first → RestsOnTable (base_of s) now last
        done_rests rests = elim (cases_lt len (length first.file))
            as (λ _. RestsOnTable (base_of s) now last) [
              | inl longer ↦ λ image left. subst (SameOnTable (base_of s) now last.file)
                  (sym ((cut told longer).only image left)) (same_itself (base_of s) now last.file)
              | inr not ↦ λ image left. found_spots (table_loaded x) now (base_of s) last.file image refl
                  loads.is_table.now_named (sym (same_base x loads still few wide))
                  (still_rests (short told not) told (from told).opens rests image left)
            ]

        done_end : found_base (table_loaded x) + book_end x.block.k done_book ≡ len
        done_end = found_end

        done_turn : last.turn
            ≡ turn_after_cut (found_base (table_loaded x) + book_end x.block.k done_book)
            first.file first.turn
        done_turn =
            let far = found_base (table_loaded x) + book_end x.block.k done_book in
            elim (cases_lt len (length first.file))
            as (λ _. last.turn ≡ turn_after_cut far first.file first.turn) [
              | inl longer ↦ (cut told longer).all
                  ∙ sym (cond-true (nat_lt far (length first.file)) (counted first.turn 2) first.turn
                  (lt-ltb far (length first.file) (omega (arith, done_end, longer))))
              | inr not ↦ (short told not).same_turn
                  ∙ sym (cond-false (nat_lt far (length first.file)) (counted first.turn 2) first.turn
                  (le-ltb far (length first.file) (omega (arith, done_end, not))))
            ]

        done_found : OpensFound C (table_loaded x) done_map done_book first last (Ok s)
        done_found = record {
          content = λ room. still_content told cut;
          left = λ room rests. still_left told cut rests;
          rests = done_rests;
          calls = subst (λ y. OpenCallsOf y (table_loaded x) done_map done_book first.file
              first.turn last.turn
              s) (sym still) done_turn;
          most = still_most told cut;
          alone = still_alone told cut;
          asks = still_asks told cut;
        }

        done_opened : IsOpened C first.file last.file s
        done_opened = record {
          table = table_loaded x;
          m = done_map;
          b = done_book;
          found = (from told).opens;
          block = loads.same_block;
          state = still_state x loads still few wide last.file done_map done_book ends.slot
              ends.opens ends.long;
          continues = subst (λ y. ContinuesFrom y x.header.sequence x.slots.sequence) (sym still)
              loads.sequence;
        }

      finished : {T E : Type 0} (y : T)
          → (IsTrue first.tells → len < length first.file → IsCut {E = E} len first last (Ok y))
          → HasCause {E = E} first.faults last.faults (Ok y) → IsOpening C first last (Ok s)
      finished y cut cause = record {
        opened = λ told. done_opened y cut told;
        over = λ told. let e = ends y cut told in
            still_over x loads still few wide last.file (done_map y cut told) (done_book y cut told)
            e.slot e.opens e.long;
        fresh = still_fresh x loads still few wide;
        refused = λ told. tt;
        found = λ told t m b o.
            found_by (found_one C (table_loaded x) t first.file _ m _ b (from told).opens o)
            (done_found y cut told);
        unchanged = tt;
        closed = λ told none. absurd (none _ _
            (record { table = table_loaded x; opens = (from told).opens }));
        frame = frame;
        cause = record { later = cause.later; rose = λ is. absurd (cc); calm = λ other. cause.calm };
      }

  -- ---- where the length to cut to is said in other words

  module _ (at : ℕ) (is : at ≡ len) (first last : disk.State)
      (from : IsTrue first.tells → IsLoadedFrom first.file x)
      (short : IsTrue first.tells → length first.file ≤ at → Unchanged first last)
      (frame : KeepsDisk first last)
    where
      short_here : IsTrue first.tells → length first.file ≤ len → Unchanged first last
      short_here = subst (λ n. IsTrue first.tells → length first.file ≤ n → Unchanged first last) is short

      pub still_failed : {T E : Type 0} (fault : E)
          → (IsTrue first.tells → at < length first.file → IsCut {T = T} at first last (Err fault))
          → HasCause {T = T} first.faults last.faults (Err fault)
          → IsOpening C first last (Err (fault_of.Slot slot.Disk))
      still_failed {T} fault cut cause = failed first last from short_here frame fault
          (subst (λ n. IsTrue first.tells → n < length first.file → IsCut {T = T} n first last (Err fault)) is
          cut) cause

      pub still_done : {T E : Type 0} (y : T)
          → (IsTrue first.tells → at < length first.file → IsCut {E = E} at first last (Ok y))
          → HasCause {E = E} first.faults last.faults (Ok y) → IsOpening C first last (Ok s)
      still_done {T} {E} y cut cause = finished first last from short_here frame y
          (subst (λ n. IsTrue first.tells → n < length first.file → IsCut {E = E} n first last (Ok y)) is cut)
          cause
