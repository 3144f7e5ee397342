-- The store of a moving table whose flush went on to its end.
use Rattle.std.specs.FinMap as fin
use Rattle.std.specs.Prelude.{◌≡◌, ℕ, ◌+◌, ◌-◌, ◌*◌, ◌<◌, ◌≤◌, ◌^◌, false, true, List, [], length, slice_index, Err, Ok, IsTrue, refl}
use Rattle.std.proofs.Common.{arith, ap, sym, ◌∙◌, subst, inl, inr}
use Rattle.std.proofs.lemmas.Bool.{cases_lt}
use Rattle.std.proofs.lemmas.List.Sorted.{IsPermutation-sym}
use Rattle.disk_face.specs.States as disk
use Rattle.disk_face.specs.Counts.{HasCause}
use Rattle.size_class.specs.Classes.{zero_row}
use Rattle.size_class.specs.Rows.{cells_of}
use Rattle.size_class.specs.declared.TheConstants.{SIZE_MAX}
use Rattle.size_class.proofs.ClassLaws.{zero_row-index}
use Rattle.slot_codec.specs.Choice as choice
use Rattle.slot_codec.specs.Readable.{IsSuperBlock}
use Rattle.slot_codec.specs.Spelling.{cap, head_len}
use Rattle.slot_codec.specs.Reading.{is_version}
use Rattle.slot_codec.specs.declared.codec.Kind.TheVariants as kind
use Rattle.slot_codec.specs.declared.codec.SuperBlock.{SuperBlock}
use Rattle.slot_pair.specs.declared.find.SlotFault.TheVariants as slot
use Rattle.logged_pair.specs.Slots.{used_in}
use Rattle.segment_layout.specs.Books.{Book, volumes, volumes_of_sizes, with_digests}
use Rattle.segment_layout.specs.Layouts.{caps_of, grid_of}
use Rattle.segment_layout.proofs.ShapeLaws.{caps-settled_above}
use Rattle.table_rules.specs.Tables.{sizes}
use Rattle.extent_table.specs.Extents.{Extents, digests_seen, records_of}
use Rattle.placement_model.specs.Reads.{EndWithin}
use Rattle.placement_model.proofs.BookLaws.{volumes_of_records}
use Rattle.placement_model.proofs.ShownLaws.{book_shown}
use Rattle.flush_model.specs.Phases.{PlanState, to_pack}
use Rattle.flush_model.specs.Plans.{class_total}
use Rattle.flush_run.specs.declared.hands.Hands.{Hands}
use Rattle.flush_run.specs.Calls.{CallsSoFar, piece_calls}
use Rattle.flush_run.proofs.BeginLaws.{items_low, to_pack_few}
use Rattle.flush_run.specs.FlushFrames.{FlushFrame, LeavesOldOrNew}
use Rattle.flush_run.specs.Parts.{FitsVersion, HandsValue, parts_of, saved_digests}
use Rattle.flush_run.specs.Runs.{CanResume, HasRun}
use Rattle.flush_run.specs.Settling.{FlushEnds}
use Rattle.flush_run.specs.Hands.{HandsMatchPlan}
use Rattle.flush_run.proofs.LaidPlaceLaws.{new_cap}
use Rattle.flush_run.proofs.SizeLaws.{sizes_len}
use Rattle.reopen.specs.declared.fault.OpenFault.TheVariants as fault_of
use Rattle.reopen.specs.declared.state.Loaded.{Loaded}
use Rattle.reopen.specs.Loads.{IsLoadedFrom, KeepsLoaded, table_loaded}
use Rattle.store_model.specs.Connection.{StoreValue, opened_store}
use Rattle.store_model.specs.Flushed.{IsFlushed}
use Rattle.store_model.specs.Opened.{ContinuesFrom, IsFresh, IsOpened, IsOpening, AsksToCut, LeavesAlone, MostCallsOf, MovesOn, OpenCallsOf, OpensFound}
use Rattle.store_model.specs.Resuming.{MakesStore, PacksAgain, StartsAgain}
use Rattle.store_model.proofs.LaidEndLaws.{names_differ_all, records_lie}
use Rattle.store_model.proofs.FlushedLaws.{ended_over, ended_rests, ended_state, ended_store}
use Rattle.store_model.proofs.GoingLaws.{begins_within, can_told, content_again, flight, left_again, phase, some_again}
use Rattle.store_model.proofs.MovingLaws.{hands_again, same_divisor}
use Rattle.store_model.proofs.OpeningLaws.{found_by, found_one}

module _ {C : ℕ} (x : Loaded C) (loads : KeepsLoaded x) (moving : x.header.kind ≡ kind.Moving) (few : C ≤ 32)
    (wide : SIZE_MAX < 2 ^ C) (y : HandsValue) (starts : StartsAgain x y) (p : PlanState)
    (packs : PacksAgain x p) (first last : disk.State)
    (from : IsTrue first.tells → IsLoadedFrom first.file x)
    (hands : Hands C) (left : (f : FlushFrame) → CanResume C f y p first → IsTrue first.tells
    → LeavesOldOrNew f ((used_in hands.slots).sequence + 1) first last)
    (made : HasRun p.numbers.boundary p.items first last y (parts_of hands))
    (few_saves : (used_in hands.slots).sequence + 1 < y.in_use.sequence + 2 ^ 18)
    (one_a_move : (used_in hands.slots).sequence ≤ y.in_use.sequence + to_pack p + length p.items + 1)
  where
    few_most : (used_in hands.slots).sequence + 1 ≤ x.header.sequence + (2 ^ 18 - 1)
    few_most = omega (
      arith,
      few_saves,
      ap (λ (u : choice.InUse). u.sequence) starts.in_use,
      loads.sequence,
    )

    -- ---- what it called

    module _ (told : IsTrue first.tells) where
      abbrev file : List ℕ
      file = first.file

      abbrev base : ℕ
      base = head_len x.block.names

      never : {A : Type 0} → IsTrue false → A
      never e = absurd (let z : false ≡ true = e in cc)

      abbrev f : FlushFrame
      f = flight x loads moving few wide y starts p packs first (from told) false false never never

      can : CanResume C f y p first
      can = can_told x loads moving few wide y starts p packs first (from told) false false never never

      hand : HandsMatchPlan f x.slots x.table (caps_of x.layout) (grid_of x.layout) []
          (phase x loads moving few wide y starts p packs)
      hand = hands_again x loads moving few wide _ (from told).opens.valid false false f.new_map f.new_book
          _ (same_divisor x loads moving few wide) p.items
          (IsPermutation-sym _ p.items packs.items)

      boundary_is : p.numbers.boundary ≡ x.header.boundary
      boundary_is = ap (λ (q : PlanState). q.numbers.boundary) packs.value

      lies : EndWithin base file x.table.now
      lies name z there = omega (
        arith,
        hand.lower name z there,
        begins_within x loads moving few wide y starts p packs first (from told),
      )

      totals : (c : ℕ) → x.header.boundary ≤ c → class_total p.items c ≡ slice_index (volumes f.new_map) c
      totals c high =
          let live = volumes_of_sizes (sizes (records_of x.table.now)) in
          sym (new_cap f x.slots x.table (caps_of x.layout) (grid_of x.layout) []
          (phase x loads moving few wide y starts p packs) hand c high)
          ∙ caps-settled_above x.header.boundary c (caps_of x.layout) live hand.caps_full.full
          (omega (arith, hand.boundary, few)) high
          ∙ ap (λ (xs : List ℕ). slice_index xs c)
          (sym (volumes_of_records base file (records_of x.table.now)
          (names_differ_all x.table.now loads.is_table.now_named)
          (records_lie base file x.table.now loads.is_table.now_named lies)))

      zero_before : (c : ℕ) → slice_index y.moved c ≡ 0
      zero_before c = ap (λ (xs : List ℕ). slice_index xs c) starts.moved ∙ zero_row-index c

      moved_few : (c : ℕ) → slice_index (cells_of hands.ledger.moved) c
          ≤ 2 * slice_index (volumes f.new_map) c
      moved_few c = elim (cases_lt c x.header.boundary)
          as (λ _. slice_index (cells_of hands.ledger.moved) c ≤ 2 * slice_index (volumes f.new_map) c) [
            | inl low ↦ omega (arith, made.lower c (omega (arith, low, boundary_is)), zero_before c)
            | inr high ↦ omega (arith, made.few c, zero_before c, totals c (omega (arith, high)))
          ]

      saves_are : (used_in hands.slots).sequence - x.header.sequence ≤ 2 * x.header.count + 1
      saves_are = omega (
        arith,
        one_a_move,
        to_pack_few p,
        items_low can.goes,
        ap (λ (e : Extents). fin.len e.now) starts.table,
        loads.count,
        ap (λ (u : choice.InUse). u.sequence) starts.in_use,
        loads.sequence,
      )

      calls_are : (more saves : ℕ) → CallsSoFar first.turn last.turn y.moved
          (cells_of hands.ledger.moved) more
          ((used_in hands.slots).sequence - y.in_use.sequence + saves) (fin.len y.table.now)
          → CallsSoFar first.turn last.turn zero_row (cells_of hands.ledger.moved) more
          ((used_in hands.slots).sequence - x.header.sequence + saves) x.header.count
      calls_are more saves calls = subst (λ z. CallsSoFar first.turn last.turn zero_row
          (cells_of hands.ledger.moved) more ((used_in hands.slots).sequence - x.header.sequence + saves) z)
          (ap (λ (e : Extents). fin.len e.now) starts.table ∙ loads.count)
          (subst (λ z. CallsSoFar first.turn last.turn zero_row (cells_of hands.ledger.moved) more
          ((used_in hands.slots).sequence - z + saves) (fin.len y.table.now))
          (ap (λ (u : choice.InUse). u.sequence) starts.in_use ∙ loads.sequence)
          (subst (λ z. CallsSoFar first.turn last.turn z (cells_of hands.ledger.moved) more
          ((used_in hands.slots).sequence - y.in_use.sequence + saves) (fin.len y.table.now)) starts.moved
          calls))

      again_most : MostCallsOf x.header.kind (table_loaded x) f.new_map first.turn last.turn
      again_most = subst (λ z. MostCallsOf z (table_loaded x) f.new_map first.turn last.turn) (sym moving)
          (record {
            moved = cells_of hands.ledger.moved;
            saves = (used_in hands.slots).sequence - x.header.sequence;
            few = moved_few;
            few_saves = saves_are;
            calls = calls_are (piece_calls + 2) 1 made.most;
          })

      again_alone : LeavesAlone (table_loaded x) f.new_book first last
      again_alone settled low = absurd (let e : kind.Moving ≡ kind.Settled = sym moving ∙ settled in cc)

      again_asks : AsksToCut (table_loaded x) first last
      again_asks settled = absurd (let e : kind.Moving ≡ kind.Settled = sym moving ∙ settled in cc)

    -- the disk failed
    pub again_failed : {T E : Type 0} (fault : E) → HasCause {T = T} first.faults last.faults (Err fault)
        → IsOpening C first last (Err (fault_of.Slot slot.Disk))
    again_failed fault cause = record {
      opened = λ told. tt;
      over = λ told. tt;
      fresh = tt;
      refused = λ told. tt;
      found = λ told t m b o.
          found_by (found_one C (table_loaded x) t first.file _ m _ b (from told).opens o) (record {
            content = content_again x loads moving few wide y starts p packs first last
                ((used_in hands.slots).sequence + 1) few_most
                left told
                (from told);
            left = left_again x loads moving few wide y starts p packs first last
                ((used_in hands.slots).sequence + 1) few_most
                left told (from told);
            rests = λ rests. tt;
            calls = tt;
            most = again_most told;
            alone = again_alone told;
            asks = again_asks told;
          });
      unchanged = tt;
      closed = λ told none. absurd (none _ _ (record { table = table_loaded x; opens = (from told).opens }));
      frame = made.keeps.disk;
      cause = record { later = cause.later; rose = λ is. cause.rose; calm = λ other. absurd (other refl) };
    }

    -- ---- it was done

    module _ (ends : (f : FlushFrame) → CanResume C f y p first → FlushEnds C f (parts_of hands) last)
        (later : y.in_use.sequence + 1 ≤ (used_in hands.slots).sequence) where
      ends_for : (f : FlushFrame) → CanResume C f y p first
          → FlushEnds C (record f { classes = C; size_max = SIZE_MAX }) (parts_of hands) last
      ends_for f can = subst (λ z. FlushEnds C z (parts_of hands) last)
          (λ i. record f { classes = can.goes.same_classes i; size_max = can.goes.same_max i }) (ends f can)

      any : (f : FlushFrame) × CanResume C f y p first
      any = some_again x loads moving few wide y starts p packs first from

      any_ends : FlushEnds C (record any.0 { classes = C; size_max = SIZE_MAX }) (parts_of hands) last
      any_ends = ends_for any.0 any.1

      block_is : (used_in hands.slots).block ≡ x.slots.block
      block_is = made.keeps.block ∙ ap (λ (u : choice.InUse). u.block) starts.in_use

      block_found : (used_in hands.slots).block ≡ x.block
      block_found = block_is ∙ loads.same_block

      names_now : hands.table.names ≡ (used_in hands.slots).block.names
      names_now = made.keeps.names ∙ ap (λ (e : Extents). e.names) starts.table ∙ loads.room
          ∙ ap (λ (z : SuperBlock). z.names) (sym block_found)

      same_version : hands.version ≡ x.header.version
      same_version = made.keeps.version ∙ starts.version

      same_cap : hands.table.cap ≡ x.table.cap
      same_cap = made.keeps.cap ∙ ap (λ (e : Extents). e.cap) starts.table

      cap_now : hands.table.cap ≡ cap (used_in hands.slots).block.names hands.version
      cap_now = same_cap ∙ loads.cap ∙ (λ i. cap ((sym block_found) i).names ((sym same_version) i))

      few_now : fin.len hands.table.now ≤ hands.table.cap
      few_now = omega (
        arith,
        loads.few,
        same_cap,
        sizes_len y.table.now hands.table.now made.sizes,
        ap (λ (e : Extents). fin.len e.now) starts.table,
      )

      block_now : IsSuperBlock (used_in hands.slots).block
      block_now = subst IsSuperBlock (sym block_found) loads.ranges

      fits : FitsVersion (parts_of hands)
      fits = record {
        plain = made.keeps.same_form ∙ starts.plain;
        known = subst (λ v. IsTrue (is_version v)) (sym same_version) loads.version;
        few = omega (arith, few_now, cap_now);
      }

      -- a store may be made of the hands
      pub makes_store : MakesStore hands
      makes_store = record {
        few = few;
        wide = wide;
        block = block_now;
        kept = sym any_ends.kept;
        names = names_now;
        digests = ap (λ (d : choice.Digests). digests_seen hands.version d) (sym any_ends.kept_digests);
        cap = cap_now;
        few_names = few_now;
        divisor = any_ends.divisor;
        valid = any_ends.laid.valid;
        table = any_ends.table;
        spans = any_ends.empty;
        guard_room = made.keeps.room ∙ starts.room ∙ ap (λ (z : SuperBlock). z.names) (sym block_found);
        plain = fits.plain;
        version = fits.known;
        base = made.keeps.base ∙ starts.base ∙ ap (λ (z : SuperBlock). head_len z.names) (sym block_found);
        buffer = made.keeps.buffer ∙ starts.buffer;
      }

      -- ---- the store

      abbrev s : StoreValue
      s = opened_store C (used_in hands.slots) hands.table.now (saved_digests (parts_of hands))
          (caps_of hands.layout)
          (grid_of hands.layout)

      is_flushed : IsFlushed C (used_in hands.slots) hands.table.now (saved_digests (parts_of hands))
          (caps_of hands.layout) (grid_of hands.layout) s
      is_flushed =
          let shown = book_shown C SIZE_MAX (used_in hands.slots).block.k (caps_of hands.layout)
          (grid_of hands.layout)
          hands.table.now any_ends.laid in
          let seen = ap (λ (b : Book). with_digests (saved_digests (parts_of hands)) b) shown in
          record { in_use = refl; same_now = refl; kept = refl; book = seen; kept_book = seen }

      again_fresh : IsFresh C s
      again_fresh = record {
        whole = refl;
        store = ended_store hands any.0 last any_ends names_now block_now fits s is_flushed;
        same_now = refl;
        same_book = refl;
        moved = refl;
        asked = refl;
        idle = refl;
      }

      module _ (told : IsTrue first.tells) where
        abbrev here : FlushFrame
        here = f told

        told_ends : FlushEnds C here (parts_of hands) last
        told_ends = ends here (can told)

        still_told : IsTrue last.tells
        still_told = made.keeps.disk.stays.told ∙ told

        base_now : head_len (used_in hands.slots).block.names ≡ head_len x.slots.block.names
        base_now = ap (λ (z : SuperBlock). head_len z.names) block_is

        again_opened : IsOpened C first.file last.file s
        again_opened = record {
          table = table_loaded x;
          m = here.new_map;
          b = here.new_book;
          found = (from told).opens;
          block = block_found;
          state = ended_state hands here last told_ends names_now block_now fits s is_flushed base_now
              still_told;
          continues = subst (λ z. ContinuesFrom z x.header.sequence (used_in hands.slots).sequence)
              (sym moving) (
                omega (arith, later, ap (λ (u : choice.InUse). u.sequence) starts.in_use, loads.sequence),
                omega (arith, few_saves, ap (λ (u : choice.InUse). u.sequence) starts.in_use, loads.sequence),
              );
        }

        -- ---- the calls

        module _ (calls : CallsSoFar first.turn last.turn y.moved (cells_of hands.ledger.moved) 2
            ((used_in hands.slots).sequence - y.in_use.sequence) (fin.len y.table.now)) where
          moves_on : MovesOn here.new_map x.header.count first.turn last.turn
              ((used_in hands.slots).sequence - x.header.sequence)
          moves_on = record {
            moved = cells_of hands.ledger.moved;
            few = moved_few told;
            few_saves = saves_are told;
            calls = subst (λ n. CallsSoFar first.turn last.turn zero_row (cells_of hands.ledger.moved) 2 n
                x.header.count) (omega arith)
                (calls_are told 2 0 (subst (λ n. CallsSoFar first.turn last.turn y.moved
                (cells_of hands.ledger.moved) 2 n (fin.len y.table.now)) (omega arith) calls));
          }

          again_found : OpensFound C (table_loaded x) here.new_map here.new_book first last (Ok s)
          again_found = record {
            content = content_again x loads moving few wide y starts p packs first last
                ((used_in hands.slots).sequence + 1) few_most
                left told
                (from told);
            left = left_again x loads moving few wide y starts p packs first last
                ((used_in hands.slots).sequence + 1) few_most
                left told (from told);
            rests = λ rests. ended_rests hands here last told_ends names_now block_now fits s is_flushed
                base_now still_told;
            calls = subst (λ z. OpenCallsOf z
                (table_loaded x) here.new_map here.new_book first.file first.turn last.turn s)
                (sym moving) moves_on;
            most = again_most told;
            alone = again_alone told;
            asks = again_asks told;
          }

      pub again_done : {T E : Type 0} (z : T) →
          CallsSoFar first.turn last.turn y.moved
          (cells_of hands.ledger.moved) 2 ((used_in hands.slots).sequence - y.in_use.sequence)
          (fin.len y.table.now)
          → HasCause {E = E} first.faults last.faults (Ok z) → IsOpening C first last (Ok s)
      again_done z calls cause = record {
        opened = λ told. again_opened told;
        over = λ told. ended_over hands (f told) last (told_ends told) names_now block_now fits s is_flushed
            (base_now told) (still_told told);
        fresh = again_fresh;
        refused = λ told. tt;
        found = λ told t m b o.
            found_by (found_one C (table_loaded x) t first.file _ m _ b (from told).opens o)
            (again_found told calls);
        unchanged = tt;
        closed = λ told none. absurd (none _ _
            (record { table = table_loaded x; opens = (from told).opens }));
        frame = made.keeps.disk;
        cause = record { later = cause.later; rose = λ is. absurd (cc); calm = λ other. cause.calm };
      }
