-- What opening finds in a file, and that each image that is alike on its table opens to the same.
use Rattle.std.specs.Prelude.{◌≡◌, ℕ, ◌+◌, ◌-◌, ◌≤◌, ◌<◌, List, length, slice_index_or, Ok, Err, IfOk, IfErr, IsTrue, Result, refl}
use Rattle.std.proofs.Common.{arith, ap, sym, ◌∙◌, subst}
use Rattle.byte_ranges.specs.Ranges.{SameBelow, SameWithin}
use Rattle.disk_face.specs.States as disk
use Rattle.disk_face.specs.Frames.{Unchanged}
use Rattle.disk_face.specs.Moments.{Leaves}
use Rattle.disk_face.proofs.FrameLaws.{Stays-trans, Unchanged-trans, asks_nothing, asks_then, unchanged_itself}
use Rattle.disk_face.proofs.MomentLaws.{Leaves-none, Leaves-trans, Leaves-weaken}
use Rattle.size_class.specs.Classes.{zero_row}
use Rattle.size_class.specs.declared.TheConstants.{SIZE_MAX}
use Rattle.size_class.proofs.ClassLaws.{zero_row-index}
use Rattle.slot_codec.specs.Choice as choice
use Rattle.slot_codec.specs.Spelling.{head_len}
use Rattle.slot_codec.specs.declared.codec.Kind.{Kind}
use Rattle.slot_codec.specs.declared.codec.Kind.TheVariants as kind
use Rattle.slot_codec.specs.declared.codec.Record.{Record}
use Rattle.table_rules.proofs.SequenceLaws.{sequence_of_table}
use Rattle.slot_pair.specs.Finding.{HasDiskCause}
use Rattle.slot_pair.specs.declared.find.SlotFault.TheVariants as slot
use Rattle.map_model.specs.Maps.{Map}
use Rattle.segment_layout.specs.Books.{Book, with_digests}
use Rattle.table_rules.specs.Objects.{HasRoomFor}
use Rattle.table_rules.specs.Opening.{Opens, OpensBy, placed_table}
use Rattle.table_rules.specs.Tables.{book_of, map_of, no_record}
use Rattle.table_rules.proofs.OpeningLaws.{carries_on}
use Rattle.extent_table.specs.Extents.{Spots, record_of, records_of}
use Rattle.placement_model.specs.Reads.{AreNamed}
use Rattle.placement_model.proofs.OpenedLaws.{opens_long, record_within}
use Rattle.placement_model.proofs.ReadLaws.{record_at, spot_of_record}
use Rattle.flush_run.specs.Calls.{piece_calls}
use Rattle.flush_run.proofs.CallLaws.{calls_none, calls_wider}
use Rattle.reopen.specs.Refusals.{RefusesToOpen}
use Rattle.reopen.specs.declared.fault.OpenFault.{OpenFault}
use Rattle.reopen.specs.declared.fault.OpenFault.TheVariants as fault
use Rattle.store_model.specs.Connection.{IsOver, StoreValue, SameOnTable, base_of, state_of}
use Rattle.store_model.specs.Opened.{HasOpenCalls, IsFoundImage, IsOpened, IsOpening, OpensFound, RefusesUnchanged, RestsOnFound, SameOnFound, found_base, MostCallsOf, most_by, most_found, state_at}
use Rattle.store_model.specs.Stores.{IsStore}
use Rattle.store_model.proofs.OverLaws.{by_index, head_is}

-- ---- what is found is one

pub record FoundSame (t u : choice.SlotTable) (m n : Map) (b c : Book) : Type 0 where
  pub same_table : t ≡ u
  pub same_map : m ≡ n
  pub same_book : b ≡ c

one_table : (t u : choice.SlotTable) → ◌≡◌ {A = Result choice.SlotTable choice.SlotRefusal} (Ok t) (Ok u)
    → t ≡ u
one_table t u is = cc

pub found_one : (classes : ℕ) (t u : choice.SlotTable) (file : List ℕ) (m n : Map) (b c : Book)
    → OpensBy classes SIZE_MAX t file m b → OpensBy classes SIZE_MAX u file n c → FoundSame t u m n b c
found_one classes t u file m n b c o p =
    let same : t ≡ u = one_table t u (sym o.read ∙ p.read) in
    record {
      same_table = same;
      same_map = o.same_map ∙ (λ i. map_of (head_len (same i).chosen.block.names) file (same i).records)
          ∙ sym p.same_map;
      same_book = o.same_book
          ∙ (λ i. with_digests (same i).digests (book_of (placed_table classes SIZE_MAX file (same i))))
          ∙ sym p.same_book;
    }

-- ---- images that are alike on the table

module _ (classes : ℕ) (t : choice.SlotTable) (file : List ℕ) (m : Map) (b : Book)
    (o : OpensBy classes SIZE_MAX t file m b) where
  pub opens_alike : (image : List ℕ) → SameOnFound t file image → OpensBy classes SIZE_MAX t image m b
  opens_alike image same = carries_on classes SIZE_MAX t file image m b o
      (omega (arith, opens_long classes SIZE_MAX t file m b o, same.same_length)) same.below
      (subst (λ (n : ℕ). HasRoomFor (placed_table classes SIZE_MAX file t) (n - found_base t))
      (sym same.same_length) o.valid.0.within)
      (by_index (found_base t) t.records file image same.same_length (λ i low.
      (record_within classes SIZE_MAX t file m b o i low, same.objects i low)))

  -- what was found has a sequence that an opening may leave
  pub found_low : t.chosen.header.sequence ≤ most_found t
  found_low = by t.chosen.header.kind t.chosen.header.sequence
    where
      by : (k : Kind) (found : ℕ) → found ≤ most_by k found
      by kind.Settled found = omega arith
      by kind.Moving found = omega arith

  pub found_image : (image : List ℕ) → SameOnFound t file image
      → IsFoundImage classes t m b (length file) image
  found_image image same = record {
    opens = record { table = t; opens = opens_alike image same };
    sequence = sequence_of_table image t (most_found t) (opens_alike image same).read found_low;
    no_longer = omega (arith, same.same_length);
  }

  pub found_itself : IsFoundImage classes t m b (length file) file
  found_itself = record {
    opens = record { table = t; opens = o };
    sequence = sequence_of_table file t (most_found t) o.read found_low;
    no_longer = omega arith;
  }

-- what is alike on a table is so on its spots
pub found_spots : (t : choice.SlotTable) (kept : Spots) (base : ℕ) (file image : List ℕ)
    → t.records ≡ records_of kept → AreNamed kept → found_base t ≡ base → SameOnFound t file image
    → SameOnTable base kept file image
found_spots t kept base file image records named at same = record {
  same_length = same.same_length;
  below = subst (λ n. SameBelow n file image) at same.below;
  objects = λ name x there.
      let r = record_at kept named name x there in
      let is : slice_index_or t.records r.0 no_record ≡ record_of (name, x) =
      ap (λ (rs : List Record). slice_index_or rs r.0 no_record) records ∙ r.2 in
      let low : r.0 < length t.records = omega (arith, r.1, ap (λ (rs : List Record). length rs) records) in
      let here = same.objects r.0 low in
      subst (λ n. SameWithin (n + x.place) (n + x.place + x.size) file image) at
      (subst (λ (y : Record). SameWithin (found_base t + y.place) (found_base t + y.place + y.size) file
      image) is here);
}

-- ---- a step that changed nothing

-- no call was made
no_calls : (k : Kind) (t : choice.SlotTable) (m : Map) (first : ℕ) → MostCallsOf k t m first first
no_calls kind.Settled t m first = omega arith
no_calls kind.Moving t m first = record {
  moved = zero_row;
  saves = 0;
  few = λ c. omega (arith, zero_row-index c);
  few_saves = omega arith;
  calls = calls_wider first first first zero_row zero_row 0 (piece_calls + 2) 0 1 t.chosen.header.count
      (calls_none first zero_row t.chosen.header.count) (omega arith) (omega arith);
}

module _ {classes : ℕ} {t : choice.SlotTable} {m : Map} {b : Book} {before mid : disk.State}
    (same : Unchanged before mid) (told : IsTrue before.tells)
    (o : OpensBy classes SIZE_MAX t before.file m b) where
  file_stays : mid.file ≡ before.file
  file_stays = same.same_file told

  pub left_same : RestsOnFound t before → Leaves before mid (IsFoundImage classes t m b (length before.file))
  left_same rests = Leaves-weaken (IsFoundImage classes t m b (length before.file))
      (λ image left. found_image classes t before.file m b o image (rests image left)) same.since

  pub still_rests : RestsOnFound t before → RestsOnFound t mid
  still_rests rests image left = subst (λ file. SameOnFound t file image) (sym file_stays)
      (rests image (same.images image left))

  -- opening stops before anything was changed
  pub stops_unchanged : (fault : OpenFault) → OpensFound classes t m b before mid (Err fault)
  stops_unchanged fault = record {
    content = λ room. subst (IsFoundImage classes t m b (length before.file)) (sym file_stays)
        (found_itself classes t before.file m b o);
    left = λ room rests. left_same rests;
    rests = λ rests. tt;
    calls = tt;
    most = subst (λ n. MostCallsOf t.chosen.header.kind t m before.turn n) (sym same.same_turn)
        (no_calls t.chosen.header.kind t m before.turn);
    alone = λ settled low. same;
    asks = λ settled. asks_then same.asks (asks_nothing mid) (omega arith) (omega arith) (omega arith);
  }

  -- an opening goes on
  pub opens_then : {now : disk.State} {result : Result StoreValue OpenFault}
      → OpensFound classes t m b mid now result → OpensFound classes t m b before now result
  opens_then {now} {result} next = record {
    content = λ room. subst (λ n. IsFoundImage classes t m b (length n) now.file) file_stays
        (next.content room);
    left = λ room rests. Leaves-trans (left_same rests)
        (subst (λ n. Leaves mid now (IsFoundImage classes t m b (length n))) file_stays
        (next.left room (still_rests rests)));
    rests = λ rests. next.rests (still_rests rests);
    calls = subst (λ n. IfOk result (HasOpenCalls t m b before.file n now.turn)) same.same_turn
        (subst (λ n. IfOk result (HasOpenCalls t m b n mid.turn now.turn)) file_stays next.calls);
    most = subst (λ n. MostCallsOf t.chosen.header.kind t m n now.turn) same.same_turn next.most;
    alone = λ settled low. Unchanged-trans same (next.alone settled
        (omega (arith, low, ap length file_stays)));
    asks = λ settled. asks_then same.asks (next.asks settled) (omega arith) (omega arith)
        (omega (arith, ap length file_stays));
  }

-- ---- what was found, by other words

pub found_by : {classes : ℕ} {t u : choice.SlotTable} {m n : Map} {b c : Book} {before now : disk.State}
    {result : Result StoreValue OpenFault} → FoundSame t u m n b c
    → OpensFound classes t m b before now result
    → OpensFound classes u n c before now result
found_by {classes} {t} {u} {m} {n} {b} {c} {before} {now} {result} same is =
    subst (λ (x : Book). OpensFound classes u n x before now result) same.same_book
    (subst (λ (x : Map). OpensFound classes u x b before now result) same.same_map
    (subst (λ (x : choice.SlotTable). OpensFound classes x m b before now result) same.same_table is))

-- ---- nothing at all

pub no_memory : (classes : ℕ) (a : disk.State) → IsTrue a.is_ready
    → IsOpening classes a a (Err fault.NoMemory)
no_memory classes a ready =
    let same = unchanged_itself a ready in
    record {
      opened = λ told. tt;
      over = λ told. tt;
      fresh = tt;
      refused = λ told. tt;
      found = λ told t m b o. stops_unchanged same told o fault.NoMemory;
      unchanged = same;
      closed = λ told none. same;
      frame = record { no_turn_back = omega arith; stays = same.stays };
      cause = record { later = omega arith; rose = λ is. absurd (cc); calm = λ other. refl };
    }

-- a refusal that changed nothing
refuses_same : (a m : disk.State) (why : OpenFault) → Unchanged a m → RefusesUnchanged a m why
refuses_same a m (fault.Slot slot.Disk) same = tt
refuses_same a m (fault.Slot slot.Short) same = same
refuses_same a m (fault.Slot slot.Unformatted) same = same
refuses_same a m (fault.Slot slot.NoGate) same = same
refuses_same a m (fault.Slot slot.SameSequence) same = same
refuses_same a m (fault.Slot (slot.Codec f at)) same = same
refuses_same a m (fault.Table broken) same = same
refuses_same a m fault.NoMemory same = same

pub refused_reading : {T : Type 0} (classes : ℕ) (a m : disk.State) (why : OpenFault) → Unchanged a m
    → (IsTrue a.tells → RefusesToOpen classes a.file why)
    → HasDiskCause {T = T} (fault.Slot slot.Disk) a.faults m.faults (Err why)
    → IsOpening classes a m (Err why)
refused_reading classes a m why same refused cause = record {
  opened = λ told. tt;
  over = λ told. tt;
  fresh = tt;
  refused = refused;
  found = λ told t n b o. stops_unchanged same told o why;
  unchanged = refuses_same a m why same;
  closed = λ told none. same;
  frame = record { no_turn_back = omega (arith, same.same_turn); stays = same.stays };
  cause = record {
    later = cause.later;
    rose = λ is. cause.rose (let e : why ≡ fault.Slot slot.Disk = (cc) in ap (λ (x : OpenFault). Err x) e);
    calm = λ other. cause.calm (λ is. other (let e : why ≡ fault.Slot slot.Disk = (cc) in
        ap (λ (x : OpenFault). Err x) e));
  };
}

-- ---- opening after reading

-- a refusal after a step that changed nothing
later_refusal : (a m d : disk.State) (why : OpenFault) → Unchanged a m → RefusesUnchanged m d why
    → RefusesUnchanged a d why
later_refusal a m d (fault.Slot slot.Disk) same after = tt
later_refusal a m d (fault.Slot slot.Short) same after = Unchanged-trans same after
later_refusal a m d (fault.Slot slot.Unformatted) same after = Unchanged-trans same after
later_refusal a m d (fault.Slot slot.NoGate) same after = Unchanged-trans same after
later_refusal a m d (fault.Slot slot.SameSequence) same after = Unchanged-trans same after
later_refusal a m d (fault.Slot (slot.Codec f at)) same after = Unchanged-trans same after
later_refusal a m d (fault.Table broken) same after = Unchanged-trans same after
later_refusal a m d fault.NoMemory same after = Unchanged-trans same after

after_reading : (a m d : disk.State) → Unchanged a m → (result : Result StoreValue OpenFault)
    → IfErr result (RefusesUnchanged m d) → IfErr result (RefusesUnchanged a d)
after_reading a m d same (Ok s) is = tt
after_reading a m d same (Err why) is = later_refusal a m d why same is

-- it was, and its table is opened
module _ {classes : ℕ} {a m d : disk.State} (same : Unchanged a m) (calm : m.faults ≡ a.faults) where
  pub opening_then : (result : Result StoreValue OpenFault) → IsOpening classes m d result
      → IsOpening classes a d result
  opening_then result next = record {
    opened = λ told. subst (λ f. IfOk result (IsOpened classes f d.file)) (same.same_file told)
        (next.opened (still_tells told));
    over = λ told. next.over (still_tells told);
    fresh = next.fresh;
    refused = λ told. subst (λ f. IfErr result (RefusesToOpen classes f)) (same.same_file told)
        (next.refused (still_tells told));
    found = λ told t n b o. opens_then same told o (next.found (still_tells told) t n b
        (subst (λ f. OpensBy classes SIZE_MAX t f n b) (sym (same.same_file told)) o));
    unchanged = after_reading a m d same result next.unchanged;
    closed = λ told none. Unchanged-trans same (next.closed (still_tells told)
        (λ n b is. none n b (subst (λ f. Opens classes SIZE_MAX f n b) (same.same_file told) is)));
    frame = record {
      no_turn_back = omega (arith, same.same_turn, next.frame.no_turn_back);
      stays = Stays-trans same.stays next.frame.stays;
    };
    cause = subst (λ n. HasDiskCause (fault.Slot slot.Disk) n d.faults result) calm next.cause;
  }
    where
      still_tells : IsTrue a.tells → IsTrue m.tells
      still_tells told = same.stays.told ∙ told

-- ---- opening again

-- what an opening left opens to the same state
pub opened_again : (classes : ℕ) (t : choice.SlotTable) (m : Map) (b : Book) (longest : ℕ)
    (image now : List ℕ) (s : StoreValue) → IsFoundImage classes t m b longest image
    → IsOpened classes image now s
    → state_of s now ≡ state_at m b s.in_use.sequence
opened_again classes t m b longest image now s left opened =
    let one = found_one classes opened.table left.opens.table image opened.m m opened.b b opened.found
    left.opens.opens in
    opened.state ∙ (λ i. state_at (one.same_map i) (one.same_book i) s.in_use.sequence)

-- a content is alike on each table
pub alike_itself : (t : choice.SlotTable) (file : List ℕ) → SameOnFound t file file
alike_itself t file = record {
  same_length = refl;
  below = λ i low. refl;
  objects = λ i low j above below. refl;
}

-- what is alike on the table of a store's checkpoint is so on the table that is found
pub alike_found : (classes : ℕ) (s : StoreValue) (file image : List ℕ) → IsStore classes s
    → (over : IsOver classes s file) → SameOnTable (base_of s) s.kept file image
    → SameOnFound over.table file image
alike_found classes s file image h over same =
    let at = head_is s h file over in
    let records = over.checkpoint.records in
    record {
      same_length = same.same_length;
      below = subst (λ n. SameBelow n file image) (sym at) same.below;
      objects = λ i low.
          let inside : i < length (records_of s.kept) =
          omega (arith, low, ap (λ (rs : List Record). length rs) records) in
          let r = spot_of_record s.kept h.kept.named i inside in
          let name = (slice_index_or (records_of s.kept) i no_record).name in
          let is = ap (λ (rs : List Record). slice_index_or rs i no_record) records in
          let place = ap (λ (x : Record). x.place) is ∙ r.same_place in
          let size = ap (λ (x : Record). x.size) is ∙ r.same_size in
          λ j above under. same.objects name r.spot r.is j (omega (arith, above, at, place))
          (omega (arith, under, at, place, size));
    }
