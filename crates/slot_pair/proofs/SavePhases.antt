-- What is left by each of the three steps of a save.
use Rattle.std.specs.Prelude.{◌≡◌, ℕ, ◌+◌, ◌-◌, ◌*◌, ◌^◌, ◌<◌, ◌≤◌, Bool, true, false, IsTrue, List, length, Ok, refl}
use Rattle.std.proofs.Common.{arith, sym, subst, inl, inr}
use Rattle.byte_ranges.specs.Ranges.{SameFrom, SameOutside}
use Rattle.disk_face.specs.Moments.{Rests}
use Rattle.disk_face.proofs.MomentLaws.{Leaves-trans, Leaves-weaken}
use Rattle.disk_face.specs.States.{State}
use Rattle.slot_codec.specs.Choice.{Chosen, InUse, chosen, is_open, slot_in_use}
use Rattle.slot_codec.proofs.CapLaws.{records_fit}
use Rattle.slot_codec.proofs.ChoiceLaws.{in_use_long}
use Rattle.slot_codec.specs.Readable.{AreInRange, IsHeader}
use Rattle.slot_codec.specs.Reading.{all_in_range, is_version, worn_from}
use Rattle.slot_codec.specs.Rolls.{HaveDigests, IsRoll}
use Rattle.slot_codec.specs.Spelling.{cap, gate_at, head_len, header_len, record_len, room_len, slot_at}
use Rattle.slot_codec.specs.declared.codec.Header.{Header}
use Rattle.slot_codec.specs.declared.codec.Record.{Record}
use Rattle.slot_pair.proofs.SaveLaws.{IsBeside, IsFilled, alike-refl, beside_data, beside_keeps, body_beside, closing_beside, closing_data, closing_keeps, filled_in_use, filled_saved, gate_filled}
use Rattle.slot_pair.specs.Saves.{HasOldOrNewTable, HasTable, IsSaveDone, IsWhole, LeavesEither, SaveLeaves, closing_at, closing_len, next_header, next_in_use}
use Rattle.disk_face.specs.Writes.{IsRewritten, WritesWithin}

-- what is known as a save begins
pub record Begins (u : InUse) (h : Header) (rs : List Record) (a : State) : Type 0 where
  pub told : IsTrue a.tells
  pub in_use : slot_in_use a.file ≡ Ok u
  pub names : u.block.names ≤ 65536
  pub sequence : u.sequence < 2 ^ 62 - 1
  pub few : length rs ≤ cap u.block.names h.version
  pub version : IsTrue (is_version h.version)
  pub whole : IsWhole h
  pub numbers : IsTrue (all_in_range h)
  pub roll : IsRoll rs
  pub ranges : AreInRange rs
  pub digests : HaveDigests rs

header_fits : {u : InUse} {h : Header} {rs : List Record} {a : State} → Begins u h rs a
    → u.sequence + 1 < worn_from h.kind → IsHeader u.block.names (next_header u h (length rs))
header_fits b fresh = record {
  version = b.version;
  boundary = b.whole.boundary;
  sequence = fresh;
  count = b.few;
  ranges = b.numbers;
  caps_full = b.whole.caps_full;
  used_full = b.whole.used_full;
  rows_full = b.whole.rows_full;
}

-- the records lie within the slot's bytes for them
records_inside : {u : InUse} {h : Header} {rs : List Record} {a : State} → Begins u h rs a
    → record_len h.version * length rs ≤ room_len u.block.names
records_inside {u} {h} {rs} b = records_fit u.block.names h.version (length rs) b.few

-- while the gate is written, the table is the old one or the new one
opening_either : {u : InUse} {old : Chosen} {h : Header} {rs : List Record} {a : State}
    (middle image : List ℕ) → Begins u h rs a → chosen a.file ≡ Ok old → u.sequence + 1 < worn_from h.kind
    → IsBeside u a.file middle
    → HasTable (slot_at u.block.names (1 - u.slot)) (next_header u h (length rs)) rs middle
    → SameOutside (gate_at u.block.names (1 - u.slot)) 1 middle image
    → HasOldOrNewTable u old h rs a.file image
opening_either {u} {old} {h} {rs} {a} middle image b is fresh beside table same =
    by_gate (is_open image (gate_at u.block.names (1 - u.slot))) refl
  where
    filled : IsFilled u h rs a.file image
    filled = gate_filled u h rs a.file middle image (in_use_long a.file u b.in_use)
        (records_inside b) beside.same table
        same

    by_gate : (x : Bool) → is_open image (gate_at u.block.names (1 - u.slot)) ≡ x
        → HasOldOrNewTable u old h rs a.file image
    by_gate true gate = inr (filled_saved u h rs a.file image b.in_use b.names (header_fits b fresh) b.roll
        b.ranges b.digests filled (filled_in_use u h rs a.file image b.in_use
        (omega (arith, b.sequence)) filled gate))
    by_gate false gate = inl (beside_keeps u old a.file image b.in_use is
        (record { same = filled.same; closed = gate }))

-- beside a table that a save may leave, the data part of the content
with_data : (u : InUse) (old : Chosen) (h : Header) (rs : List Record) (may_leave : List ℕ → Type 0)
    (file image : List ℕ) → SameFrom (head_len u.block.names) file image
    → HasOldOrNewTable u old h rs file image
    → LeavesEither u old h rs may_leave file image
with_data u old h rs may_leave file image same (inl kept) =
    inl (record { table = kept; before = file; was = inr refl; data_part = same })
with_data u old h rs may_leave file image same (inr saved) = inr (record { table = saved; data_part = same })

-- the other slot is closed: only it differs, and a crash leaves what reads give
pub record IsClosed (u : InUse) (h : Header) (rs : List Record) (a b : State) : Type 0 where
  pub begins : Begins u h rs a
  pub left : SaveLeaves u h rs a b
  pub beside : IsBeside u a.file b.file
  pub told : IsTrue b.tells
  pub rests : Rests b

-- the table stands in the other slot, whose gate is still closed
pub record IsWritten (u : InUse) (h : Header) (rs : List Record) (a b : State) : Type 0 where
  pub closed : IsClosed u h rs a b
  pub table : HasTable (slot_at u.block.names (1 - u.slot)) (next_header u h (length rs)) rs b.file

module _ {u : InUse} {h : Header} {rs : List Record} {a b : State} where
  -- the other slot is being closed
  pub left_closing : Begins u h rs a → WritesWithin (closing_at u) (closing_len u) a b → SaveLeaves u h rs a b
  left_closing begins w = record {
    data_part = closing_data u a.file b.file (w.others begins.told);
    old_or_new = λ old is fresh. inl (closing_keeps a.file a.file b.file u old begins.in_use is
        (alike-refl a.file u begins.in_use) (w.others begins.told));
    images = λ old is fresh alike. Leaves-weaken _ (λ image re. inl (record {
      table = closing_keeps a.file re.0 image u old begins.in_use is (alike re.0 re.1) re.2;
      before = re.0;
      was = inl re.1;
      data_part = closing_data u re.0 image re.2;
    })) w.since;
  }

  -- it is closed
  pub is_closed : Begins u h rs a → WritesWithin (closing_at u) (closing_len u) a b
      → (IsTrue a.tells → is_open b.file (gate_at u.block.names (1 - u.slot)) ≡ false)
      → (IsTrue a.tells → Rests b) → IsClosed u h rs a b
  is_closed begins w closed rests = record {
    begins = begins;
    left = left_closing begins w;
    beside = closing_beside u a.file b.file (w.others begins.told) (closed begins.told);
    told = subst IsTrue (sym w.stays.told) begins.told;
    rests = rests begins.told;
  }

  -- what stands while the gate is written
  opening_filled : IsWritten u h rs a b → (image : List ℕ)
      → SameOutside (gate_at u.block.names (1 - u.slot)) 1 b.file image → IsFilled u h rs a.file image
  opening_filled written image same =
      let k = written.closed in
      gate_filled u h rs a.file b.file image (in_use_long a.file u k.begins.in_use)
      (records_inside k.begins) k.beside.same
      written.table same

module _ {u : InUse} {h : Header} {rs : List Record} {a b c : State} where
  -- header and records are being written
  left_within : IsClosed u h rs a b
      → WritesWithin (slot_at u.block.names (1 - u.slot)) (header_len + record_len h.version * length rs) b c
      → SaveLeaves u h rs a c
  left_within closed w = record {
    data_part = beside_data u a.file c.file (now c.file (w.others closed.told)).same;
    old_or_new = λ old is fresh. inl (beside_keeps u old a.file c.file closed.begins.in_use is
        (now c.file (w.others closed.told)));
    images = λ old is fresh alike. Leaves-trans (closed.left.images old is fresh alike)
        (Leaves-weaken _ (λ image re. left old is image re) w.since);
  }
    where
      now : (image : List ℕ) → SameOutside (slot_at u.block.names (1 - u.slot))
          (header_len + record_len h.version * length rs) b.file image → IsBeside u a.file image
      now image same = body_beside u a.file b.file image (record_len h.version * length rs)
          (records_inside closed.begins)
          closed.beside same

      left : (old : Chosen) → chosen a.file ≡ Ok old → (image : List ℕ)
          → IsRewritten b.may_leave (slot_at u.block.names (1 - u.slot))
          (header_len + record_len h.version * length rs)
          image → LeavesEither u old h rs a.may_leave a.file image
      left old is image re =
          let beside = now image (subst (λ x.
          SameOutside (slot_at u.block.names (1 - u.slot)) (header_len
          + record_len h.version * length rs) x image)
          (closed.rests re.0 re.1) re.2) in
          with_data u old h rs a.may_leave a.file image (beside_data u a.file image beside.same)
          (inl (beside_keeps u old a.file image closed.begins.in_use is beside))

  -- at the place of the slot
  pub left_filling : {at : ℕ} → at ≡ slot_at u.block.names (1 - u.slot) → IsClosed u h rs a b
      → WritesWithin at (header_len + record_len h.version * length rs) b c → SaveLeaves u h rs a c
  left_filling here closed w =
      left_within closed (subst (λ x. WritesWithin x (header_len
      + record_len h.version * length rs) b c) here w)

  -- they are written
  pub is_written : {at n : ℕ} → at ≡ slot_at u.block.names (1 - u.slot) → n ≡ length rs → IsClosed u h rs a b
      → WritesWithin at (header_len + record_len h.version * length rs) b c
      → (IsTrue b.tells → HasTable at (next_header u h n) rs c.file) → (IsTrue b.tells → Rests c)
      → IsWritten u h rs a c
  is_written {at} {n} here count closed w table rests =
      let slot = slot_at u.block.names (1 - u.slot) in
      let within : WritesWithin slot (header_len + record_len h.version * length rs) b c =
      subst (λ x. WritesWithin x (header_len + record_len h.version * length rs) b c) here w in
      record {
        closed = record {
          begins = closed.begins;
          left = left_within closed within;
          beside = body_beside u a.file b.file c.file (record_len h.version * length rs)
              (records_inside closed.begins) closed.beside
              (within.others closed.told);
          told = subst IsTrue (sym w.stays.told) closed.told;
          rests = rests closed.told;
        };
        table = subst (λ x. HasTable slot (next_header u h x) rs c.file) count
            (subst (λ x. HasTable x (next_header u h n) rs c.file) here (table closed.told));
      }

  -- the gate is being opened
  pub left_opening : IsWritten u h rs a b → WritesWithin (gate_at u.block.names (1 - u.slot)) 1 b c
      → SaveLeaves u h rs a c
  left_opening written w = record {
    data_part = beside_data u a.file c.file (opening_filled written c.file others).same;
    old_or_new = λ old is fresh. opening_either b.file c.file k.begins is fresh k.beside written.table others;
    images = λ old is fresh alike. Leaves-trans (k.left.images old is fresh alike)
        (Leaves-weaken _ (λ image re. left old is fresh image re) w.since);
  }
    where
      k : IsClosed u h rs a b
      k = written.closed

      others : SameOutside (gate_at u.block.names (1 - u.slot)) 1 b.file c.file
      others = w.others k.told

      left : (old : Chosen) → chosen a.file ≡ Ok old → u.sequence + 1 < worn_from h.kind → (image : List ℕ)
          → IsRewritten b.may_leave (gate_at u.block.names (1 - u.slot)) 1 image
          → LeavesEither u old h rs a.may_leave a.file image
      left old is fresh image re =
          let same : SameOutside (gate_at u.block.names (1 - u.slot)) 1 b.file image =
          subst (λ x. SameOutside (gate_at u.block.names (1 - u.slot)) 1 x image) (k.rests re.0 re.1) re.2 in
          with_data u old h rs a.may_leave a.file image
          (beside_data u a.file image (opening_filled written image same).same)
          (opening_either b.file image k.begins is fresh k.beside written.table same)

  -- and it is open
  pub save_done : IsWritten u h rs a b → WritesWithin (gate_at u.block.names (1 - u.slot)) 1 b c
      → (IsTrue b.tells → is_open c.file (gate_at u.block.names (1 - u.slot)) ≡ true)
      → (IsTrue b.tells → Rests c) → IsSaveDone u h rs c
  save_done written w gate rests = record {
    in_use = in_use;
    saved = λ fresh. filled_saved u h rs a.file c.file k.begins.in_use k.begins.names
        (header_fits k.begins fresh) k.begins.roll k.begins.ranges k.begins.digests filled in_use;
    rests = rests k.told;
  }
    where
      k : IsClosed u h rs a b
      k = written.closed

      filled : IsFilled u h rs a.file c.file
      filled = opening_filled written c.file (w.others k.told)

      in_use : slot_in_use c.file ≡ Ok (next_in_use u)
      in_use = filled_in_use u h rs a.file c.file k.begins.in_use (omega (arith, k.begins.sequence)) filled
          (gate k.told)
