-- What a save as an entry leaves and does, from the clauses of its two steps.
use Rattle.std.specs.Prelude.{◌≡◌, ℕ, ◌+◌, ◌-◌, ◌*◌, ◌^◌, ◌<◌, ◌≤◌, ◌==◌, ◌&&◌, true, false, nat_le, nat_lt, IsTrue, List, length, slice_index, OnOk, Result, Ok, Err, refl}
use Rattle.std.proofs.Common.{◌∙◌, ap, arith, inl, inr, sym, subst}
use Rattle.std.proofs.lemmas.Bool.{and_parts, cond-true, ltb-true}
use Rattle.std.specs.Int.{w64, from_le_bytes}
use Rattle.byte_ranges.specs.Ranges.{SameOutside, bytes_at}
use Rattle.disk_face.specs.Frames.{Unchanged}
use Rattle.disk_face.specs.States.{State}
use Rattle.disk_face.specs.Writes.{WritesWithin}
use Rattle.disk_face.proofs.MomentLaws.{Leaves-trans, Leaves-weaken}
use Rattle.slot_codec.specs.Changes.{Change}
use Rattle.slot_codec.specs.Choice.{InUse, is_open}
use Rattle.slot_codec.specs.Entries.{IsEntryHead, entry_len, entry_room}
use Rattle.slot_codec.specs.Logs.{first_gate, log_end, room_at}
use Rattle.slot_codec.specs.Reading.{is_in_range}
use Rattle.slot_codec.specs.Rolls.{IsRoll}
use Rattle.slot_codec.specs.Spelling.{cap, gate_at, gate_open, header_len, slot_at, superblock_len}
use Rattle.slot_codec.specs.declared.codec.Header.{Header}
use Rattle.slot_codec.specs.declared.codec.Record.{Record}
use Rattle.slot_codec.specs.declared.entry.EntryHead.{EntryHead}
use Rattle.slot_codec.proofs.CapLaws.{cap-low}
use Rattle.slot_codec.proofs.CellLaws.{cells_few}
use Rattle.slot_codec.proofs.PickLaws.{in_use_parts_in}
use Rattle.slot_codec.proofs.ReadLogLaws.{log_end_then}
use Rattle.slot_codec.proofs.SuperBlockLaws.{superblock_parts_in}
use Rattle.slot_pair.specs.Appends.{AppendLeaves, IsAppended, entry_for, head_for}
use Rattle.slot_pair.specs.Logged.{LeadsTo}
use Rattle.slot_pair.specs.Saves.{IsWhole}
use Rattle.slot_pair.proofs.LogLeftLaws.{append_done}
use Rattle.logged_pair.specs.Pairs.{InLog, first_of, in_log, top_of}
use Rattle.logged_pair.specs.Saves.{AreSaved, CanSaveChanges, ChangesLeave, SameButGate, WritesEntry, appended, fits}
use Rattle.logged_pair.proofs.AppendLaws.{EntryThere, entry_there, other_same, shown_slot}
use Rattle.logged_pair.proofs.AppendPhases.{Appends, HasEnd, IsClosed, behind, closed_told, content_shown, has_end, left_closing, stands, there}
use Rattle.logged_pair.proofs.EntryPhases.{can_append, entered, left_entering, log_for, shown_on}
use Rattle.logged_pair.proofs.KeepLaws.{part_same}
use Rattle.logged_pair.proofs.TableLaws.{in_log_from, log_below}

-- ---- once it is done

low_numbers : (h : Header) (before now : List Record) (changes : List Change) (u : InLog)
    → CanSaveChanges u h before now changes → (h.wall < 2 ^ 48) × (h.slack < 2 ^ 48)
low_numbers h before now changes u can =
    let used = and_parts _ _ can.ranges in
    let caps = and_parts _ _ used.0 in
    let both = and_parts (is_in_range h.wall) (is_in_range h.slack) caps.0 in
    (ltb-true h.wall (2 ^ 48) both.0, ltb-true h.slack (2 ^ 48) both.1)

module _ {base : InUse} {entries end : ℕ} {h : Header} {before now : List Record} {changes : List Change}
    {a b c : State} (k : IsClosed base entries end h before now changes a b)
    (gate : is_open b.file (gate_at base.block.names (1 - base.slot)) ≡ false)
    (w : WritesWithin end (entry_room (head_for h changes) + 1) b c)
    (left : AppendLeaves end (entry_for h changes) b c)
    (done : IsAppended end (entry_for h changes) c) where
  abbrev s : Appends base entries end h before now changes a
  s = k.begins

  abbrev room : ℕ
  room = entry_room (head_for h changes)

  abbrev names : ℕ
  names = base.block.names

  head_fits : IsEntryHead (cap names 3) (length before) (room + 1) (head_for h changes)
  head_fits =
      let low = low_numbers h before now changes (behind base entries end) s.can in
      record {
        boundary = s.whole.boundary;
        cells = cells_few h;
        moved = s.leads.few.moved;
        gone = s.leads.few.gone;
        puts = omega (arith, s.leads.few.puts, s.can.count);
        within = omega arith;
        wall = low.0;
        slack = low.1;
      }

  own : SameOutside end (room + 1) b.file c.file
  own = w.others (closed_told k)

  entry_is : EntryThere end (entry_for h changes) c.file
  entry_is =
      let p = stands s in
      entry_there (cap names 3) (length before) (room + 1) end (entry_for h changes) c.file
      (omega (arith, cap-low names 3, s.names)) (omega (arith, s.can.room, cap-low names 3, s.names)) head_fits
      (omega (arith, p.high, p.gate, (content_shown k).keeps.long, own.same_length)) done.there

  gate_still : is_open c.file (gate_at names (1 - base.slot)) ≡ false
  gate_still =
      let p = stands s in
      ap (λ x. x == gate_open) (sym (other_same names base.slot end (room + 1) b.file c.file p.one
      (omega (arith, p.some)) p.high own (gate_at names (1 - base.slot)) (omega arith) (omega arith)))
      ∙ gate

  -- the pair is that of the file
  pair_is : in_log c.file ≡ Ok (appended (behind base entries end) (head_for h changes))
  pair_is =
      let p = stands s in
      let shown = shown_on k w left b.file c.file (content_shown k) own in
      let first = first_of a.file base in
      let top = top_of base in
      let count = part_same base end (slot_at names base.slot + 16) 8 a.file c.file p.one p.long shown.keeps
      (omega arith) (omega (arith, p.some)) (omega (arith, p.high)) in
      let same_first : first_of c.file base ≡ first =
      ap (λ bytes. first_gate names base.slot (from_le_bytes w64 bytes)) count in
      let next : is_open c.file (end + room_at c.file end) ≡ false =
      ap (λ n. is_open c.file (end + n)) entry_is.room ∙ entry_is.next in
      let ends = log_end_then a.file c.file top first entries end (omega (arith, p.top, p.gate, p.long))
      (omega (arith, p.top, p.gate, shown.keeps.long)) s.ends s.closed
      (λ i low high. shown.keeps.slot i (omega (arith, low)) high)
      (omega (arith, entry_is.room, s.within)) next in
      let there : log_end c.file top (first_of c.file base) ≡ (entries + 1, end + room) =
      ap (log_end c.file top) same_first ∙ ends
      ∙ cond-true (is_open c.file end) (entries + 1, end + room_at c.file end) (entries, end) done.there.gate
      ∙ (λ i. (entries + 1, end + entry_is.room i)) in
      let slot = shown_slot base end a.file c.file s.slot p.some (omega (arith, p.high)) shown
      ∙ ap (λ x. Ok (record base { other_open = x })) gate_still in
      let sum : base.sequence + (entries + 1) ≡ base.sequence + entries + 1 = omega arith in
      in_log_from c.file (record base { other_open = false })
      (appended (behind base entries end) (head_for h changes)) slot
      (log_below c.file (record base { other_open = false }) (entries + 1) (end + room)
      (ap (λ n. nat_lt n top) same_first ∙ s.low) there entry_is.next
      ∙ ap (λ n. record {
        in_use = record base { sequence = n; other_open = false };
        end = end + room;
      }) sum)

  entry_saved : AreSaved (behind base entries end) (appended (behind base entries end) (head_for h changes)) h
      before now a c
  entry_saved = record {
    in_use = pair_is;
    saved = λ t has fresh.
        let th = there s t has in
        entered k t has th c.file (append_done (log_for k t th) (entry_for h changes) (head_for h changes) b c
        refl (closed_told k) w (can_append k t has th fresh) done)
        (shown_on k w left b.file c.file (content_shown k) own);
    rests = done.rests;
  }

-- ---- from the clauses

-- what is known once the other slot is closed, or isn't
pub record ClosedFirst (u : InLog) (h : Header) (before now : List Record) (changes : List Change)
    (a b : State) : Type 0 where
  pub told : IsTrue a.tells
  pub in_use : in_log a.file ≡ Ok u
  pub can : CanSaveChanges u h before now changes
  pub whole : IsWhole h
  pub roll : IsRoll now
  pub leads : LeadsTo before now changes
  pub fits : fits u (head_for h changes) (length now) ≡ true
  pub wrote : WritesWithin (gate_at u.in_use.block.names (1 - u.in_use.slot)) 1 a b
  pub still : u.in_use.other_open ≡ false → Unchanged a b

module _ {u : InLog} {h : Header} {before now : List Record} {changes : List Change} {a b : State}
    (g : ClosedFirst u h before now changes a b) where
  some : (0 < u.end) × (u.end + entry_room (head_for h changes) < top_of u.in_use)
  some =
      let p = and_parts (nat_lt 0 u.end && nat_le (entry_len (head_for h changes)) (header_len
      + 112 * length now)) (nat_lt (u.end + entry_room (head_for h changes)) (top_of u.in_use)) g.fits in
      let q = and_parts (nat_lt 0 u.end) (nat_le (entry_len (head_for h changes)) (header_len
      + 112 * length now)) p.0 in (
        ltb-true 0 u.end q.0,
        ltb-true (u.end + entry_room (head_for h changes)) (top_of u.in_use) p.1,
      )

  he : HasEnd a.file u
  he = has_end a.file u g.in_use some.0

  is : u ≡ behind he.base he.entries u.end
  is = λ i. record { in_use = he.same i; end = u.end }

  closed : IsClosed he.base he.entries u.end h before now changes a b
  closed =
      let v = behind he.base he.entries u.end in
      let f : ClosedFirst v h before now changes a b =
      subst (λ v. ClosedFirst v h before now changes a b) is g in
      record {
        begins = record {
          told = f.told;
          slot = he.slot;
          low = he.low;
          ends = he.ends;
          closed = he.closed;
          within = subst (λ v. v.end + entry_room (head_for h changes) < top_of v.in_use) is some.1;
          names = (superblock_parts_in true (bytes_at a.file 0 superblock_len) he.base.block
              (in_use_parts_in true a.file he.base he.slot).block).fits.names_high;
          can = f.can;
          whole = f.whole;
          roll = f.roll;
          leads = f.leads;
        };
        wrote = f.wrote;
        still = f.still;
      }

  pub left_first : ChangesLeave u (appended u (head_for h changes)) h before now a b
  left_first = subst (λ v. ChangesLeave v (appended v (head_for h changes)) h before now a b) (sym is)
      (left_closing closed (appended (behind he.base he.entries u.end) (head_for h changes)))

  -- the entry lies within the file
  pub entry_within : u.end + 1 + entry_room (head_for h changes) ≤ length b.file
  entry_within =
      let p = stands closed.begins in
      omega (arith, p.high, p.gate, (content_shown closed).keeps.long)

module _ {u : InLog} {h : Header} {before now : List Record} {changes : List Change} {a b c : State}
    (g : ClosedFirst u h before now changes a b)
    (w : WritesWithin u.end (entry_room (head_for h changes) + 1) b c)
    (left : AppendLeaves u.end (entry_for h changes) b c) where
  pub left_second : ChangesLeave u (appended u (head_for h changes)) h before now a c
  left_second = subst (λ v. ChangesLeave v (appended v (head_for h changes)) h before now a c) (sym (is g))
      (left_entering (closed g) w left)

  pub saved_entry : is_open b.file (gate_at u.in_use.block.names (1 - u.in_use.slot)) ≡ false
      → IsAppended u.end (entry_for h changes) c
      → AreSaved u (appended u (head_for h changes)) h before now a c
  saved_entry gate done =
      let shut = subst (λ v. is_open b.file (gate_at v.in_use.block.names (1 - v.in_use.slot)) ≡ false) (is g)
      gate in
      subst (λ v. AreSaved v (appended v (head_for h changes)) h before now a c) (sym (is g))
      (entry_saved (closed g) shut w left done)

-- by a position and a head that are those
pub within_given : {u : InLog} {h : Header} {before now : List Record} {changes : List Change} {a b : State}
    → ClosedFirst u h before now changes a b → {end : ℕ} {head : EntryHead} → end ≡ u.end
    → head ≡ head_for h changes → end + 1 + entry_room head ≤ length b.file
within_given g at is_head = omega (arith, at, ap entry_room is_head, entry_within g)

module _ {u : InLog} {h : Header} {before now : List Record} {changes : List Change} {a b c : State}
    (g : ClosedFirst u h before now changes a b) {end : ℕ} {head : EntryHead} (at : end ≡ u.end)
    (is_head : head ≡ head_for h changes) where
  moved : WritesWithin end (entry_room head + 1) b c
      → WritesWithin u.end (entry_room (head_for h changes) + 1) b c
  moved w = subst (λ n. WritesWithin n (entry_room (head_for h changes) + 1) b c) at
      (subst (λ k. WritesWithin end (entry_room k + 1) b c) is_head w)

  pub left_given : WritesWithin end (entry_room head + 1) b c → AppendLeaves end (entry_for h changes) b c
      → ChangesLeave u (appended u head) h before now a c
  left_given w left = subst (λ k. ChangesLeave u (appended u k) h before now a c) (sym is_head)
      (left_second g (moved w) (subst (λ n. AppendLeaves n (entry_for h changes) b c) at left))

  pub saved_given : WritesWithin end (entry_room head + 1) b c → AppendLeaves end (entry_for h changes) b c
      → is_open b.file (gate_at u.in_use.block.names (1 - u.in_use.slot)) ≡ false
      → IsAppended end (entry_for h changes) c → AreSaved u (appended u head) h before now a c
  saved_given w left gate done = subst (λ k. AreSaved u (appended u k) h before now a c) (sym is_head)
      (saved_entry g (moved w) (subst (λ n. AppendLeaves n (entry_for h changes) b c) at left) gate
      (subst (λ n. IsAppended n (entry_for h changes) c) at done))

-- what holds where a call answers Ok, by what its clause says there
pub on_ok : {T E P Q : Type 0} (r : Result T E) → (P → Q) → OnOk r P → OnOk r Q
on_ok (Ok x) f p = f p
on_ok (Err e) f p = tt

-- ---- what is written

gate_alone : (names slot at n : ℕ) (a b : List ℕ) → SameOutside (gate_at names slot) 1 a b
    → SameButGate names slot at n a b
gate_alone names slot at n a b same = record {
  same_length = sym same.same_length;
  bytes = λ i outside beside. elim beside as (λ x. slice_index a i ≡ slice_index b i) [
    | inl low ↦ same.below i low
    | inr high ↦ same.above i (omega (arith, high))
  ];
}

gate_first : (names slot at n : ℕ) (a b c : List ℕ) → SameOutside (gate_at names slot) 1 a b
    → SameOutside at n b c → SameButGate names slot at n a c
gate_first names slot at n a b c gate same =
    let first = gate_alone names slot at n a b gate in
    record {
      same_length = sym same.same_length ∙ first.same_length;
      bytes = λ i outside beside. first.bytes i outside beside
          ∙ elim outside as (λ x. slice_index b i ≡ slice_index c i) [
            | inl low ↦ same.below i low
            | inr high ↦ same.above i high
          ];
    }

pub wrote_gate : {u : InLog} {a b : State} (room : ℕ)
    → WritesWithin (gate_at u.in_use.block.names (1 - u.in_use.slot)) 1 a b → WritesEntry u room a b
wrote_gate {u} {a} {b} room w =
    let names = u.in_use.block.names in
    let other = 1 - u.in_use.slot in
    record {
      others = λ told. gate_alone names other u.end (room + 1) a.file b.file (w.others told);
      since = Leaves-weaken _ (λ image re.
          (re.0, re.1, gate_alone names other u.end (room + 1) re.0 image re.2)) w.since;
    }

pub wrote_entry : {u : InLog} {a b c : State} (room : ℕ)
    → WritesWithin (gate_at u.in_use.block.names (1 - u.in_use.slot)) 1 a b
    → WritesWithin u.end (room + 1) b c → WritesEntry u room a c
wrote_entry {u} {a} {b} {c} room w v =
    let names = u.in_use.block.names in
    let other = 1 - u.in_use.slot in
    record {
      others = λ told. gate_first names other u.end (room + 1) a.file b.file c.file (w.others told)
          (v.others (subst IsTrue (sym w.stays.told) told));
      since = Leaves-trans (wrote_gate {u = u} room w).since (Leaves-weaken _ (λ image re.
          let was = w.images re.0 re.1 in
          (was.0, was.1, gate_first names other u.end (room + 1) was.0 re.0 image was.2 re.2)) v.since);
    }
