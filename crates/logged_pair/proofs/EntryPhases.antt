-- What is left while the entry of a save is appended, and once it is.
use Rattle.std.specs.Prelude.{◌≡◌, ◌⊎◌, ℕ, ◌+◌, ◌<◌, ◌≤◌, List, length, Ok, refl}
use Rattle.std.proofs.Common.{◌∙◌, ap, arith, inl, inr, sym, subst}
use Rattle.byte_ranges.specs.Ranges.{SameFrom, SameOutside}
use Rattle.disk_face.specs.States.{State}
use Rattle.disk_face.specs.Writes.{WritesWithin}
use Rattle.disk_face.proofs.MomentLaws.{Leaves-trans, Leaves-weaken}
use Rattle.slot_codec.specs.Changes.{Change}
use Rattle.slot_codec.specs.Choice.{InUse}
use Rattle.slot_codec.specs.Entries.{Entry, entry_room}
use Rattle.slot_codec.specs.Logs.{after_entry}
use Rattle.slot_codec.specs.Readable.{IsFull}
use Rattle.slot_codec.specs.Reading.{log_worn_from}
use Rattle.slot_codec.specs.Rows.{rows_of}
use Rattle.slot_codec.specs.Spelling.{cap, gate_at, head_len, slot_at}
use Rattle.slot_codec.specs.declared.codec.Header.{Header}
use Rattle.slot_codec.specs.declared.codec.Record.{Record}
use Rattle.slot_codec.proofs.CapLaws.{cap-low}
use Rattle.slot_codec.proofs.ReadLogLaws.{log_before}
use Rattle.slot_pair.specs.Appends.{AppendLeaves, entry_for, head_for}
use Rattle.slot_pair.specs.Logged.{CanAppend, HasLog, KeepsLog, LeavesNewLog, LeavesOldLog, Log, LogLeaves, with_entry}
use Rattle.slot_pair.proofs.EntrySaysLaws.{says_append, says_table}
use Rattle.slot_pair.proofs.LogLeftLaws.{append_left}
use Rattle.logged_pair.specs.Pairs.{LoggedTable, logged_in, top_of}
use Rattle.logged_pair.specs.Saves.{ChangesLeave, HasOldOrNew, HasRecords, LeavesNewTable, LeavesOldTable, appended, next_table}
use Rattle.logged_pair.proofs.AppendLaws.{IsShown, shown_behind}
use Rattle.logged_pair.proofs.AppendPhases.{Appends, AreAlike, IsClosed, Stands, behind, both_data, closed_told, content_shown, gate_data, image_shown, kept, left_closing, log_place, stands, still_closed, there, up_to_end}
use Rattle.logged_pair.proofs.AppendTables.{TableThere, same_table}
use Rattle.logged_pair.proofs.TableLaws.{first_at, same_first, start_of, top_at}

module _ {base : InUse} {entries end : ℕ} {h : Header} {before now : List Record} {changes : List Change}
    {a b : State} (k : IsClosed base entries end h before now changes a b) where
  abbrev s : Appends base entries end h before now changes a
  s = k.begins

  p : Stands base end (entry_room (head_for h changes)) a.file
  p = stands s

  abbrev e : Entry
  e = entry_for h changes

  abbrev room : ℕ
  room = entry_room (head_for h changes)

  full : IsFull h
  full = record {
    ranges = s.can.ranges;
    caps_full = s.whole.caps_full;
    used_full = s.whole.used_full;
    rows_full = s.whole.rows_full;
  }

  few : (n : ℕ) → n ≤ cap base.block.names 3 → n ≤ 65536
  few n low = omega (arith, low, cap-low base.block.names 3, s.names)

  -- ---- the log

  abbrev pub log_for : (t : LoggedTable) → TableThere base entries end a.file t → Log
  log_for t th = record {
    cap = cap th.parts.base.block.names 3;
    top = top_at th.parts.base;
    first = first_at th.parts.base;
    start = start_of th.parts.base th.parts.records;
    table = th.parts.behind;
    end = end;
  }

  same_top : (t : LoggedTable) (th : TableThere base entries end a.file t)
      → top_at th.parts.base ≡ top_of base
  same_top t th = sym (same_first a.file base th.parts.base s.slot th.parts.chosen).1

  same_cap : (t : LoggedTable) (th : TableThere base entries end a.file t)
      → cap th.parts.base.block.names 3 ≡ cap base.block.names 3
  same_cap t th = ap (λ x. cap x.names 3) th.block

  in_log_still : (t : LoggedTable) (th : TableThere base entries end a.file t) → HasLog (log_for t th) b.file
  in_log_still t th =
      let c = th.parts.base in
      let shown = content_shown k in
      let slot : slot_at base.block.names base.slot ≡ slot_at c.block.names c.slot =
      λ i. slot_at (sym th.block i).names (sym th.slot i) in
      log_before (cap c.block.names 3) (top_at c) a.file b.file (first_at c) (start_of c th.parts.records)
      th.parts.behind end (omega (arith, same_top t th, p.top, p.gate, p.long))
      (omega (arith, same_top t th, p.top, p.gate, shown.keeps.long))
      (th.there.log ∙ ap (λ n. Ok (th.parts.behind, n)) th.ends)
      (λ i low high. shown.keeps.slot i (omega (arith, low, slot)) (omega (arith, high, p.high)))
      (still_closed s b.file shown)

  pub can_append : (t : LoggedTable) (has : HasRecords t before a.file) → (th : TableThere base entries end a.file t)
      → base.sequence + entries + 1 < log_worn_from h.kind → CanAppend (log_for t th) e b.file
  can_append t has th fresh =
      says_append (log_for t th) h before now changes b.file
      (omega (arith, same_top t th, p.top, p.gate, (content_shown k).keeps.long))
      (in_log_still t th) (ap (λ (t : LoggedTable). t.rows) th.parts.same ∙ has.rows)
      (omega (arith, few (length before) s.can.room))
      (omega (arith, same_cap t th, cap-low base.block.names 3, s.names)) s.can.roll s.roll s.leads
      (omega (arith, s.can.count, same_cap t th)) (record {
        full = full;
        boundary = s.whole.boundary;
        fresh = omega (arith, fresh, th.sequence);
        within = omega (arith, s.within, same_top t th);
      })

  -- ---- the table of what has the entry

  abbrev next : LoggedTable
  next = next_table (behind base entries end) (appended (behind base entries end) (head_for h changes)) h now

  said : (t : LoggedTable) (has : HasRecords t before a.file) (th : TableThere base entries end a.file t)
      → record {
        chosen = record th.parts.base { header = (after_entry th.parts.behind e).header };
        rows = (after_entry th.parts.behind e).rows;
      } ≡ next
  said t has th =
      let x = th.parts.behind in
      let is = says_table x h before now changes (ap (λ (t : LoggedTable). t.rows) th.parts.same ∙ has.rows)
      s.roll s.leads full in
      let version : x.header.version ≡ h.version = th.version ∙ sym s.can.version in
      let sequence : x.header.sequence + 1 ≡ base.sequence + entries + 1 = omega (arith, th.sequence) in
      (λ i. record { chosen = record th.parts.base { header = (is i).header }; rows = (is i).rows })
      ∙ (λ i. record {
        chosen = record {
          block = th.block i;
          slot = th.slot i;
          header = record h { version = version i; sequence = sequence i; count = length now };
        };
        rows = rows_of now;
      })

  pub entered : (t : LoggedTable) (has : HasRecords t before a.file) (th : TableThere base entries end a.file t)
      (image : List ℕ) → HasLog (with_entry (log_for t th) e) image → IsShown base end a.file image
      → logged_in image ≡ Ok next
  entered t has th image log shown =
      same_table base entries end (end + room) a.file image t (after_entry th.parts.behind e) th (log_place s)
      s.slot shown log ∙ ap Ok (said t has th)

module _ {base : InUse} {entries end : ℕ} {h : Header} {before now : List Record} {changes : List Change}
    {a b c : State} (k : IsClosed base entries end h before now changes a b)
    (w : WritesWithin end (entry_room (head_for h changes) + 1) b c)
    (left : AppendLeaves end (entry_for h changes) b c) where
  abbrev s' : Appends base entries end h before now changes a
  s' = k.begins

  p' : Stands base end (entry_room (head_for h changes)) a.file
  p' = stands s'

  -- behind the end of its log, a slot that was shown is shown
  pub shown_on : (old image : List ℕ) → IsShown base (gate_at base.block.names base.slot) a.file old
      → SameOutside end (entry_room (head_for h changes) + 1) old image → IsShown base end a.file image
  shown_on old image shown same =
      shown_behind base end (entry_room (head_for h changes) + 1) a.file old image p'.one
      (omega (arith, p'.some)) p'.high (up_to_end s' old shown) same

  log_left : (t : LoggedTable) (has : HasRecords t before a.file)
      → base.sequence + entries + 1 < log_worn_from h.kind
      → LogLeaves (log_for k t (there s' t has)) (entry_for h changes) (head_len base.block.names) b c
  log_left t has fresh =
      let th = there s' t has in
      append_left (log_for k t th) (entry_for h changes) (head_for h changes) (head_len base.block.names) b c
      refl (closed_told k) w (can_append k t has th fresh)
      (omega (arith, same_top k t th, p'.top, p'.gate)) left

  -- an image with the old log
  old_left : (t : LoggedTable) (has : HasRecords t before a.file) → AreAlike (head_len base.block.names) a
      → (image : List ℕ) → LeavesOldLog (log_for k t (there s' t has)) (entry_for h changes)
      (head_len base.block.names) b.may_leave b.file image
      → LeavesOldTable t (head_len base.block.names) a.may_leave a.file image
  old_left t has alike image l = by_old l.closed.was
    where
      by_old : (b.may_leave l.closed.before) ⊎ (l.closed.before ≡ b.file)
          → LeavesOldTable t (head_len base.block.names) a.may_leave a.file image
      by_old (inl was) =
          let f = image_shown k alike l.closed.before was in
          record {
            table = kept s' t has image (shown_on l.closed.before image f.shown l.closed.others)
                l.closed.closed;
            before = f.before;
            was = inl f.was;
            data_part = both_data (head_len base.block.names) f.before l.closed.before image
                (gate_data f.before l.closed.before p' f.same) l.data_part;
          }
      by_old (inr is) =
          let others : SameOutside end (entry_room (head_for h changes) + 1) b.file image =
          subst (λ x. SameOutside end (entry_room (head_for h changes) + 1) x image) is l.closed.others in
          record {
            table = kept s' t has image (shown_on b.file image (content_shown k) others) l.closed.closed;
            before = a.file;
            was = inr refl;
            data_part = both_data (head_len base.block.names) a.file b.file image
                (gate_data a.file b.file p' (k.wrote.others s'.told))
                (subst (λ x. SameFrom (head_len base.block.names) x image) is l.data_part);
          }

  -- and one with the entry
  new_left : (t : LoggedTable) (has : HasRecords t before a.file) → (image : List ℕ)
      → LeavesNewLog (log_for k t (there s' t has)) (entry_for h changes) (head_len base.block.names) b.file
      image → LeavesNewTable (next k) (head_len base.block.names) a.file image
  new_left t has image l = record {
    table = entered k t has (there s' t has) image l.table
        (shown_on b.file image (content_shown k) l.entry.others);
    data_part = both_data (head_len base.block.names) a.file b.file image
        (gate_data a.file b.file p' (k.wrote.others s'.told)) l.data_part;
  }

  pub left_entering : ChangesLeave (behind base entries end)
      (appended (behind base entries end) (head_for h changes)) h before now a c
  left_entering = record {
    data_part = both_data (head_len base.block.names) a.file b.file c.file
        (gate_data a.file b.file p' (k.wrote.others s'.told)) (record {
          same_length = (w.others (closed_told k)).same_length;
          bytes = λ i low. (w.others (closed_told k)).above i (omega (arith, low, p'.high, p'.gate));
        });
    old_or_new = λ t has fresh. content t has (log_left t has fresh).old_or_new;
    images = λ t has fresh alike. Leaves-trans
        ((left_closing k (appended (behind base entries end) (head_for h changes))).images t has fresh alike)
        (Leaves-weaken _ (either t has alike) ((log_left t has fresh).images (keeps t has alike)));
  }
    where
      own : SameOutside end (entry_room (head_for h changes) + 1) b.file c.file
      own = w.others (closed_told k)

      content : (t : LoggedTable) (has : HasRecords t before a.file)
          → HasLog (log_for k t (there s' t has)) c.file
          ⊎ HasLog (with_entry (log_for k t (there s' t has)) (entry_for h changes)) c.file
          → HasOldOrNew t (next k) c.file
      content t has (inl log) = inl (same_table base entries end end a.file c.file t
          (there s' t has).parts.behind (there s' t has) (log_place s') s'.slot
          (shown_on b.file c.file (content_shown k) own) log ∙ ap Ok (there s' t has).parts.same)
      content t has (inr log) = inr (entered k t has (there s' t has) c.file log
          (shown_on b.file c.file (content_shown k) own))

      keeps : (t : LoggedTable) (has : HasRecords t before a.file) → AreAlike (head_len base.block.names) a
          → (image : List ℕ) → b.may_leave image → KeepsLog (log_for k t (there s' t has)) b.file image
      keeps t has alike image is =
          let f = image_shown k alike image is in
          let th = there s' t has in
          let slot : slot_at base.block.names base.slot
          ≡ slot_at th.parts.base.block.names th.parts.base.slot =
          λ i. slot_at (sym th.block i).names (sym th.slot i) in
          record {
            long = omega (arith, same_top k t th, p'.top, p'.gate, f.shown.keeps.long);
            bytes = λ i low high.
                sym ((content_shown k).keeps.slot i (omega (arith, low, slot)) (omega (arith, high, p'.high)))
                ∙ f.shown.keeps.slot i (omega (arith, low, slot)) (omega (arith, high, p'.high));
            closed = f.closed;
          }

      either : (t : LoggedTable) (has : HasRecords t before a.file) → AreAlike (head_len base.block.names) a
          → (image : List ℕ) → LeavesOldLog (log_for k t (there s' t has)) (entry_for h changes)
          (head_len base.block.names) b.may_leave b.file image
          ⊎ LeavesNewLog (log_for k t (there s' t has)) (entry_for h changes) (head_len base.block.names)
          b.file image
          → LeavesOldTable t (head_len base.block.names) a.may_leave a.file image
          ⊎ LeavesNewTable (next k) (head_len base.block.names) a.file image
      either t has alike image (inl l) = inl (old_left t has alike image l)
      either t has alike image (inr l) = inr (new_left t has image l)
