-- What an append leaves of a log, from the bytes that it leaves.
use Rattle.std.specs.Prelude.{◌≡◌, ◌⊎◌, ℕ, ◌+◌, ◌≤◌, false, IsTrue, List, Ok, refl}
use Rattle.std.proofs.Common.{◌∙◌, ap, arith, inl, inr, subst, sym}
use Rattle.std.proofs.lemmas.Bool.{cond-true}
use Rattle.byte_ranges.specs.Ranges.{SameFrom, SameOutside}
use Rattle.disk_face.specs.States.{State}
use Rattle.disk_face.specs.Writes.{WritesWithin}
use Rattle.disk_face.proofs.MomentLaws.{Leaves-weaken}
use Rattle.slot_codec.specs.Choice.{is_open}
use Rattle.slot_codec.specs.Entries.{Entry, entry_room}
use Rattle.slot_codec.specs.declared.entry.EntryHead.{EntryHead}
use Rattle.slot_codec.proofs.ReadLogLaws.{Appended, log_before, log_ends_closed, log_then}
use Rattle.slot_pair.specs.Appends.{AppendLeaves, HasEntry, IsAppended, LeavesClosed, LeavesEntry}
use Rattle.slot_pair.specs.Logged.{CanAppend, HasLog, HasLogOrEntry, KeepsLog, LeavesNewLog, LeavesOldLog, Log, LogLeaves, with_entry}

-- where its gate is closed, a file that is alike before it has the log
pub closed_log : {log : Log} {e : Entry} {file : List ℕ} (image : List ℕ) → CanAppend log e file
    → KeepsLog log file image → HasLog log image
closed_log {log} {e} {file} image fits kept = log_before log.cap log.top file image log.first log.start
    log.table log.end fits.long kept.long fits.there kept.bytes kept.closed

-- and where the entry is there, it has the log with the entry
pub entry_log : {log : Log} {e : Entry} {file : List ℕ} (image : List ℕ) → CanAppend log e file
    → SameOutside log.end (entry_room e.head + 1) file image → HasEntry log.end e image
    → HasLog (with_entry log e) image
entry_log {log} {e} {file} image fits same there =
    let appended : Appended log.cap log.top image log.end log.table e =
    record { entry = fits.entry; text = there.text; few = fits.names; few_cap = fits.records } in
    log_then log.cap log.top file image log.first log.start log.table log.end e fits.long
    (omega (arith, fits.long, same.same_length)) fits.there (λ i low high. same.below i high) appended
    ∙ ap Ok (cond-true (is_open image log.end) _ _ there.gate)

-- the data part lies behind the room of the log
data_kept : {log : Log} {e : Entry} {file : List ℕ} (base : ℕ) (before image : List ℕ) → CanAppend log e file
    → log.top ≤ base → SameOutside log.end (entry_room e.head + 1) before image → SameFrom base before image
data_kept {log} {e} {file} base before image fits high same = record {
  same_length = same.same_length;
  bytes = λ i low. same.above i (omega (arith, low, high, fits.entry.head.within));
}

-- what differs behind the end alone keeps the log while the gate is closed
pub kept_behind : {log : Log} (e : Entry) {file : List ℕ} (before image : List ℕ) → KeepsLog log file before
    → SameOutside log.end (entry_room e.head + 1) before image → is_open image log.end ≡ false
    → KeepsLog log file image
kept_behind {log} e {file} before image kept same closed = record {
  long = omega (arith, kept.long, same.same_length);
  bytes = λ i low high. kept.bytes i low high ∙ same.below i high;
  closed = closed;
}

-- the content itself keeps it
pub own_log : {log : Log} {e : Entry} {file : List ℕ} → CanAppend log e file → KeepsLog log file file
own_log {log} {e} {file} fits = record {
  long = fits.long;
  bytes = λ i low high. refl;
  closed = log_ends_closed log.cap log.top file log.first log.start log.table log.end fits.there;
}

-- an image with the closed gate has the old log
old_left : (log : Log) (e : Entry) (base : ℕ) (a : State) (image : List ℕ) → CanAppend log e a.file
    → log.top ≤ base → ((image : List ℕ) → a.may_leave image → KeepsLog log a.file image)
    → LeavesClosed log.end (entry_room e.head) a.may_leave a.file image
    → LeavesOldLog log e base a.may_leave a.file image
old_left log e base a image fits high all left = record {
  table = closed_log image fits (kept_behind e left.before image (kept left.was) left.others left.closed);
  closed = left;
  data_part = data_kept base left.before image fits high left.others;
}
  where
    kept : a.may_leave left.before ⊎ (left.before ≡ a.file) → KeepsLog log a.file left.before
    kept (inl was) = all left.before was
    kept (inr is) = subst (KeepsLog log a.file) (sym is) (own_log fits)

-- and one with the entry the new one
new_left : (log : Log) (e : Entry) (base : ℕ) (file image : List ℕ) → CanAppend log e file
    → log.top ≤ base → LeavesEntry log.end e file image → LeavesNewLog log e base file image
new_left log e base file image fits high left = record {
  table = entry_log image fits left.others left.there;
  entry = left;
  data_part = data_kept base file image fits high left.others;
}

-- an append leaves the log as it was, or with the entry
pub log_left : (log : Log) (e : Entry) (base : ℕ) (a b : State) → CanAppend log e a.file → log.top ≤ base
    → SameOutside log.end (entry_room e.head + 1) a.file b.file → AppendLeaves log.end e a b
    → LogLeaves log e base a b
log_left log e base a b fits high same left = record {
  data_part = data_kept base a.file b.file fits high same;
  old_or_new = content (left.content (own_log fits).closed);
  images = λ all. Leaves-weaken _ (either all)
      (left.images (own_log fits).closed (λ image was. (all image was).closed));
}
  where
    content : (is_open b.file log.end ≡ false) ⊎ HasEntry log.end e b.file → HasLogOrEntry log e b.file
    content (inl closed) =
        inl (closed_log b.file fits (kept_behind e a.file b.file (own_log fits) same closed))
    content (inr there) = inr (entry_log b.file fits same there)

    either : ((image : List ℕ) → a.may_leave image → KeepsLog log a.file image) → (image : List ℕ)
        → LeavesClosed log.end (entry_room e.head) a.may_leave a.file image
        ⊎ LeavesEntry log.end e a.file image
        → LeavesOldLog log e base a.may_leave a.file image ⊎ LeavesNewLog log e base a.file image
    either all image (inl closed) = inl (old_left log e base a image fits high all closed)
    either all image (inr there) = inr (new_left log e base a.file image fits high there)

-- and once it is done, with the entry
pub log_appended : (log : Log) (e : Entry) (a b : State) → CanAppend log e a.file
    → SameOutside log.end (entry_room e.head + 1) a.file b.file → IsAppended log.end e b
    → HasLog (with_entry log e) b.file
log_appended log e a b fits same done = entry_log b.file fits same done.there

-- ---- from the clauses of an append

-- it writes the entry and the gates alone
wrote_entry : (log : Log) (e : Entry) (head : EntryHead) (a b : State) → head ≡ e.head → IsTrue a.tells
    → WritesWithin log.end (entry_room head + 1) a b
    → SameOutside log.end (entry_room e.head + 1) a.file b.file
wrote_entry log e head a b is told wrote =
    subst (λ h. SameOutside log.end (entry_room h + 1) a.file b.file) is (wrote.others told)

pub append_left : (log : Log) (e : Entry) (head : EntryHead) (base : ℕ) (a b : State) → head ≡ e.head
    → IsTrue a.tells → WritesWithin log.end (entry_room head + 1) a b → CanAppend log e a.file
    → log.top ≤ base → AppendLeaves log.end e a b → LogLeaves log e base a b
append_left log e head base a b is told wrote fits high =
    log_left log e base a b fits high (wrote_entry log e head a b is told wrote)

pub append_done : (log : Log) (e : Entry) (head : EntryHead) (a b : State) → head ≡ e.head → IsTrue a.tells
    → WritesWithin log.end (entry_room head + 1) a b → CanAppend log e a.file → IsAppended log.end e b
    → HasLog (with_entry log e) b.file
append_done log e head a b is told wrote fits =
    log_appended log e a b fits (wrote_entry log e head a b is told wrote)
