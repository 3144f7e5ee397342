-- What a disk in memory leaves over a call, by the histories that its fields stand for.
use Rattle.std.specs.Prelude.{◌≡◌, ℕ, ◌≤◌, List}
use Rattle.std.proofs.Common.{arith, ap, sym, subst}
use Rattle.disk_face.specs.Counts.{last}
use Rattle.disk_face.specs.Images.{IsImage}
use Rattle.disk_face.specs.Moments.{Elapses, NoMore, Only}
use Rattle.disk_mem.specs.declared.disk.MemDisk.TheInside.{Inside}
use Rattle.disk_mem.specs.declared.record.Entry.{Entry}
use Rattle.disk_history.specs.Changes.{RecordedCall, during}
use Rattle.disk_history.specs.Changes.RecordedCall.{Synced}
use Rattle.disk_mem.specs.Entries.{newest_first}
use Rattle.disk_history.specs.Histories.{History, EndedBy, MayLeave, done, file_of, undone, unsynced_of, history_state}
use Rattle.disk_history.proofs.HistoryLaws.{Elapses_done, Elapses_undone, NoMore_sync, Only_sync}

-- the history of a disk with another record and turn
abbrev pub held : Inside → List Entry → ℕ → History
held s entries turn =
    record { base = s.base.items; calls = newest_first entries; turn = turn; faults = s.faults }

-- and with other faults
abbrev pub failed : Inside → List Entry → ℕ → ℕ → History
failed s entries turn faults = record (held s entries turn) { faults = faults }

-- the fields stood for h before the call, and stand for new after it
module _ {seen h : History} (new : History) (is : seen ≡ h) (fits : seen.turn ≤ last)
    (ended : EndedBy seen.turn seen.calls) where
  low : h.turn ≤ last
  low = omega (arith, fits, ap (λ (x : History). x.turn) is)

  all_ended : EndedBy h.turn h.calls
  all_ended = subst (λ (x : History). EndedBy x.turn x.calls) is ended

  -- time goes on over a changing call that found no memory
  pub elapsed_undone : (now : History → List ℕ → Type 0) → new ≡ undone h
      → Elapses (history_state h) (history_state new) (now new)
  elapsed_undone now e = subst (λ (x : History). Elapses (history_state h) (history_state x) (now x)) (sym e)
      (Elapses_undone h low all_ended (now (undone h)))

  -- and over one that was done
  pub elapsed_done : (change : RecordedCall) (now : History → List ℕ → Type 0) → new ≡ done change h
      → ((image : List ℕ) → IsImage (during change (unsynced_of h)) image → now (done change h) image)
      → Elapses (history_state h) (history_state new) (now new)
  elapsed_done change now e within =
      subst (λ (x : History). Elapses (history_state h) (history_state x) (now x)) (sym e)
      (Elapses_done h low all_ended change (now (done change h)) within)

-- after a sync a crash leaves what reads give, and nothing new
pub only_synced : (h new : History) → new ≡ done Synced h → Only (file_of h) (MayLeave new)
only_synced h new e = subst (λ (x : History). Only (file_of h) (MayLeave x)) (sym e) (Only_sync h)

pub no_more_synced : (h new : History) → new ≡ done Synced h → NoMore (MayLeave h) (MayLeave new)
no_more_synced h new e = subst (λ (x : History). NoMore (MayLeave h) (MayLeave x)) (sym e) (NoMore_sync h)
