-- What callers see of a bay of real files.
use Rattle.std.specs.Prelude.{◌≡◌, ◌↔◌, ℕ, Bool, List, [], Option, Some, None, Result, Ok, is_ok, is_some, if◌then◌else◌, IfOk, IfSome, IsErr, OnErr, IsTrue, IsFalse}
use Rattle.disk_face.specs.Counts.{HasCause, counted}
use Rattle.disk_face.specs.States.{State}
use Rattle.disk_face.specs.declared.bay.Mounted.{Mounted}
use Rattle.disk_face.specs.declared.bay.Mounted.TheVariants as found
use Rattle.disk_file.specs.Hosts.{Marks, SameWorld, names_of}
use Rattle.disk_file.specs.Mounted.{bay_disk, mount_of}
use Rattle.disk_file.specs.declared.host.Host.{Ghosts}
use Rattle.disk_file.specs.declared.host.Use.{Use}
use Rattle.disk_file.specs.declared.cause.Cause.{Cause}
use Rattle.disk_file.specs.declared.bay.FileBay.{FileBay}

module _ {H : Type 0} {g : Ghosts H} where
  -- as a disk
  abbrev pub bay_state : FileBay H g → State
  bay_state bay = bay_disk (g.state bay.host) bay.faults (mount_of bay.last)

  -- its system
  abbrev pub host_of : FileBay H g → H
  host_of bay = bay.host

  -- what its system tells
  abbrev pub marks_of : FileBay H g → Marks
  marks_of bay = g.marks bay.host

  -- what it means to do with its file
  abbrev pub use_of : FileBay H g → Use
  use_of bay = bay.usage

  -- a sync of it has failed
  abbrev pub has_lost : FileBay H g → Bool
  has_lost bay = bay.has_lost

  -- why its last failed call failed
  abbrev pub cause_of : FileBay H g → Option Cause
  cause_of bay = bay.cause

  -- the system's part, what it means to do and what it lost are as they were
  pub record SameBay (old new : FileBay H g) : Type 0 where
    pub marks : marks_of new ≡ marks_of old
    pub usage : use_of new ≡ use_of old
    pub lost : has_lost new ≡ has_lost old

  -- beside what is open the system's part is as it was, and so is what it means to do and what it lost
  pub record SameMeans (old new : FileBay H g) : Type 0 where
    pub world : SameWorld (marks_of old) (marks_of new)
    pub usage : use_of new ≡ use_of old
    pub lost : has_lost new ≡ has_lost old

  -- a call that fails counts one fault more, and the bay knows why; no other counts any
  pub record NotesFault {A E : Type 0} (old new : FileBay H g) (result : Result A E) : Type 0 where
    pub cause : HasCause (bay_state old).faults (bay_state new).faults result
    pub faults : (bay_state new).faults
        ≡ (if is_ok result then (bay_state old).faults else counted (bay_state old).faults 1)
    pub told : OnErr result (IsTrue (is_some (cause_of new)))

  -- A sync that fails is lost for good: each later one fails. So does one of a file that its name leads to no
  -- more, as far as the system tells.
  pub record LosesSync {A E : Type 0} (old new : FileBay H g) (result : Result A E) : Type 0 where
    pub again : IsTrue (has_lost old) → IsErr result
    pub gone : IsTrue (marks_of old).tells → IfSome (bay_state old).last_mount (λ mount.
        IsFalse ((marks_of old).leads mount.name) → IsErr result)
    pub lost : IsErr result ↔ IsTrue (has_lost new)

  -- A mount that is answered is the last one, and one that fails leaves none. What the name had is told as
  -- the system tells it; what was made has no bytes, and nothing is absent that was to be made.
  pub record Mounts {E : Type 0} (name : List ℕ) (make : Bool) (old new : FileBay H g)
      (result : Result Mounted E) : Type 0 where
    pub mounted : IfOk result (λ answer.
        (bay_state new).last_mount ≡ Some (record { name = name; make = make; answer = answer }))
    pub none : OnErr result ((bay_state new).last_mount ≡ None)
    pub there : IsTrue (names_of (marks_of old)).tells → IfOk result (λ answer.
        IsTrue ((names_of (marks_of old)).is_there name) ↔ (answer ≡ found.There))
    pub made : result ≡ Ok found.Made
        → IsTrue make × (IsTrue (bay_state old).tells → (bay_state new).file ≡ [])
    pub absent : result ≡ Ok found.Absent → IsFalse make
