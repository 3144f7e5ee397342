-- What is seen of a bay of real files, and what a mount leaves.
use Rattle.std.specs.Prelude.{◌≡◌, ◌⊎◌, ℕ, Bool, false, List, [], Option, Some, None, length, min, IsTrue, IsFalse}
use Rattle.disk_face.specs.Counts.{last}
use Rattle.disk_face.specs.Moments.{Rests}
use Rattle.disk_face.specs.Mounts.{Mount, has_file, is_mounted}
use Rattle.disk_face.specs.States.{State}
use Rattle.disk_face.specs.declared.bay.Mounted.{Mounted}
use Rattle.disk_face.specs.declared.bay.Mounted.TheVariants.{Made}
use Rattle.disk_file.specs.Hosts.{Marks}
use Rattle.disk_file.specs.declared.bay.Last.{Last}
use Rattle.disk_file.specs.declared.host.Kind.TheVariants as kind
use Rattle.disk_file.specs.declared.host.Use.{Use}
use Rattle.disk_file.specs.declared.host.Use.TheVariants as meant

-- the last mount that it keeps
abbrev pub mount_of : Option Last → Option Mount
mount_of None = None
mount_of (Some last) = Some (record {
  name = last.name.bytes;
  make = last.make;
  answer = last.answer;
})

-- a file of the system, as the disk of a bay with so many faults and that last mount
abbrev pub bay_disk : State → ℕ → Option Mount → State
bay_disk host faults mount = record host {
  faults = faults;
  is_ready = is_mounted mount;
  last_mount = mount;
}

-- once a file is mounted, its lock is held
abbrev pub IsHeld : Use → Mounted → Marks → Type 0
IsHeld usage answer marks = IsTrue (has_file answer) → marks.lock ≡ Some usage

-- the name of a file that may be changed is safe, where it was made or is empty, as one that was just made
pub record HasName (usage : Use) (answer : Mounted) (s : State) (marks : Marks) : Type 0 where
  pub made : usage ≡ meant.Changing → answer ≡ Made → IsTrue marks.is_named
  pub empty : usage ≡ meant.Changing → IsTrue (has_file answer) → IsTrue s.tells → length s.file ≡ 0
      → IsTrue marks.is_named

-- a crash leaves what reads give, once a file is mounted that may be changed
abbrev pub IsAtRest : Use → Mounted → State → Type 0
IsAtRest usage answer s = usage ≡ meant.Changing → IsTrue (has_file answer) → IsTrue s.tells → Rests s

-- What a mount leaves of a file that it found or made: its lock is held, no standard stream uses it, and one
-- that may be changed is at rest, with a name that is safe.
pub record IsTaken (usage : Use) (answer : Mounted) (old new : Marks) (s : State) : Type 0 where
  pub held : IsTrue old.tells → IsHeld usage answer new
  pub own : IsTrue old.tells → IsTrue (has_file answer) → IsFalse (old.is_stream usage)
  pub rests : IsAtRest usage answer s
  pub named : IsTrue old.tells → HasName usage answer s new

-- Nothing stands in the way of a mount: nobody else holds the file, and the name is that of a file, or of
-- nothing, where what is to be made may be changed.
pub record CanMount (usage : Use) (make : Bool) (name : List ℕ) (marks : Marks) : Type 0 where
  pub told : IsTrue marks.tells
  pub free : IsFalse marks.in_use
  pub file : (marks.kind_at name ≡ Some kind.File)
      ⊎ ((marks.kind_at name ≡ None) × (IsTrue make → usage ≡ meant.Changing))

-- it tells no images
abbrev pub no_image : List ℕ → Type 0
no_image image = ⊥

-- A file of a system after so many calls of a disk, open or not. It tells neither content nor images.
abbrev pub untold : ℕ → Bool → State
untold turns is_open =
    record {
      tells = false;
      file = [];
      tells_images = false;
      may_leave = no_image;
      left_since = λ _. no_image;
      turn = min turns last;
      faults = 0;
      weight = 0;
      longest = 0;
      is_ready = is_open;
      last_mount = None;
    }
