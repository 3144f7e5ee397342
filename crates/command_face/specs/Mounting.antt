-- How the file of a command is mounted.
use Rattle.std.specs.Prelude.{◌≡◌, ℕ, List, ◌⊎◌, Bool, false, if◌then◌else◌, Option, None, Some, ◌↔◌}
use Rattle.disk_face.specs.Counts.{Rose}
use Rattle.disk_face.specs.States.{State}
use Rattle.disk_face.specs.Mounts.{Mount}
use Rattle.disk_face.specs.declared.bay.Mounted.{Mounted}
use Rattle.disk_face.specs.declared.bay.Mounted.TheVariants.{There, Made, Absent}

-- the mount of a file, which is made where it isn't there if `make` says so, answered so
abbrev pub mounted : List ℕ → Bool → Mounted → Option Mount
mounted file make answer = Some (record { name = file; make = make; answer = answer })

-- what the mount of a file answers where the file isn't there
abbrev pub not_there : Bool → Mounted
not_there make = if make then Made else Absent

-- The file of a command was mounted unless the disk failed, as its last mount tells; the program says that
-- there is no such file exactly where that mount answered so.
pub record IsMounted (file : List ℕ) (make : Bool) (mount : Option Mount) (disk_failed no_file : Type 0)
    : Type 0 where
  pub answer : disk_failed ⊎ (mount ≡ mounted file make There) ⊎ (mount ≡ mounted file make (not_there make))
  pub absent : no_file ↔ (mount ≡ mounted file make Absent)

-- A file that has to be there wasn't mounted: the disk failed, or the file isn't there.
abbrev pub IsNotThere : List ℕ → State → State → Type 0 → Type 0 → Type 0
IsNotThere file old new disk_failed no_file =
    (disk_failed × (new.last_mount ≡ None) × Rose old.faults new.faults)
    ⊎ (no_file × (new.last_mount ≡ mounted file false Absent) × (new.faults ≡ old.faults))
