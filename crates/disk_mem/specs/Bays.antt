-- What callers see of a bay of one file.
use Rattle.std.specs.Prelude.{◌≡◌, ℕ, ◌+◌, Bool, ◌&&◌, ◌||◌, true, List, bytes_eq, string_bytes, Option, Result, Ok, IfOk, IsErr, IsTrue, IsFalse}
use Rattle.disk_face.specs.Mounts.{Mount, Names, is_mounted}
use Rattle.disk_face.specs.States.{State}
use Rattle.disk_face.specs.declared.bay.Mounted.{Mounted}
use Rattle.disk_face.specs.declared.bay.Mounted.TheVariants as found
use Rattle.disk_mem.specs.LastMounts.{mount_of, own_answer}
use Rattle.disk_face.specs.declared.Disk.{Ghosts}
use Rattle.disk_mem.specs.declared.bay.MemBay.{MemBay}

module _ {D : Type 0} {g : Ghosts D} where
  -- the disk inside
  abbrev pub disk_of : MemBay D g → D
  disk_of bay = bay.disk

  -- the name of its file
  abbrev pub name_of : MemBay D g → List ℕ
  name_of bay = string_bytes bay.name

  -- its file is there
  abbrev pub has_its_file : MemBay D g → Bool
  has_its_file bay = bay.there

  -- how many mounts have failed
  abbrev pub own_faults : MemBay D g → ℕ
  own_faults bay = bay.faults

  -- the last mount that was answered
  abbrev pub last_mount_of : MemBay D g → Option Mount
  last_mount_of bay = mount_of (string_bytes bay.name) bay.last

  -- as a disk: the one inside, once it is mounted
  abbrev pub bay_state : MemBay D g → State
  bay_state bay = record (g.state bay.disk) {
    faults = (g.state bay.disk).faults + bay.faults;
    is_ready = is_mounted (last_mount_of bay);
    last_mount = last_mount_of bay;
  }

  -- the bytes are the name of its file
  abbrev pub is_own : MemBay D g → List ℕ → Bool
  is_own bay name = bytes_eq (string_bytes bay.name) name

  -- it tells which name is there: that of its file, where that is there
  abbrev pub names_of : MemBay D g → Names
  names_of bay = record { tells = true; is_there = λ name. is_own bay name && bay.there }

  -- all but the disk is as it was
  pub record SameBay (old new : MemBay D g) : Type 0 where
    pub name : name_of new ≡ name_of old
    pub there : has_its_file new ≡ has_its_file old
    pub mount : last_mount_of new ≡ last_mount_of old
    pub faults : own_faults new ≡ own_faults old

  -- A mount of its own name is answered, and makes its file where that is asked. One of another name finds
  -- nothing, and fails where its file is to be made.
  pub record MountsByName {E : Type 0} (name : List ℕ) (make : Bool) (old new : MemBay D g)
      (result : Result Mounted E) : Type 0 where
    pub own : IsTrue (is_own old name) → result ≡ Ok (own_answer (has_its_file old) make)
    pub other : IsFalse (is_own old name) → IfOk result (λ answer. answer ≡ found.Absent)
    pub not_made : IsFalse (is_own old name) → IsTrue make → IsErr result
    pub file : has_its_file new ≡ (has_its_file old || (is_own old name && make))
