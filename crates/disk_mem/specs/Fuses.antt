-- What callers see of a fuse.
use Rattle.std.specs.Prelude.{◌≡◌, ◌+◌, Bool, false, min, Result, IsErr, IsTrue, IsFalse}
use Rattle.disk_face.specs.Counts.{last, HasCause}
use Rattle.disk_face.specs.States.{State}
use Rattle.disk_mem.specs.Calls.{Calls}
use Rattle.disk_mem.specs.Plain.{no_image}
use Rattle.disk_mem.specs.declared.fuse.Fuse.{Fuse}

-- a disk seen through these calls: the failed ones add to its faults and turns
abbrev pub fused : Calls → State → State
fused calls inside =
    record inside {
      tells_images = false;
      may_leave = no_image;
      left_since = λ _. no_image;
      turn = min (inside.turn + calls.failed_changes) last;
      faults = min (inside.faults + (calls.failed_changes + calls.failed_reads)) last;
    }

-- Either the call failed here, and the disk inside is as it was, or it was passed on, and an error has its
-- cause inside.
pub record PassesOn {D T E : Type 0} (state : D → State) (fails : Bool) (old new : D)
    (result : Result T E) : Type 0 where
  pub failed : IsTrue fails → IsErr result × (new ≡ old)
  pub passed : IsFalse fails → HasCause (state old).faults (state new).faults result

module _ {D : Type 0} where
  -- the disk inside
  abbrev pub disk_of : Fuse D → D
  disk_of fuse = fuse.inner

  -- the calls made, and which fail
  abbrev pub fuse_calls : Fuse D → Calls
  fuse_calls fuse = fuse.calls

  -- as a disk
  abbrev pub fuse_state : (D → State) → Fuse D → State
  fuse_state state fuse = fused fuse.calls (state fuse.inner)
