-- The last mount of a bay of one file.
use Rattle.std.specs.Prelude.{ℕ, Bool, false, if◌then◌else◌, List, string_bytes, Option, Some, None}
use Rattle.disk_face.specs.declared.bay.Mounted.{Mounted}
use Rattle.disk_face.specs.declared.bay.Mounted.TheVariants.{There, Made, Absent}
use Rattle.disk_face.specs.Mounts.{Mount}
use Rattle.disk_mem.specs.declared.bay.Last.{Last}
use Rattle.disk_mem.specs.declared.bay.Last.TheVariants.{Never, Own, Other}

-- the last mount, where the file has this name: another name was asked for without making it, and is absent
abbrev pub mount_of : List ℕ → Last → Option Mount
mount_of own Never = None
mount_of own (Own make answer) = Some (record { name = own; make = make; answer = answer })
mount_of own (Other name) = Some (record { name = string_bytes name; make = false; answer = Absent })

-- what a mount of its own name answers
abbrev pub own_answer : Bool → Bool → Mounted
own_answer there make = if there then There else (if make then Made else Absent)
