-- Which ends a status comes of.
use Rattle.std.specs.Prelude.{◌≡◌, Result, Ok, Err, refl}
use Rattle.std.proofs.Common.{arith}
use Rattle.command_face.specs.declared.status.TheConstants.{DISK_FAILED, DONE, FAULTY_WORDS, NO_FILE, NO_MEMORY, SINK_FAILED}
use Rattle.command_face.specs.Outcomes.{status_at}
use Rattle.command_face.specs.declared.stop.StopReason.{StopReason}
use Rattle.command_face.specs.declared.stop.StopReason.TheVariants as stop

pub ok_by : (end : Result (Unit {0}) StopReason) → status_at end ≡ DONE → end ≡ Ok tt
ok_by (Ok tt) is = refl
ok_by (Err stop.Disk) is = absurd (omega (arith, is))
ok_by _ is = absurd (omega (arith, is))

pub words_by : (end : Result (Unit {0}) StopReason) → status_at end ≡ FAULTY_WORDS → end ≡ Err stop.Words
words_by (Err stop.Words) is = refl
words_by _ is = absurd (omega (arith, is))

pub file_by : (end : Result (Unit {0}) StopReason) → status_at end ≡ NO_FILE → end ≡ Err stop.NoFile
file_by (Err stop.NoFile) is = refl
file_by _ is = absurd (omega (arith, is))

pub disk_by : (end : Result (Unit {0}) StopReason) → status_at end ≡ DISK_FAILED → end ≡ Err stop.Disk
disk_by (Err stop.Disk) is = refl
disk_by _ is = absurd (omega (arith, is))

pub sink_by : (end : Result (Unit {0}) StopReason) → status_at end ≡ SINK_FAILED → end ≡ Err stop.Sink
sink_by (Err stop.Sink) is = refl
sink_by _ is = absurd (omega (arith, is))

pub memory_by : (end : Result (Unit {0}) StopReason) → status_at end ≡ NO_MEMORY → end ≡ Err stop.NoMemory
memory_by (Err stop.NoMemory) is = refl
memory_by _ is = absurd (omega (arith, is))
