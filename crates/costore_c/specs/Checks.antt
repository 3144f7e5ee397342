-- What a check of a handle's file tells.
use Rattle.std.specs.Prelude.{◌≡◌, ℤ, ℕ, pos, List, Result, Ok, Err, IfErr, OnOk}
use Rattle.slot_codec.specs.Faults.{codec_number}
use Rattle.slot_pair.specs.declared.find.SlotFault.TheVariants as slot
use Rattle.reopen.specs.declared.fault.OpenFault.{OpenFault}
use Rattle.reopen.specs.declared.fault.OpenFault.TheVariants as why
use Rattle.lent_store.specs.Embedded.{file_in}
use Rattle.lent_store.specs.Sound.{IsSoundFile, RefusesFile}
use Rattle.store_handle.specs.declared.Stage.{Stage}
use Rattle.store_handle.specs.declared.Stage.TheVariants as stage
use Rattle.costore_c.specs.Answers.{closed_code, opening_code}
use Rattle.costore_c.specs.declared.check.Fault.{Fault}

abbrev pub fault : ℕ → ℕ → ℕ → Fault
fault kind number at = record { kind = kind; number = number; at = at }

-- the numbers of what shows that a file is no store; none of a disk or of memory that failed
abbrev pub fault_of : OpenFault → Fault
fault_of (why.Slot slot.Short) = fault 1 1 0
fault_of (why.Slot slot.Unformatted) = fault 1 2 0
fault_of (why.Slot slot.NoGate) = fault 1 3 0
fault_of (why.Slot slot.SameSequence) = fault 1 4 0
fault_of (why.Slot (slot.Codec f at)) = fault 2 (codec_number f) at
fault_of (why.Slot slot.Disk) = fault 0 0 0
fault_of (why.Table broken) = fault 3 broken.rule broken.at
fault_of why.NoMemory = fault 0 0 0

abbrev pub check_code : Result (Unit {0}) OpenFault → ℤ
check_code (Ok done) = pos 0
check_code (Err refused) = opening_code refused

-- they were written, or what was there stays
abbrev pub told_fault : Result (Unit {0}) OpenFault → Fault → Fault
told_fault (Ok done) before = before
told_fault (Err (why.Slot slot.Disk)) before = before
told_fault (Err why.NoMemory) before = before
told_fault (Err refused) before = fault_of refused

-- A file was checked: it is sound, or what shows first that it isn't was told, or there was no memory.
pub record Checks (file : List ℕ) (before now : Fault) (code : ℤ) : Type 0 where
  pub answer : Result (Unit {0}) OpenFault
  pub told : code ≡ check_code answer
  pub sound : OnOk answer (IsSoundFile file)
  pub refused : IfErr answer (RefusesFile file)
  pub fault : now ≡ told_fault answer before

-- so that of a handle
abbrev pub ChecksFile : Stage → Fault → Fault → ℤ → Type 0
ChecksFile (stage.Open e) before now code = Checks (file_in e) before now code
ChecksFile (stage.Lent room log) before now code = Checks room.file before now code
ChecksFile stage.Closed before now code = (code ≡ closed_code) × (now ≡ before)
