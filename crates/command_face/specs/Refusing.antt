-- Why a file isn't opened, or isn't read, as a command says it.
use Rattle.std.specs.Prelude.{◌≡◌, Bool, false, List, ℕ, Result, Err}
use Rattle.slot_codec.specs.Choice.{SlotRefusal}
use Rattle.slot_codec.specs.Choice as choice
use Rattle.slot_codec.specs.Logs.{table_in}
use Rattle.slot_codec.specs.Reading.{is_logged}
use Rattle.slot_pair.specs.declared.find.SlotFault.{SlotFault}
use Rattle.slot_pair.specs.declared.find.SlotFault.TheVariants as slot
use Rattle.size_class.specs.declared.TheConstants.{CLASSES}
use Rattle.reopen.specs.Refusals.{BreaksFirstIn}
use Rattle.reopen.specs.declared.fault.OpenFault.{OpenFault}
use Rattle.reopen.specs.declared.fault.OpenFault.TheVariants as opening
use Rattle.command_face.specs.declared.stop.StopReason.{StopReason}
use Rattle.command_face.specs.declared.stop.StopReason.TheVariants as stop

-- a refusal in finding the table, as the program says it
abbrev pub fault_of : SlotRefusal → SlotFault
fault_of choice.too_short = slot.Short
fault_of choice.unformatted = slot.Unformatted
fault_of choice.no_gate = slot.NoGate
fault_of choice.same_sequence = slot.SameSequence
fault_of (choice.codec f at) = slot.Codec f at

-- the first refusal of a file whose slots have logs or have none: what shows it in finding the table, or else
-- the first rule that the table breaks
abbrev pub IsFirstRefusalIn : Bool → List ℕ → OpenFault → Type 0
IsFirstRefusalIn logged file (opening.Slot f) =
    (refusal : SlotRefusal) × (table_in logged file ≡ Err refusal) × (f ≡ fault_of refusal)
IsFirstRefusalIn logged file (opening.Table broken) = BreaksFirstIn logged CLASSES file broken
IsFirstRefusalIn logged file opening.NoMemory = ⊥

-- the same of a file that is to have no logs
abbrev pub IsFirstRefusal : List ℕ → OpenFault → Type 0
IsFirstRefusal = IsFirstRefusalIn false

-- The file isn't opened, or not read, and the answer is the first refusal.
pub record IsRefusedIn (logged : Bool) (file : List ℕ) (answer : Result (List ℕ) StopReason) : Type 0 where
  pub fault : OpenFault
  pub first : IsFirstRefusalIn logged file fault
  pub same : answer ≡ Err (stop.NotStore fault)

-- The file isn't opened: a file whose slots have logs isn't either.
abbrev pub IsRefused : List ℕ → Result (List ℕ) StopReason → Type 0
IsRefused file answer = IsRefusedIn false file answer

-- The file isn't read, by its mark, which says whether its slots have logs.
abbrev pub IsNotRead : List ℕ → Result (List ℕ) StopReason → Type 0
IsNotRead file answer = IsRefusedIn (is_logged file) file answer

-- why a file isn't opened, as a reason to stop
abbrev pub stop_of : OpenFault → StopReason
stop_of (opening.Slot slot.Disk) = stop.Disk
stop_of opening.NoMemory = stop.NoMemory
stop_of fault = stop.NotStore fault
