-- Why a file isn't opened, against its bytes.
use Rattle.std.specs.Prelude.{◌≡◌, ℕ, Bool, false, List, Result, Ok}
use Rattle.size_class.specs.declared.TheConstants.{SIZE_MAX}
use Rattle.slot_codec.specs.Choice as choice
use Rattle.slot_codec.specs.Choice.{SlotRefusal}
use Rattle.slot_codec.specs.Logs.{table_in}
use Rattle.slot_codec.specs.declared.codec.Header.{Header}
use Rattle.slot_pair.specs.Finding.{Refuses}
use Rattle.extent_table.specs.Extents.{Spots}
use Rattle.placement_model.specs.Laid.{laid}
use Rattle.table_rules.specs.Opening.{placed_table}
use Rattle.table_rules.specs.Rules.{FirstBroken}
use Rattle.table_check.specs.declared.fault.TableFault.{TableFault}
use Rattle.reopen.specs.declared.fault.OpenFault.{OpenFault}
use Rattle.reopen.specs.declared.fault.OpenFault.TheVariants as fault

-- the table of a file, whose slots have logs or have none, breaks this rule first, and there
pub record BreaksFirstIn (logged : Bool) (classes : ℕ) (file : List ℕ) (broken : TableFault) : Type 0 where
  pub table : choice.SlotTable
  pub read : table_in logged file ≡ Ok table
  pub first : FirstBroken (placed_table classes SIZE_MAX file table) broken.rule broken.at

abbrev pub BreaksFirst : ℕ → List ℕ → TableFault → Type 0
BreaksFirst = BreaksFirstIn false

-- the refusal of such a file is the first that applies, unless the disk or memory failed
abbrev pub RefusesToRead : Bool → ℕ → List ℕ → OpenFault → Type 0
RefusesToRead logged classes file (fault.Slot f) = Refuses (table_in logged file) f
RefusesToRead logged classes file (fault.Table broken) = BreaksFirstIn logged classes file broken
RefusesToRead logged classes file fault.NoMemory = Unit {0}

abbrev pub RefusesToOpen : ℕ → List ℕ → OpenFault → Type 0
RefusesToOpen = RefusesToRead false

-- the refusal is that of a part of a file, unless the disk or memory failed; no rule was tried
abbrev pub RefusesBy : {A : Type 0} → Result A SlotRefusal → OpenFault → Type 0
RefusesBy expected (fault.Slot f) = Refuses expected f
RefusesBy expected (fault.Table broken) = ⊥
RefusesBy expected fault.NoMemory = Unit {0}

-- the refusal is the first rule that a table breaks, unless there is no memory for its layout
abbrev pub BreaksLaid : ℕ → ℕ → ℕ → Header → Spots → OpenFault → Type 0
BreaksLaid classes k data_len header spots (fault.Slot f) = ⊥
BreaksLaid classes k data_len header spots (fault.Table broken) =
    FirstBroken (laid classes SIZE_MAX k data_len header spots) broken.rule broken.at
BreaksLaid classes k data_len header spots fault.NoMemory = Unit {0}
