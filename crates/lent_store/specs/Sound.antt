-- A file that keeps all rules of the format, and one that doesn't.
use Rattle.std.specs.Prelude.{◌≢◌, ℕ, List}
use Rattle.size_class.specs.declared.TheConstants.{CLASSES, SIZE_MAX}
use Rattle.slot_codec.specs.Choice.{SlotTable}
use Rattle.slot_pair.specs.declared.find.SlotFault.TheVariants as slot
use Rattle.map_model.specs.Maps.{Map}
use Rattle.segment_layout.specs.Books.{Book}
use Rattle.table_rules.specs.Opening.{OpensBy}
use Rattle.reopen.specs.Refusals.{RefusesToOpen}
use Rattle.reopen.specs.declared.fault.OpenFault.{OpenFault}
use Rattle.reopen.specs.declared.fault.OpenFault.TheVariants as fault

-- it opens to a map, by a table
pub record IsSoundFile (file : List ℕ) : Type 0 where
  pub table : SlotTable
  pub objects : Map
  pub book : Book
  pub opens : OpensBy CLASSES SIZE_MAX table file objects book

-- It is refused, for what shows that it is no store, or for want of memory. It was read.
pub record RefusesFile (file : List ℕ) (why : OpenFault) : Type 0 where
  pub refused : RefusesToOpen CLASSES file why
  pub read : why ≢ fault.Slot slot.Disk
