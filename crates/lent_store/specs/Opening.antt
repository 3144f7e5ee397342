-- Why a store over a file in memory isn't opened.
use Rattle.std.specs.Prelude.{◌≡◌, ◌*◌, ◌<◌}
use Rattle.disk_face.specs.Frames.{call_weight}
use Rattle.lent_disk.specs.Rooms.{Filing, Logging}
use Rattle.size_class.specs.declared.TheConstants.{CLASSES, SIZE_MAX}
use Rattle.slot_codec.specs.Choice.{SlotTable}
use Rattle.slot_codec.specs.declared.codec.Kind.TheVariants as kind
use Rattle.slot_pair.specs.declared.find.SlotFault.TheVariants as slot
use Rattle.map_model.specs.Maps.{Map}
use Rattle.segment_layout.specs.Books.{Book}
use Rattle.table_rules.specs.Opening.{Opens, OpensBy}
use Rattle.reopen.specs.Refusals.{RefusesToOpen}
use Rattle.reopen.specs.declared.fault.OpenFault.{OpenFault}
use Rattle.reopen.specs.declared.fault.OpenFault.TheVariants as fault

-- The refusal is that of the file, or there is no memory. That the disk failed is answered only of a file
-- that opens. If its table is settled, the log is smaller than what spells a cut and a sync.
pub record RefusesLent (file : Filing) (log : Logging) (why : OpenFault) : Type 0 where
  pub refused : RefusesToOpen CLASSES file.file why
  pub sound : why ≡ fault.Slot slot.Disk
      → ((m : Map) (b : Book) → Opens CLASSES SIZE_MAX file.file m b → ⊥) → ⊥
  pub settled : why ≡ fault.Slot slot.Disk → (t : SlotTable) (m : Map) (b : Book)
      → OpensBy CLASSES SIZE_MAX t file.file m b → t.chosen.header.kind ≡ kind.Settled
      → log.most < 2 * call_weight
