-- The lines that the program puts where it stops.
use Rattle.std.specs.Prelude.{ℕ, List, [], ◌++◌, codes}
use Rattle.std.specs.Fmt.{decimal}
use Rattle.slot_codec.specs.Faults.{codec_number}
use Rattle.slot_pair.specs.declared.find.SlotFault.{SlotFault}
use Rattle.slot_pair.specs.declared.find.SlotFault.TheVariants as slot
use Rattle.reopen.specs.declared.fault.OpenFault.{OpenFault}
use Rattle.reopen.specs.declared.fault.OpenFault.TheVariants as opening
use Rattle.command_face.specs.declared.stop.StopReason.{StopReason}
use Rattle.command_face.specs.declared.stop.StopReason.TheVariants as stop

abbrev pub slot_text : SlotFault → List ℕ
slot_text slot.Short = codes "slot 1"
slot_text slot.Unformatted = codes "slot 2"
slot_text slot.NoGate = codes "slot 3"
slot_text slot.SameSequence = codes "slot 4"
slot_text (slot.Codec f at) = codes "codec " ++ decimal (codec_number f) ++ codes " at " ++ decimal at
slot_text slot.Disk = codes "disk"

-- why a file is no store; want of memory is no reason (`stop_of`)
abbrev pub store_text : OpenFault → List ℕ
store_text (opening.Slot f) = slot_text f
store_text (opening.Table broken) = codes "rule " ++ decimal broken.rule ++ codes " at " ++ decimal broken.at
store_text opening.NoMemory = codes "memory"

-- the line of a reason to stop; of the sink's own fault there is none
abbrev pub line_of : StopReason → List ℕ
line_of stop.Words = codes "fault words\n"
line_of stop.NoFile = codes "fault no file\n"
line_of (stop.NotStore f) = codes "fault store " ++ store_text f ++ codes "\n"
line_of (stop.Taken n) = codes "fault taken " ++ decimal n ++ codes "\n"
line_of stop.Missing = codes "fault missing\n"
line_of stop.Damaged = codes "fault damaged\n"
line_of stop.Disk = codes "fault disk\n"
line_of stop.Sink = []
line_of stop.NoMemory = codes "fault memory\n"
line_of (stop.Line n) = codes "fault request " ++ decimal n ++ codes "\n"
line_of stop.Source = codes "fault source\n"
line_of stop.Budget = codes "fault budget\n"
line_of (stop.TooManyNames n) = codes "fault too many " ++ decimal n ++ codes "\n"
line_of stop.Worn = codes "fault worn\n"
line_of stop.NoBatch = codes "fault no batch\n"
line_of (stop.Unfit n) = codes "fault unfit " ++ decimal n ++ codes "\n"
