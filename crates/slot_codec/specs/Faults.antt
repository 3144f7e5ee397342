-- The numbers of the faults in bytes.
use Rattle.std.specs.Prelude.{ℕ}
use Rattle.slot_codec.specs.declared.codec.CodecFault.{CodecFault}
use Rattle.slot_codec.specs.declared.codec.CodecFault.TheVariants as fault

-- the number of a fault, as the program's fault lines and the library have it
abbrev pub codec_number : CodecFault → ℕ
codec_number fault.Magic = 1
codec_number fault.Params = 2
codec_number fault.Version = 3
codec_number fault.Kind = 4
codec_number fault.Zeros = 5
codec_number fault.Count = 6
codec_number fault.NameBytes = 7
codec_number fault.Order = 8
codec_number fault.Worn = 9
codec_number fault.Range = 10
codec_number fault.Entry = 11
codec_number fault.Absent = 12
