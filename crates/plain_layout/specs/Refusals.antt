-- The refusal of a part of a file, and the records that are read one after the other.
use Rattle.std.specs.Prelude.{List, ◌++◌, map, Result, Ok}
use Rattle.byte_ranges.specs.Lists.{◌>>=◌}
use Rattle.slot_codec.specs.Choice.{SlotRefusal, plain}
use Rattle.slot_codec.specs.declared.codec.Record.{Record}
use Rattle.slot_pair.specs.Finding.{Refuses}
use Rattle.plain_layout.specs.declared.opened.Refusal.{Refusal}
use Rattle.plain_layout.specs.declared.opened.Refusal.TheVariants as refusal

-- the refusal is this one, unless the disk or memory failed
abbrev pub RefusesBy : {A : Type 0} → Result A SlotRefusal → Refusal → Type 0
RefusesBy expected (refusal.Slot f) = Refuses expected f
RefusesBy expected (refusal.Rule number at) = ⊥
RefusesBy expected refusal.NoMemory = Unit {0}

-- records that are read, without their digests, behind some
abbrev pub behind : List Record → Result (List Record) SlotRefusal → Result (List Record) SlotRefusal
behind before read = read >>= λ rest. Ok (before ++ map plain rest)
