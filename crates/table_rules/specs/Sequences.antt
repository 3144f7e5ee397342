-- How far the saves of a file have come.
use Rattle.std.specs.Prelude.{◌≡◌, ℕ, ◌≤◌, List, Ok}
use Rattle.slot_codec.specs.Choice as choice

-- the table of a file, where the file has one, has at most this sequence
abbrev pub HasSequenceUpTo : ℕ → List ℕ → Type 0
HasSequenceUpTo most file = (t : choice.SlotTable) → choice.table_of file ≡ Ok t
    → t.chosen.header.sequence ≤ most
