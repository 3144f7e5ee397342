-- The sequence of a file's table is that of its slot in use, and of any table that was read of it.
use Rattle.std.specs.Prelude.{◌≡◌, ℕ, ◌≤◌, List, Ok}
use Rattle.std.proofs.Common.{arith, sym, ◌∙◌, ap}
use Rattle.slot_codec.specs.Choice as choice
use Rattle.slot_codec.proofs.ChoiceLaws.{chosen_sequence, table_chosen}
use Rattle.slot_codec.proofs.StepLaws.{from_ok}
use Rattle.table_rules.specs.Sequences.{HasSequenceUpTo}

pub sequence_of_table : (file : List ℕ) (t : choice.SlotTable) (most : ℕ) → choice.table_of file ≡ Ok t
    → t.chosen.header.sequence ≤ most → HasSequenceUpTo most file
sequence_of_table file t most read low other again =
    let same : t ≡ other = from_ok t other (sym read ∙ again) in
    omega (arith, low, ap (λ (x : choice.SlotTable). x.chosen.header.sequence) same)

pub sequence_of_slot : (file : List ℕ) (u : choice.InUse) (most : ℕ) → choice.slot_in_use file ≡ Ok u
    → u.sequence ≤ most → HasSequenceUpTo most file
sequence_of_slot file u most in_use low t read =
    omega (arith, low, chosen_sequence file u t.chosen in_use (table_chosen file t read).0)

pub sequence_wider : (most more : ℕ) (file : List ℕ) → most ≤ more → HasSequenceUpTo most file
    → HasSequenceUpTo more file
sequence_wider most more file wider up t read = omega (arith, wider, up t read)
