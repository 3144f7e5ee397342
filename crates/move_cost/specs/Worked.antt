-- Two rows as worked examples: what three puts moved and what they asked, by class.
use Rattle.std.specs.Prelude.{ℕ, List, slice_set}
use Rattle.size_class.specs.Classes.{zero_row}

-- so many bytes of the classes 2, 3 and 6
abbrev pub three_classes : (two three six : ℕ) → List ℕ
three_classes two three six = slice_set (slice_set (slice_set zero_row 2 two) 3 three) 6 six

abbrev pub worked_moved : List ℕ
worked_moved = three_classes 5 20 300

abbrev pub worked_asked : List ℕ
worked_asked = three_classes 5 10 100
