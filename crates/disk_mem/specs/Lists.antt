-- The numbers of the calls that are to fail.
use Rattle.std.specs.Prelude.{ℕ, Bool, List, nat_eq}
use Rattle.std.specs.List.{list_any}
use Rattle.disk_face.specs.Counts.{counted}

-- the number of the next call, counted from 1, after so many
abbrev pub next_call : ℕ → ℕ
next_call calls = counted calls 1

-- a number stands in the list
abbrev pub is_listed : List ℕ → ℕ → Bool
is_listed fails number = list_any (λ listed. nat_eq listed number) fails
