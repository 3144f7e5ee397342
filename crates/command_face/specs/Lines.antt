-- Numbers in lines of text.
use Rattle.std.specs.Prelude.{ℕ, List, ◌++◌, codes, decimal}

-- a number after a blank
unfoldable pub numbered : ℕ → List ℕ
numbered n = codes " " ++ decimal n
