-- What contracts see of a file at the front of lent memory, and of a log in such memory.
use Rattle.std.specs.Prelude.{ℕ, List}

-- the bytes of the file, and how many it may have
pub record Filing : Type 0 where
  pub file : List ℕ
  pub most : ℕ

-- what the log spells, and how many bytes it may have
pub record Logging : Type 0 where
  pub text : List ℕ
  pub most : ℕ
