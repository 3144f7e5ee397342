-- What is read of an input: bytes that were read ahead, and then what the source has left.
use Rattle.std.specs.Prelude.{◌≡◌, ℕ, ◌<◌, ◌≤◌, Bool, true, false, List, [], ◌∷◌, ◌++◌, drop, length, Option, Some, None, Result, Ok, IfOk, OnErr}
use Rattle.std.specs.List.{AllByRecursion}

-- the bytes of one byte, or of none
abbrev pub byte_of : Option ℕ → List ℕ
byte_of None = []
byte_of (Some b) = b ∷ []

-- The first byte was taken, or none where nothing was left.
pub record TakesByte {E : Type 0} (before now : List ℕ) (result : Result (Option ℕ) E) : Type 0 where
  pub first : IfOk result (λ b. before ≡ byte_of b ++ now)
  pub ended : result ≡ Ok None → before ≡ []
  pub none : OnErr result (now ≡ before)

-- So many bytes were dropped, and at least one where there may be one and one was left.
pub record Drops {E : Type 0} (most : ℕ) (before now : List ℕ) (result : Result ℕ E) : Type 0 where
  pub within : IfOk result (λ n. n ≤ length before)
  pub rest : IfOk result (λ n. now ≡ drop n before)
  pub ended : IfOk result (λ n. 0 < most → n ≡ 0 → before ≡ [])

-- a newline, where one was found
abbrev pub newline_if : Bool → List ℕ
newline_if false = []
newline_if true = 10 ∷ []

-- the byte doesn't stand in the list
abbrev pub Lacks : ℕ → List ℕ → Type 0
Lacks c xs = AllByRecursion (λ x. x ≡ c → ⊥) xs
