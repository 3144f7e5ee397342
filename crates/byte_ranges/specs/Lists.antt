-- Small words on lists and numbers.
use Rattle.std.specs.Prelude.{ℕ, zero, suc, ◌+◌, List, [], ◌∷◌, map, sum, Result, Ok, Err}

-- n numbers from a first one on
abbrev pub counting_from : ℕ → ℕ → List ℕ
counting_from first zero = []
counting_from first (suc n) = first ∷ counting_from (first + 1) n

-- the numbers below n
unfoldable pub below : ℕ → List ℕ
below n = counting_from 0 n

-- the sum of f over the numbers below n
unfoldable pub sum_below : ℕ → (ℕ → ℕ) → ℕ
sum_below n f = sum (map f (below n))

-- go on with the value, or hand the refusal on
infixl 10 ◌>>=◌
abbrev pub ◌>>=◌ : {A B E : Type 0} → Result A E → (A → Result B E) → Result B E
(Ok x) >>= f = f x
(Err e) >>= f = Err e
