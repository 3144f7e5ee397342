-- Costs by class: what it costs to move an object of 2^c bytes, and what a row of bytes weighs by that.
use Rattle.std.specs.Prelude.{ℕ, ◌+◌, ◌-◌, ◌*◌, ◌^◌, ◌<◌, ◌≤◌, List, slice_index}
use Rattle.byte_ranges.specs.Lists.{sum_below}
use Rattle.size_class.specs.Classes.{lg_up, row}

-- the constant of the amortised cost
abbrev pub factor : ℕ → ℕ
factor k = 8 * k * (lg_up k + 3) + 6 * k + 3

-- a cost for each class below C: it does not fall with the class, and at most doubles
pub record IsCost (C : ℕ) (cost : ℕ → ℕ) : Type 0 where
  pub some : 1 ≤ cost 0
  pub fits : cost 0 ≤ 2 ^ 20
  pub rises : (c : ℕ) → c + 1 < C → cost c ≤ cost (c + 1)
  pub slowly : (c : ℕ) → c + 1 < C → cost (c + 1) ≤ 2 * cost c

-- the cost of a byte of a class: that of 2^c bytes by 2^c, times 2^(C - 1), so that it is a whole number
abbrev pub rate : ℕ → (ℕ → ℕ) → ℕ → ℕ
rate C cost c = cost c * 2 ^ (C - 1 - c)

-- the cost of a row of bytes by class, times 2^(C - 1)
abbrev pub weigh : ℕ → (ℕ → ℕ) → List ℕ → ℕ
weigh C cost cells = sum_below C (λ c. slice_index cells c * rate C cost c)

-- each byte costs the same
abbrev pub linear : ℕ → ℕ
linear c = 2 ^ c

-- each object of 2^c bytes costs the same
abbrev pub flat : ℕ → ℕ
flat c = 1

-- an object costs its bytes, and 64 more
abbrev pub seek : ℕ → ℕ
seek c = 64 + 2 ^ c

-- what the entries of a grid have paid for
abbrev pub potential : ℕ → (ℕ → ℕ) → ℕ → List (List ℕ) → ℕ
potential C cost k grid = factor k * sum_below C (λ j. weigh C cost (row grid j))
