-- Volumes within a bound.
use Rattle.std.proofs.Common.{◌≡◌, ◌<◌, ℕ, List, length, arith, ap, inl, inr}
use Rattle.std.specs.Prelude.{slice_index, slice_set}
use Rattle.std.proofs.lemmas.Bool.{cases_eq, cases_lt}
use Rattle.std.proofs.lemmas.List.{get_or-set_same, get_or-set_other, get_or_past, length-set}

-- a number within a bound among numbers within it
pub set_within : (xs : List ℕ) (at v n c : ℕ) → ((d : ℕ) → slice_index xs d < n) → v < n
    → slice_index (slice_set xs at v) c < n
set_within xs at v n c each small =
    elim (cases_lt c (length xs)) [
      | inr past ↦ omega (
        arith,
        each c,
        small,
        get_or_past (slice_set xs at v) c 0 (omega (arith, length-set xs at v)),
      )
      | inl within ↦ elim (cases_eq c at) [
        | inl same ↦ omega (
          arith,
          small,
          ap (slice_index (slice_set xs at v)) same,
          get_or-set_same xs at v 0 (omega arith),
        )
        | inr other ↦ omega (arith, each c, get_or-set_other xs at c v 0 other)
      ]
    ]
