-- What a store tells of itself, by its fields.
use Rattle.std.specs.Prelude.{◌≡◌, ℕ, zero, suc, ◌+◌, ◌-◌, ◌*◌, ◌%◌, ◌^◌, ◌<◌, ◌≤◌, ◌||◌, nat_lt, Bool, true, false, if◌then◌else◌, List, [], ◌∷◌, length, slice_index, refl}
use Rattle.std.proofs.Common.{arith, ap, ◌∙◌, inl, inr}
use Rattle.std.proofs.Math.Nat.{mod-eq_of_lt}
use Rattle.std.proofs.lemmas.Bool.{cases_lt, le-ltb, lt-ltb}
use Rattle.std.proofs.lemmas.List.{get_or_past}
use Rattle.size_class.proofs.ClassLaws.{power_rises}
use Rattle.store_model.specs.Facts.{classes_in, widest_of}

counted : (b : Bool) (n : ℕ) → 0 < n → (if b || nat_lt 0 n then 1 + n else 0) ≡ 1 + n
counted true n some = refl
counted false n some = rw (lt-ltb 0 n some) refl

uncounted : (cap n : ℕ) → cap ≤ 0 → n ≤ 0 → (if nat_lt 0 cap || nat_lt 0 n then 1 + n else 0) ≡ 0
uncounted cap n none behind = rw (le-ltb 0 cap none, le-ltb 0 n behind) refl

bounded : (b : Bool) (n most : ℕ) → n ≤ most → (if b then 1 + n else 0) ≤ 1 + most
bounded true n most low = omega (arith, low)
bounded false n most low = omega arith

-- a class that has a capacity is among those up to the greatest that has
pub classes_in-above : (caps : List ℕ) (c : ℕ) → 0 < slice_index caps c → c < classes_in caps
classes_in-above [] c some = absurd (omega (arith, some))
classes_in-above (cap ∷ caps) zero some = rw (lt-ltb 0 cap some) (omega arith)
classes_in-above (cap ∷ caps) (suc c) some =
    let there : c < classes_in caps = classes_in-above caps c some in
    omega (arith, there, counted (nat_lt 0 cap) (classes_in caps) (omega (arith, there)))

-- these are no more than n where no class from n on has a capacity
pub classes_in-upto : (caps : List ℕ) (n : ℕ) → ((c : ℕ) → n ≤ c → slice_index caps c ≡ 0)
    → classes_in caps ≤ n
classes_in-upto [] n none = omega arith
classes_in-upto (cap ∷ caps) zero none =
    omega (
      arith,
      uncounted cap (classes_in caps) (omega (arith, none 0 (omega arith)))
          (classes_in-upto caps 0 (λ c from. none (suc c) (omega arith))),
    )
classes_in-upto (cap ∷ caps) (suc n) none =
    omega (
      arith,
      bounded (nat_lt 0 cap || nat_lt 0 (classes_in caps)) (classes_in caps) n
          (classes_in-upto caps n (λ c from. none (suc c) (omega (arith, from)))),
    )

-- a row of 32 capacities, of which none from n on is there
pub widest_shifted : (caps : List ℕ) (n : ℕ) → length caps ≡ 32 → n ≤ 32 → n ≤ classes_in caps
    → ((c : ℕ) → n ≤ c → c < 32 → slice_index caps c ≡ 0)
    → (1 ≤ 1 * 2 ^ n % 18446744073709551616) × (1 * 2 ^ n % 18446744073709551616 - 1 ≡ widest_of caps)
widest_shifted caps n long low some none =
    let few : classes_in caps ≤ n = classes_in-upto caps n (λ c from. elim (cases_lt c 32) [
      | inl within ↦ none c from within
      | inr past ↦ get_or_past caps c 0 (omega (arith, long, past))
    ]) in
    let same : n ≡ classes_in caps = omega (arith, few, some) in
    let top : 2 ^ n ≤ 2 ^ 32 = power_rises n 32 low in
    let all : 1 * 2 ^ n % 18446744073709551616 ≡ 2 ^ n =
    mod-eq_of_lt (omega (arith, top)) ∙ omega arith in (
      omega (arith, all, power_rises 0 n (omega arith)),
      ap (λ m. m - 1) all ∙ ap (λ m. 2 ^ m - 1) same,
    )
