-- Halving what is left of a list in order: what stays known, and how the looks add up.
use Rattle.std.specs.Prelude.{◌≡◌, ℕ, ◌+◌, ◌*◌, ◌^◌, ◌<◌, ◌≤◌, List, Some, length, slice_get, slice_index_or}
use Rattle.std.proofs.Common.{arith, ap, inl, inr}
use Rattle.std.proofs.Math.Nat.{mul-le-mul_left}
use Rattle.std.proofs.lemmas.Bool.{cases_lt}
use Rattle.std.proofs.lemmas.Nat.{pow-add}
use Rattle.std.proofs.lemmas.Option.{get_or_from_slice_get}
use Rattle.span_math.specs.declared.span.Span.{Span}
use Rattle.held_guard.specs.Freed.{AreInOrder}

halves_product : (n w left p q : ℕ) → q ≡ p * 2 → p * (2 * (2 * left)) ≤ p * (2 * w) → p * 2 ≤ p * (2 * w)
    → p * (2 * w) ≤ 2 * n → (q ≤ 2 * n + 1) × (q * (2 * left) ≤ 2 * n)
halves_product n w left p q double less one h = (
  omega (arith, double, one, h),
  (let same : q * (2 * left) ≡ p * 2 * (2 * left) = ap (λ x. x * (2 * left)) double in
      omega (arith, same, less, h)),
)

-- one look more, after which at most half of the spans are left
pub one_look_more : (n w left r : ℕ) → 0 < w → 2 * left ≤ w → 2 ^ r * (2 * w) ≤ 2 * n
    → (2 ^ (r + 1) ≤ 2 * n + 1) × (2 ^ (r + 1) * (2 * left) ≤ 2 * n)
one_look_more n w left r some half h =
    halves_product n w left (2 ^ r) (2 ^ (r + 1)) (pow-add 2 r 1)
    (mul-le-mul_left (2 ^ r) (omega (arith, half)))
    (mul-le-mul_left {m = 2} {n = 2 * w} (2 ^ r) (omega (arith, some))) h

-- the last look doubles the bound
pub last_look : (n r : ℕ) → 2 ^ r ≤ 2 * n + 1 → 2 ^ (r + 1) ≤ 4 * n + 2
last_look n r h = omega (arith, pow-add 2 r 1, h)

module _ (spans : List Span) (o : AreInOrder spans) (end middle : ℕ) (a : Span)
    (is : slice_get spans middle ≡ Some a) (within : middle < length spans)
  where
    read : (d : Span) → slice_index_or spans middle d ≡ a
    read d = get_or_from_slice_get spans middle a d is

    -- the span at the middle begins before the end, and so does each before it
    pub below_middle : a.place < end → (k : ℕ) (d : Span) → k < middle + 1
        → (slice_index_or spans k d).place < end
    below_middle h k d low =
        elim (cases_lt k middle) [
          | inl less ↦ omega (arith, h, ap (λ (s : Span). s.place) (read d), o.order k middle d less within)
          | inr last ↦ (let at : k ≡ middle = omega (arith, low, last) in
              omega (
                arith,
                h,
                ap (λ (j : ℕ). (slice_index_or spans j d).place) at,
                ap (λ (s : Span). s.place) (read d),
              ))
        ]

    -- it doesn't, and no later one does
    pub above_middle : end ≤ a.place → (k : ℕ) (d : Span) → middle ≤ k → k < length spans
        → end ≤ (slice_index_or spans k d).place
    above_middle h k d high low =
        elim (cases_lt middle k) [
          | inl less ↦ omega (arith, h, ap (λ (s : Span). s.place) (read d), o.order middle k d less low)
          | inr first ↦ (let at : k ≡ middle = omega (arith, high, first) in
              omega (
                arith,
                h,
                ap (λ (j : ℕ). (slice_index_or spans j d).place) at,
                ap (λ (s : Span). s.place) (read d),
              ))
        ]
