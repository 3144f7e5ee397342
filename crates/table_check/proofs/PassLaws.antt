-- A pass over an order that keeps the least record at which something doesn't hold.
use Rattle.std.specs.Prelude.{◌≡◌, ◌⊎◌, ℕ, ◌<◌, ◌≤◌, min, List, length, slice_index}
use Rattle.std.proofs.Common.{arith, ap, sym, inl, inr, subst}
use Rattle.std.proofs.lemmas.Bool.{cases_lt}
use Rattle.table_check.specs.Firsts.{IsLeast}

-- at the positions that are done, a record is no less than the least one, or P holds of it
pub record PassSoFar (P : ℕ → Type 0) (n : ℕ) (order : List ℕ) (Done : ℕ → Type 0) (least : ℕ) : Type 0 where
  pub within : least ≤ n
  pub each : (q : ℕ) → Done q → q < length order → (least ≤ slice_index order q) ⊎ P (slice_index order q)
  pub broken : least < n → P least → ⊥

module _ (P : ℕ → Type 0) (n : ℕ) (order : List ℕ) where
  pub pass_none : (Done : ℕ → Type 0) → ((q : ℕ) → Done q → q < length order → ⊥)
      → PassSoFar P n order Done n
  pass_none Done none = record {
    within = omega arith;
    each = λ q done low. absurd (none q done low);
    broken = λ less. absurd (omega (arith, less));
  }

  module _ (Done Next : ℕ → Type 0) (least at : ℕ) (h : PassSoFar P n order Done least)
      (step : (q : ℕ) → Next q → Done q ⊎ (q ≡ at)) where
    pub pass_holds : P (slice_index order at) → PassSoFar P n order Next least
    pass_holds here = record {
      within = h.within;
      each = λ q next low. elim (step q next) [
        | inl done ↦ h.each q done low
        | inr e ↦ inr (subst (λ x. P (slice_index order x)) (sym e) here)
      ];
      broken = h.broken;
    }

    pub pass_breaks : slice_index order at < n → (P (slice_index order at) → ⊥)
        → PassSoFar P n order Next (min least (slice_index order at))
    pass_breaks low broken =
        let r = slice_index order at in
        record {
          within = omega (arith, h.within);
          each = λ q next low. elim (step q next) [
            | inl done ↦ elim (h.each q done low) [
              | inl less ↦ inl (omega (arith, less))
              | inr holds ↦ inr holds
            ]
            | inr e ↦ inl (omega (arith, ap (slice_index order) e))
          ];
          broken = λ less holds. elim (cases_lt least r) [
            | inl lower ↦
                let e : min least r ≡ least = omega (arith, lower) in
                h.broken (omega (arith, less, e)) (subst P e holds)
            | inr higher ↦
                let e : min least r ≡ r = omega (arith, higher) in
                broken (subst P e holds)
          ];
        }

  -- once all is done
  pub pass_ends : (Done : ℕ → Type 0) (least : ℕ) → PassSoFar P n order Done least
      → ((q : ℕ) → q < length order → Done q)
      → ((i : ℕ) → i < n → P i ⊎ ((q : ℕ) × (q < length order) × (slice_index order q ≡ i)))
      → IsLeast P n least
  pass_ends Done least h all known = record {
    within = h.within;
    before = λ i less. elim (known i (omega (arith, less, h.within))) [
      | inl holds ↦ holds
      | inr at ↦ elim (h.each at.0 (all at.0 at.1) at.1) [
        | inl low ↦ absurd (omega (arith, low, at.2, less))
        | inr holds ↦ subst P at.2 holds
      ]
    ];
    broken = h.broken;
  }
