-- The last span of a list in order that begins before another ends is the only one that may meet it.
use Rattle.std.specs.Prelude.{◌≡◌, ℕ, ◌+◌, ◌-◌, ◌<◌, ◌≤◌, All, Any, List, Some, length, slice_get, slice_index_or}
use Rattle.std.proofs.Common.{arith, sym, ◌∙◌, ap, inl, inr, subst}
use Rattle.std.proofs.lemmas.Bool.{cases_lt}
use Rattle.std.proofs.lemmas.Option.{get_or_from_slice_get}
use Rattle.span_math.specs.Spans.{IsApart, SharesByte}
use Rattle.span_math.specs.declared.span.Span.{Span}
use Rattle.held_guard.specs.Freed.{AreInOrder}

module _ (spans : List Span) (o : AreInOrder spans) (s : Span) (end : ℕ) (ends_at : end ≡ s.place + s.size)
    (n : ℕ) (within : n ≤ length spans)
    (below : (k : ℕ) (d : Span) → k < n → (slice_index_or spans k d).place < end)
    (above : (k : ℕ) (d : Span) → n ≤ k → k < length spans → end ≤ (slice_index_or spans k d).place)
  where
    module _ (some : 0 < n) (last : Span) (is : slice_get spans (n - 1) ≡ Some last) where
      abbrev At : ℕ → Span → Span
      At k d = slice_index_or spans k d

      read : (d : Span) → At (n - 1) d ≡ last
      read d = get_or_from_slice_get spans (n - 1) last d is

      begins : last.place < s.place + s.size
      begins = omega (
        arith,
        ends_at,
        subst (λ (x : Span). x.place < end) (read last) (below (n - 1) last (omega (arith, some))),
      )

      filled : 0 < last.size
      filled = subst (λ (x : Span). 0 < x.size) (read last)
          (o.some (n - 1) last (omega (arith, some, within)))

      ends : (k : ℕ) (d : Span) → k < n - 1 → (At k d).place + (At k d).size ≤ last.place
      ends k d low = subst (λ (x : Span). (At k d).place + (At k d).size ≤ x.place) (read d)
          (o.order k (n - 1) d low (omega (arith, some, within)))

      -- one of those before it is as far from the other span as it is itself
      before_apart : (a : Span) → a.place + a.size ≤ last.place → IsApart last s → IsApart a s
      before_apart a low (inl none) = absurd (omega (arith, filled, none))
      before_apart a low (inr (inl none)) = inr (inl none)
      before_apart a low (inr (inr (inl h))) = inr (inr (inl (omega (arith, low, h))))
      before_apart a low (inr (inr (inr h))) = absurd (omega (arith, begins, h))

      -- where it is apart from the other span, each is
      pub all_apart : IsApart last s → All (λ a. IsApart a s) spans
      all_apart h k d low =
          elim (cases_lt k (n - 1)) [
            | inl less ↦ before_apart (At k d) (ends k d less) h
            | inr high ↦ elim (cases_lt k n) [
              | inl at ↦ (let same : k ≡ n - 1 = omega (arith, at, high) in
                  subst (λ (x : Span). IsApart x s) (sym (ap (λ (j : ℕ). At j d) same ∙ read d)) h)
              | inr past ↦ inr (inr (inr (omega (arith, ends_at, above k d past low))))
            ]
          ]

      -- where one shares a byte with the other span, it does
      one_shares : (a : Span) → a.place + a.size ≤ last.place → SharesByte a s → SharesByte last s
      one_shares a low h = (filled, h.1, begins, omega (arith, low, h.0, h.2, h.3, filled))

      pub last_shares : Any (λ a. SharesByte a s) spans → SharesByte last s
      last_shares (k, a, low, is_at, h) =
          elim (cases_lt k (n - 1)) [
            | inl less ↦ one_shares a
                (subst (λ (x : Span). x.place + x.size ≤ last.place) is_at (ends k a less)) h
            | inr high ↦ elim (cases_lt k n) [
              | inl at ↦ (let same : k ≡ n - 1 = omega (arith, at, high) in
                  subst (λ (x : Span). SharesByte x s) (sym is_at ∙ ap (λ (j : ℕ). At j a) same ∙ read a) h)
              | inr past ↦ absurd (omega (
                arith,
                h.2,
                ends_at,
                subst (λ (x : Span). end ≤ x.place) is_at (above k a past low),
              ))
            ]
          ]

      -- where it shares a byte, one does
      pub any_shares : SharesByte last s → Any (λ a. SharesByte a s) spans
      any_shares h = (n - 1, last, omega (arith, some, within), read last, h)
