-- A span that meets none of a list in order joins it in its place.
use Rattle.std.specs.Prelude.{◌≡◌, ◌⊎◌, ℕ, ◌+◌, ◌-◌, ◌<◌, ◌≤◌, All, Contains, List, insert, length, slice_index_or}
use Rattle.std.proofs.Common.{arith, sym, ◌∙◌, ap, inl, inr, subst}
use Rattle.std.proofs.lemmas.Bool.{cases_lt}
use Rattle.std.proofs.lemmas.List.Edits.{length-insert, get_or-insert_at, get_or-insert_above, get_or-insert_below}
use Rattle.span_math.specs.Spans.{IsApart}
use Rattle.span_math.specs.declared.span.Span.{Span}
use Rattle.held_guard.specs.Freed.{AreInOrder, Joins}

module _ (spans : List Span) (s : Span) (n : ℕ) (within : n ≤ length spans) where
  abbrev With : List Span
  With = insert spans n s

  long : length With ≡ length spans + 1
  long = length-insert spans n s within

  -- a span after the one that joined stood one place lower
  above_is : (k : ℕ) (d : Span) → n < k → slice_index_or With k d ≡ slice_index_or spans (k - 1) d
  above_is k d high =
      ap (λ (j : ℕ). slice_index_or With j d) (let one : k ≡ k - 1 + 1 = omega (arith, high) in one)
      ∙ get_or-insert_above spans n s d (k - 1) (omega (arith, high)) within

  -- each place of the longer list has the span, or one of those before
  abbrev Stands : ℕ → Span → Type 0
  Stands k d = (slice_index_or With k d ≡ s) ⊎ ((j : ℕ) × (j < length spans)
      × (slice_index_or With k d ≡ slice_index_or spans j d))

  stands : (k : ℕ) (d : Span) → k < length With → Stands k d
  stands k d low =
      elim (cases_lt k n) [
        | inl less ↦ inr (k, omega (arith, less, within), get_or-insert_below spans n s d k less within)
        | inr high ↦ elim (cases_lt n k) [
          | inl past ↦ inr (k - 1, omega (arith, past, low, long), above_is k d past)
          | inr at ↦ inl (ap (λ (j : ℕ). slice_index_or With j d)
              (let same : k ≡ n = omega (arith, high, at) in same)
              ∙ get_or-insert_at spans n s d within)
        ]
      ]

  kept : (x : Span) → Contains spans x → Contains With x
  kept x (k, low, is) =
      elim (cases_lt k n) [
        | inl less ↦ (k, omega (arith, low, long), get_or-insert_below spans n s x k less within ∙ is)
        | inr high ↦ (k + 1, omega (arith, low, long), get_or-insert_above spans n s x k high within ∙ is)
      ]

  only : (x : Span) → Contains With x → Contains spans x ⊎ (x ≡ s)
  only x (k, low, is) =
      elim (stands k x low) [
        | inl one ↦ inr (sym is ∙ one)
        | inr (j, less, old) ↦ inl (j, less, sym old ∙ is)
      ]

  pub joined : Joins s spans With
  joined = record {
    kept = kept;
    joined = (n, omega (arith, long, within), get_or-insert_at spans n s s within);
    only = only;
    count = long;
  }

  abbrev Follows : Span → Span → Type 0
  Follows a b = a.place + a.size ≤ b.place

  follows_as : (a b a' b' : Span) → a ≡ a' → b ≡ b' → Follows a' b' → Follows a b
  follows_as a b a' b' is is' h = subst (λ (x : Span). Follows x b) (sym is) (subst (Follows a') (sym is') h)

  module _ (o : AreInOrder spans) (some : 0 < s.size) (apart : All (λ a. IsApart a s) spans)
      (end : ℕ) (ends_at : end ≡ s.place + s.size)
      (below : (k : ℕ) (d : Span) → k < n → (slice_index_or spans k d).place < end)
      (above : (k : ℕ) (d : Span) → n ≤ k → k < length spans → end ≤ (slice_index_or spans k d).place)
    where
      ends_apart : (a : Span) → 0 < a.size → a.place < end → IsApart a s → Follows a s
      ends_apart a filled begins (inl none) = absurd (omega (arith, filled, none))
      ends_apart a filled begins (inr (inl none)) = absurd (omega (arith, some, none))
      ends_apart a filled begins (inr (inr (inl h))) = h
      ends_apart a filled begins (inr (inr (inr h))) = absurd (omega (arith, ends_at, begins, h))

      -- each span that stands before the one that joined ends before it begins
      ends : (k : ℕ) (d : Span) → k < n → Follows (slice_index_or spans k d) s
      ends k d low = ends_apart (slice_index_or spans k d)
          (o.some k d (omega (arith, low, within))) (below k d low) (apart k d (omega (arith, low, within)))

      each_some : All (λ a. 0 < a.size) With
      each_some k d low =
          elim (stands k d low) [
            | inl one ↦ subst (λ (x : Span). 0 < x.size) (sym one) some
            | inr (j, less, old) ↦ subst (λ (x : Span). 0 < x.size) (sym old) (o.some j d less)
          ]

      below_is : (k : ℕ) (d : Span) → k < n → slice_index_or With k d ≡ slice_index_or spans k d
      below_is k d low = get_or-insert_below spans n s d k low within

      at_is : (k : ℕ) (d : Span) → k ≡ n → slice_index_or With k d ≡ s
      at_is k d at = ap (λ (j : ℕ). slice_index_or With j d) at ∙ get_or-insert_at spans n s d within

      -- what stands behind the span that joined
      past : (i j : ℕ) (d : Span) → i < j → j < length With → n < j → (i < n) ⊎ (n ≤ i)
          → Follows (slice_index_or With i d) (slice_index_or With j d)
      past i j d less low high (inl before) =
          follows_as _ _ _ _ (below_is i d before) (above_is j d high)
          (o.order i (j - 1) d (omega (arith, less, high, before)) (omega (arith, low, long, high)))
      past i j d less low high (inr from) =
          elim (cases_lt n i) [
            | inl after ↦ follows_as _ _ _ _ (above_is i d after) (above_is j d high)
                (o.order (i - 1) (j - 1) d (omega (arith, less, after)) (omega (arith, low, long, high)))
            | inr at ↦ follows_as _ _ _ _ (at_is i d (omega (arith, from, at))) (above_is j d high)
                (omega (
                  arith,
                  ends_at,
                  above (j - 1) d (omega (arith, high)) (omega (arith, low, long, high)),
                ))
          ]

      pairs : (i j : ℕ) (d : Span) → i < j → j < length With
          → Follows (slice_index_or With i d) (slice_index_or With j d)
      pairs i j d less low =
          elim (cases_lt n j) [
            | inl high ↦ past i j d less low high (cases_lt i n)
            | inr upto ↦ elim (cases_lt j n) [
              | inl before ↦ follows_as _ _ _ _ (below_is i d (omega (arith, less, before)))
                  (below_is j d before)
                  (o.order i j d less (omega (arith, before, within)))
              | inr at ↦ follows_as _ _ _ _ (below_is i d (omega (arith, less, upto)))
                  (at_is j d (omega (arith, upto, at))) (ends i d (omega (arith, less, upto)))
            ]
          ]

      pub in_order : AreInOrder With
      in_order = record { some = each_some; order = pairs }
