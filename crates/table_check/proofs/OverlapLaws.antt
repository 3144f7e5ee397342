-- Records that share no byte, in the order of their places.
use Rattle.std.specs.Prelude.{◌≡◌, ◌⊎◌, ℕ, ◌+◌, ◌<◌, ◌≤◌, List, length, slice_index}
use Rattle.std.proofs.Common.{arith, ap, inl, inr, subst}
use Rattle.std.proofs.lemmas.Bool.{cases_lt, lt-ltb, ltb-true}
use Rattle.table_rules.specs.Tables.{Apart, end_of_record}
use Rattle.extent_table.specs.Extents.{Extents}
use Rattle.table_check.specs.Orders.{IsByPlace, has_bytes}
use Rattle.table_check.specs.Placed.{ranked}
use Rattle.table_check.proofs.RankLaws.{differ, each_passes, found}

-- each of the records below n shares no byte with any before it
abbrev pub AreApart : Extents → ℕ → Type 0
AreApart e n = (i : ℕ) → i < n → (h : ℕ) → h < i → Apart (ranked e h) (ranked e i)

-- each record of an order ends before the next one begins
abbrev pub NeighboursApart : Extents → List ℕ → Type 0
NeighboursApart e order = (p : ℕ) → p + 1 < length order
    → end_of_record (ranked e (slice_index order p)) ≤ (ranked e (slice_index order (p + 1))).place

module _ (e : Extents) (n : ℕ) (order : List ℕ) (by : IsByPlace e (has_bytes e) n order) where
  far : NeighboursApart e order → (a b : ℕ) → a < b → b < length order
      → end_of_record (ranked e (slice_index order a)) ≤ (ranked e (slice_index order b)).place
  far near a b less high =
      omega (arith, near a (omega arith), by.rising (a + 1) b 0 (omega arith) high)

  some_bytes : (q : ℕ) → q < length order → 0 < (ranked e (slice_index order q)).size
  some_bytes q low = ltb-true 0 (ranked e (slice_index order q)).size
      (each_passes (has_bytes e) n order by.same q low).1

  pub apart_from_near : NeighboursApart e order → AreApart e n
  apart_from_near near i high h less =
      elim (cases_lt 0 (ranked e h).size) [
        | inr none ↦ inl (omega (arith, none))
        | inl some ↦ elim (cases_lt 0 (ranked e i).size) [
          | inr none ↦ inr (inl (omega (arith, none)))
          | inl more ↦
              let a = found (has_bytes e) n order by.same h (omega arith) (lt-ltb 0 (ranked e h).size some) in
              let b = found (has_bytes e) n order by.same i high (lt-ltb 0 (ranked e i).size more) in
              elim (cases_lt a.0 b.0) [
                | inl before ↦ inr (inr (inl (subst (λ x. end_of_record (ranked e x) ≤ (ranked e i).place) a.2
                    (subst (λ y. end_of_record (ranked e (slice_index order a.0)) ≤ (ranked e y).place) b.2
                    (far near a.0 b.0 before b.1)))))
                | inr behind ↦ elim (cases_lt b.0 a.0) [
                  | inl after ↦ inr (inr (inr (subst
                      (λ x. end_of_record (ranked e i) ≤ (ranked e x).place) a.2
                      (subst (λ y. end_of_record (ranked e y) ≤ (ranked e (slice_index order a.0)).place) b.2
                      (far near b.0 a.0 after a.1)))))
                  | inr same ↦ let one : a.0 ≡ b.0 = omega (arith, behind, same) in
                      absurd (omega (arith, less, a.2, b.2, ap (slice_index order) one))
                ]
              ]
        ]
      ]

  -- two records that share no byte, the first of which begins no later
  in_turn : (r s : ℕ) → 0 < (ranked e r).size → 0 < (ranked e s).size
      → (ranked e r).place ≤ (ranked e s).place
      → Apart (ranked e r) (ranked e s) ⊎ Apart (ranked e s) (ranked e r)
      → end_of_record (ranked e r) ≤ (ranked e s).place
  in_turn r s some more order (inl apart) = omega (arith, some, more, order, apart)
  in_turn r s some more order (inr apart) = omega (arith, some, more, order, apart)

  pub near_from_apart : AreApart e n → NeighboursApart e order
  near_from_apart all p high =
      let r = slice_index order p in
      let s = slice_index order (p + 1) in
      let low : p < length order = omega arith in
      let at_r = each_passes (has_bytes e) n order by.same p low in
      let at_s = each_passes (has_bytes e) n order by.same (p + 1) high in
      let other = differ (has_bytes e) n order by.same p (p + 1) (omega arith) high in
      in_turn r s (some_bytes p low) (some_bytes (p + 1) high) (by.rising p (p + 1) 0 (omega arith) high)
      (elim (cases_lt r s) [
        | inl less ↦ inl (all s at_s.0 r less)
        | inr above ↦ elim (cases_lt s r) [
          | inl more ↦ inr (all r at_r.0 s more)
          | inr most ↦ absurd (other (omega arith))
        ]
      ])

-- one record more
pub apart_more : (e : Extents) (n m : ℕ) → m ≤ n + 1 → AreApart e n
    → ((h : ℕ) → h < n → Apart (ranked e h) (ranked e n)) → AreApart e m
apart_more e n m most all last i high h less = elim (cases_lt i n) [
  | inl low ↦ all i low h less
  | inr above ↦ let e' : n ≡ i = omega (arith, above, high, most) in
      subst (λ x. Apart (ranked e h) (ranked e x)) e' (last h (omega (arith, less, e')))
]
