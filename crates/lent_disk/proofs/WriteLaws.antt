-- Laws of writes, byte by byte: which writes are one, and which may change places.
use Rattle.std.specs.Prelude.{◌≡◌, ◌⊎◌, ℕ, ◌+◌, ◌-◌, ◌<◌, ◌≤◌, List, length, slice_index}
use Rattle.std.proofs.Common.{arith, sym, ◌∙◌, rules, inl, inr}
use Rattle.std.proofs.lemmas.Bool.Decides.{leb_tells}
use Rattle.std.proofs.lemmas.List.{places}
use Rattle.std.proofs.lemmas.Grind.{same_number_lists}
use Rattle.byte_ranges.specs.Ranges.{SameOutside, overwritten}
use Rattle.byte_ranges.proofs.RangeLaws.{length-overwritten}

-- ---- positions

-- a position is in a range, or outside
abbrev pub In : ℕ → ℕ → ℕ → Type 0
In at after i = (at ≤ i) × (i < after)

abbrev pub Out : ℕ → ℕ → ℕ → Type 0
Out at after i = (i < at) ⊎ (after ≤ i)

pub in_or_out : (at after i : ℕ) → In at after i ⊎ Out at after i
in_or_out at after i = elim (leb_tells at i) [
  | inl low ↦ elim (leb_tells after i) [ inl high ↦ inr (inr high.1) | inr high ↦ inl (low.1, high.1) ]
  | inr low ↦ inr (inl low.1)
]

-- ---- a write

module _ (file : List ℕ) (at : ℕ) (bytes : List ℕ) (within : at + length bytes ≤ length file) where
  written-in : (i : ℕ) → In at (at + length bytes) i
      → slice_index (overwritten file at bytes) i ≡ slice_index bytes (i - at)
  written-in i (low, high) = search (rules, places)

  written-out : (i : ℕ) → Out at (at + length bytes) i
      → slice_index (overwritten file at bytes) i ≡ slice_index file i
  written-out i (inl low) = search (rules, places)
  written-out i (inr high) = search (rules, places)

-- over files that are alike outside, a write makes one
pub overwritten-same : (a b : List ℕ) (at : ℕ) (bytes : List ℕ) → at + length bytes ≤ length a
    → SameOutside at (length bytes) a b → overwritten a at bytes ≡ overwritten b at bytes
overwritten-same a b at bytes in_a same =
    let in_b : at + length bytes ≤ length b = omega (arith, in_a, same.same_length) in
    same_number_lists _ _ (length-overwritten a at bytes in_a ∙ same.same_length
    ∙ sym (length-overwritten b at bytes in_b)) (λ i h. elim (in_or_out at (at + length bytes) i) [
      | inl is ↦ written-in a at bytes in_a i is ∙ sym (written-in b at bytes in_b i is)
      | inr (inl low) ↦ written-out a at bytes in_a i (inl low) ∙ same.below i low
          ∙ sym (written-out b at bytes in_b i (inl low))
      | inr (inr high) ↦ written-out a at bytes in_a i (inr high) ∙ same.above i high
          ∙ sym (written-out b at bytes in_b i (inr high))
    ])

-- two writes are one in both orders, where they agree
module _ (file : List ℕ) (a : ℕ) (x : List ℕ) (b : ℕ) (y : List ℕ) (in_a : a + length x ≤ length file)
    (in_b : b + length y ≤ length file) where
  still : a + length x ≤ length (overwritten file b y)
  still = omega (arith, in_a, length-overwritten file b y in_b)

  also : b + length y ≤ length (overwritten file a x)
  also = omega (arith, in_b, length-overwritten file a x in_a)

  long : length (overwritten (overwritten file a x) b y) ≡ length (overwritten (overwritten file b y) a x)
  long = length-overwritten (overwritten file a x) b y also ∙ length-overwritten file a x in_a
      ∙ sym (length-overwritten (overwritten file b y) a x still ∙ length-overwritten file b y in_b)

  module _ (agree : (i : ℕ) → In a (a + length x) i → In b (b + length y) i
      → slice_index x (i - a) ≡ slice_index y (i - b)) where
    commutes_at : (i : ℕ) → In a (a + length x) i ⊎ Out a (a + length x) i
        → In b (b + length y) i ⊎ Out b (b + length y) i
        → slice_index (overwritten (overwritten file a x) b y) i
        ≡ slice_index (overwritten (overwritten file b y) a x) i
    commutes_at i (inl p) (inl q) = written-in (overwritten file a x) b y also i q ∙ sym (agree i p q)
        ∙ sym (written-in (overwritten file b y) a x still i p)
    commutes_at i (inl p) (inr q) = written-out (overwritten file a x) b y also i q
        ∙ written-in file a x in_a i p ∙ sym (written-in (overwritten file b y) a x still i p)
    commutes_at i (inr p) (inl q) = written-in (overwritten file a x) b y also i q
        ∙ sym (written-out (overwritten file b y) a x still i p ∙ written-in file b y in_b i q)
    commutes_at i (inr p) (inr q) = written-out (overwritten file a x) b y also i q
        ∙ written-out file a x in_a i p
        ∙ sym (written-out (overwritten file b y) a x still i p ∙ written-out file b y in_b i q)

    pub overwritten-commutes : overwritten (overwritten file a x) b y ≡ overwritten (overwritten file b y) a x
    overwritten-commutes = same_number_lists _ _ long (λ i h.
        commutes_at i (in_or_out a (a + length x) i) (in_or_out b (b + length y) i))
