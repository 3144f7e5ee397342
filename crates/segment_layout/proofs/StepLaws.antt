-- One term more of counts, and of sums over classes and over what passes a test.
use Rattle.std.specs.Prelude.{◌≡◌, ℕ, zero, suc, ◌+◌, ◌<◌, ◌≤◌, ◌-◌, ◌*◌, ◌%◌, ◌^◌, Bool, cond, List, [], ◌∷◌, ◌++◌, length, filter, map, take, sum, sum_by, slice_index, slice_index_or}
use Rattle.std.proofs.Common.{arith, ap, sym, ◌∙◌, inl, inr, add-zero}
use Rattle.std.proofs.lemmas.Bool.{cases_lt, cases_Bool, cond-true, cond-false}
use Rattle.std.proofs.lemmas.List.{get_or_past, take_all, map-append}
use Rattle.std.proofs.lemmas.List.Elements.{filter_more}
use Rattle.std.proofs.lemmas.List.Sums.{sum_by-append, sum_by-cons}
use Rattle.std.proofs.lemmas.Nat.{one_shl}
use Rattle.byte_ranges.specs.Lists.{below, counting_from, sum_below}
use Rattle.size_class.proofs.ClassLaws.{power_next}
use Rattle.segment_layout.specs.Shapes.{buffer_of, end_of, start_of}
use Rattle.segment_layout.proofs.ShapeLaws.{end_of-next, buffer_of-zero}

-- ---- numbers that are counted up

pub counting_more : (first n : ℕ) → counting_from first (n + 1) ≡ counting_from first n ++ (first + n) ∷ []
counting_more first zero = λ i. (let e : first ≡ first + 0 = omega arith in e i) ∷ []
counting_more first (suc n) =
    let e : first + 1 + n ≡ first + suc n = omega arith in
    (let one : suc n + 1 ≡ suc (n + 1) = omega arith in ap (counting_from first) one)
    ∙ ap (λ xs. first ∷ xs) (counting_more (first + 1) n)
    ∙ ap (λ x. first ∷ counting_from (first + 1) n ++ x ∷ []) e

pub below_next : (n : ℕ) → below (n + 1) ≡ below n ++ n ∷ []
unfolding below
below_next n = counting_more 0 n ∙ (let e : 0 + n ≡ n = omega arith in
    ap (λ x. counting_from 0 n ++ x ∷ []) e)

-- ---- sums

pub sum_below_next : (n : ℕ) (f : ℕ → ℕ) → sum_below (n + 1) f ≡ sum_below n f + f n
unfolding sum_below
sum_below_next n f =
    ap (λ xs. sum (map f xs)) (below_next n)
    ∙ ap sum (map-append f (below n) (n ∷ []))
    ∙ sum_by-append (λ x. x) (map f (below n)) (f n ∷ [])
    ∙ (let e : sum_by (λ (x : ℕ). x) (f n ∷ []) ≡ f n = sum_by-cons (λ (x : ℕ). x) (f n) []
    ∙ add-zero (f n) in ap (λ x. sum (map f (below n)) + x) e)

-- a sum over the classes from a boundary on, with one class more
pub from_next : (f : ℕ → ℕ) (b c : ℕ) → b ≤ c
    → sum_by f (counting_from b (c + 1 - b)) ≡ sum_by f (counting_from b (c - b)) + f c
from_next f b c h =
    let one : c + 1 - b ≡ c - b + 1 = omega arith in
    let at : b + (c - b) ≡ c = omega arith in
    ap (λ n. sum_by f (counting_from b n)) one
    ∙ ap (sum_by f) (counting_more b (c - b))
    ∙ sum_by-append f (counting_from b (c - b)) ((b + (c - b)) ∷ [])
    ∙ (let e : sum_by f ((b + (c - b)) ∷ []) ≡ f c = sum_by-cons f (b + (c - b)) []
    ∙ add-zero (f (b + (c - b))) ∙ ap f at in ap (λ x. sum_by f (counting_from b (c - b)) + x) e)

-- a sum over what passes a test, with one element more
pub passing_more : {A : Type 0} (f : A → ℕ) (p : A → Bool) (xs : List A) (i : ℕ) (other : A) → i < length xs
    → sum_by f (filter p (take (i + 1) xs))
    ≡ sum_by f (filter p (take i xs)) + cond (p (slice_index_or xs i other)) (f (slice_index_or xs i other)) 0
passing_more {A} f p xs i other h =
    let x = slice_index_or xs i other in
    ap (sum_by f) (filter_more p xs i other h)
    ∙ sum_by-append f (filter p (take i xs)) (cond (p x) (x ∷ []) [])
    ∙ ap (λ n. sum_by f (filter p (take i xs)) + n) (last (p x) x)
  where
    last : (b : Bool) (x : A) → sum_by f (cond b (x ∷ []) []) ≡ cond b (f x) 0
    last b x = elim (cases_Bool b) [
      | inl is ↦ ap (sum_by f) (cond-true b (x ∷ []) [] is)
          ∙ sum_by-cons f x [] ∙ add-zero (f x) ∙ sym (cond-true b (f x) 0 is)
      | inr other ↦ ap (sum_by f) (cond-false b (x ∷ []) [] other) ∙ sym (cond-false b (f x) 0 other)
    ]

-- ---- where the next segment starts

pub start_more : (k : ℕ) (caps : List ℕ) (c : ℕ)
    → start_of k caps (c + 1) ≡ start_of k caps c + (slice_index caps c + buffer_of k (slice_index caps c))
start_more k caps c = elim (cases_lt c (length caps)) [
  | inl within ↦ end_of-next k caps c within
  | inr past ↦
      let one : take (c + 1) caps ≡ take c caps = take_all (c + 1) caps (omega arith)
      ∙ sym (take_all c caps past) in
      let none : slice_index caps c ≡ 0 = get_or_past caps c 0 past in
      ap (end_of k) one ∙ (let e : buffer_of k (slice_index caps c) ≡ 0 = ap (buffer_of k) none
      ∙ buffer_of-zero k in omega arith)
]

-- ---- powers of two below 2^32, as a program shifts them

pub shifted : (c : ℕ) → c < 32 → (1 * 2 ^ c) % 2 ^ 64 ≡ 2 ^ c
shifted c h = one_shl c 64 (omega arith)

pub shifted_twice : (c : ℕ) → c < 32 → (2 * 2 ^ c) % 2 ^ 64 ≡ 2 ^ (c + 1)
shifted_twice c h = (let e : 2 * 2 ^ c ≡ 1 * 2 ^ (c + 1) = omega (arith, power_next c) in
    ap (λ n. n % 2 ^ 64) e) ∙ one_shl (c + 1) 64 (omega arith)
