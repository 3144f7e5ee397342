-- Sums over a list, compared at what the list has, and sums of sizes of objects that share no byte.
use Rattle.std.specs.Prelude.{◌≡◌, ◌≢◌, ◌⊎◌, ℕ, zero, suc, ◌+◌, ◌-◌, ◌<◌, ◌≤◌, nat_le, Bool, true, false, ◌&&◌, cond, List, [], ◌∷◌, length, filter, sum_by, slice_index_or, Contains, IsPermutation, refl, Some, slice_get}
use Rattle.std.proofs.Common.{arith, sym, ◌∙◌, ap, subst, inl, inr}
use Rattle.std.proofs.lemmas.Bool.{both_ways, cases_order, cases_Bool, cond-true, cond-false, leb-true, le-leb, and_parts, and_from, and_left}
use Rattle.std.proofs.lemmas.List.Sums.{sum_by-cons}
use Rattle.std.proofs.lemmas.List.Sorted.{sum_by-IsPermutation}
use Rattle.byte_ranges.specs.Lists.{counting_from}
use Rattle.segment_layout.proofs.ApartLaws.{ArePairsApart, apart_sum}
use Rattle.segment_layout.proofs.BookLaws.{sum_by-filter}
use Rattle.std.proofs.lemmas.Option.{slice_get-get_or}
use Rattle.segment_layout.proofs.SumLaws.{sum_by_same_places}

pub contains_here : {X : Type 0} (x : X) (xs : List X) → Contains (x ∷ xs) x
contains_here x xs = (0, omega arith, refl)

pub contains_later : {X : Type 0} (x y : X) (xs : List X) → Contains xs y → Contains (x ∷ xs) y
contains_later x y xs has = (suc has.0, omega (arith, has.1), has.2)

-- what stands in a list is got at its index
pub got_at : {X : Type 0} (x : X) (xs : List X) (has : Contains xs x) → slice_get xs has.0 ≡ Some x
got_at x xs has = slice_get-get_or xs has.0 x has.1 ∙ ap Some has.2

pub cond_at_most : (b : Bool) (size : ℕ) → cond b size 0 ≤ size
cond_at_most b size = elim (cases_Bool b) [
  | inl is ↦ omega (arith, cond-true b size 0 is)
  | inr other ↦ omega (arith, cond-false b size 0 other)
]

pub sum_by_le_in : {X : Type 0} (f g : X → ℕ) (xs : List X) → ((x : X) → Contains xs x → f x ≤ g x)
    → sum_by f xs ≤ sum_by g xs
sum_by_le_in f g [] each = omega arith
sum_by_le_in f g (x ∷ xs) each = omega (
  arith,
  sum_by-cons f x xs,
  sum_by-cons g x xs,
  each x (contains_here x xs),
  sum_by_le_in f g xs (λ y has. each y (contains_later x y xs has)),
)

pub sum_by_same_in : {X : Type 0} (f g : X → ℕ) (xs : List X) → ((x : X) → Contains xs x → f x ≡ g x)
    → sum_by f xs ≡ sum_by g xs
sum_by_same_in f g [] each = refl
sum_by_same_in f g (x ∷ xs) each =
    omega (
      arith,
      sum_by-cons f x xs,
      sum_by-cons g x xs,
      each x (contains_here x xs),
      sum_by_same_in f g xs (λ y has. each y (contains_later x y xs has)),
    )

pub sum_by_none_in : {X : Type 0} (f : X → ℕ) (xs : List X) → ((x : X) → Contains xs x → f x ≡ 0)
    → sum_by f xs ≡ 0
sum_by_none_in f [] each = refl
sum_by_none_in f (x ∷ xs) each = omega (
  arith,
  sum_by-cons f x xs,
  each x (contains_here x xs),
  sum_by_none_in f xs (λ y has. each y (contains_later x y xs has)),
)

more_at : {X : Type 0} (d : X) (f g : X → ℕ) (n k : ℕ) (xs : List X) → k < length xs
    → f (slice_index_or xs k d) + n ≤ g (slice_index_or xs k d) → ((x : X) → Contains xs x → f x ≤ g x)
    → sum_by f xs + n ≤ sum_by g xs
more_at d f g n k [] within more each = absurd (omega (arith, within))
more_at d f g n zero (x ∷ xs) within more each =
    omega (
      arith,
      more,
      sum_by-cons f x xs,
      sum_by-cons g x xs,
      sum_by_le_in f g xs (λ y has. each y (contains_later x y xs has)),
    )
more_at d f g n (suc k) (x ∷ xs) within more each =
    omega (
      arith,
      sum_by-cons f x xs,
      sum_by-cons g x xs,
      each x (contains_here x xs),
      more_at d f g n k xs (omega (arith, within)) more (λ y has. each y (contains_later x y xs has)),
    )

-- one function is at most another at each, and by n less at one
pub sum_by_more_in : {X : Type 0} (f g : X → ℕ) (m : X) (n : ℕ) (xs : List X) → Contains xs m → f m + n ≤ g m
    → ((x : X) → Contains xs x → f x ≤ g x) → sum_by f xs + n ≤ sum_by g xs
sum_by_more_in f g m n xs has more each =
    more_at m f g n has.0 xs has.1 (omega (arith, more, ap f has.2, ap g has.2)) each

-- two functions that differ at one place
pub sum_by_one_place : {X : Type 0} (d : X) (f g : X → ℕ) (k : ℕ) (xs : List X) → k < length xs
    → ((i : ℕ) → i < length xs → i ≢ k → f (slice_index_or xs i d) ≡ g (slice_index_or xs i d))
    → sum_by f xs + g (slice_index_or xs k d) ≡ sum_by g xs + f (slice_index_or xs k d)
sum_by_one_place d f g k [] within same = absurd (omega (arith, within))
sum_by_one_place d f g zero (x ∷ xs) within same =
    omega (
      arith,
      sum_by-cons f x xs,
      sum_by-cons g x xs,
      sum_by_same_places d f g xs (λ i h. same (suc i) (omega (arith, h)) (λ e. absurd (omega (arith, e)))),
    )
sum_by_one_place d f g (suc k) (x ∷ xs) within same =
    omega (
      arith,
      sum_by-cons f x xs,
      sum_by-cons g x xs,
      same 0 (omega arith) (λ e. absurd (omega (arith, e))),
      sum_by_one_place d f g k xs (omega (arith, within))
          (λ i h other. same (suc i) (omega (arith, h)) (λ e. other (omega (arith, e)))),
    )

pub sum_by_both : {X : Type 0} (f g : X → ℕ) (xs : List X)
    → sum_by (λ x. f x + g x) xs ≡ sum_by f xs + sum_by g xs
sum_by_both f g [] = refl
sum_by_both f g (x ∷ xs) = omega (
  arith,
  sum_by-cons f x xs,
  sum_by-cons g x xs,
  sum_by-cons (λ x. f x + g x) x xs,
  sum_by_both f g xs,
)

-- how many pass a test, as a sum
pub length_filter : {X : Type 0} (p : X → Bool) (xs : List X)
    → length (filter p xs) ≡ sum_by (λ x. cond (p x) 1 0) xs
length_filter p [] = refl
length_filter p (x ∷ xs) = elim (cases_Bool (p x)) [
  | inl passes ↦ omega (
    arith,
    ap length (cond-true (p x) (x ∷ filter p xs) (filter p xs) passes),
    length_filter p xs,
    sum_by-cons (λ x. cond (p x) 1 0) x xs,
    cond-true {A = ℕ} (p x) 1 0 passes,
  )
  | inr fails ↦ omega (
    arith,
    ap length (cond-false (p x) (x ∷ filter p xs) (filter p xs) fails),
    length_filter p xs,
    sum_by-cons (λ x. cond (p x) 1 0) x xs,
    cond-false {A = ℕ} (p x) 1 0 fails,
  )
]

-- a sum of sums, the other way round
pub sum_by_swap : {X Y : Type 0} (f : X → Y → ℕ) (xs : List X) (ys : List Y)
    → sum_by (λ x. sum_by (f x) ys) xs ≡ sum_by (λ y. sum_by (λ x. f x y) xs) ys
sum_by_swap f xs [] = sum_by_none_in (λ x. sum_by (f x) []) xs (λ x has. refl)
sum_by_swap f xs (y ∷ ys) =
    sum_by_same_in (λ x. sum_by (f x) (y ∷ ys)) (λ x. f x y + sum_by (f x) ys) xs
    (λ x has. sum_by-cons (f x) y ys)
    ∙ sum_by_both (λ x. f x y) (λ x. sum_by (f x) ys) xs
    ∙ ap (λ n. sum_by (λ x. f x y) xs + n) (sum_by_swap f xs ys)
    ∙ sym (sum_by-cons (λ y. sum_by (λ x. f x y) xs) y ys)

-- a sum over numbers in a row is that of the first ones and that of the rest, and at least each term
pub counting_split : (f : ℕ → ℕ) (first n m : ℕ)
    → sum_by f (counting_from first (n + m))
    ≡ sum_by f (counting_from first n) + sum_by f (counting_from (first + n) m)
counting_split f first zero m = ap (λ x. sum_by f (counting_from first x)) none
    ∙ ap (λ x. sum_by f (counting_from x m)) here ∙ add
  where
    none : 0 + m ≡ m
    none = omega arith

    here : first ≡ first + 0
    here = omega arith

    add : sum_by f (counting_from (first + 0) m) ≡ 0 + sum_by f (counting_from (first + 0) m)
    add = omega arith
counting_split f first (suc n) m =
    let one : suc n + m ≡ suc (n + m) = omega arith in
    let on : first + 1 + n ≡ first + suc n = omega arith in
    omega (
      arith,
      ap (λ x. sum_by f (counting_from first x)) one,
      sum_by-cons f first (counting_from (first + 1) (n + m)),
      sum_by-cons f first (counting_from (first + 1) n),
      counting_split f (first + 1) n m,
      ap (λ x. sum_by f (counting_from x m)) on,
    )

pub counting_term : (f : ℕ → ℕ) (first n j : ℕ) → first ≤ j → j < first + n
    → f j ≤ sum_by f (counting_from first n)
counting_term f first zero j low high = absurd (omega (arith, low, high))
counting_term f first (suc n) j low high =
    elim (cases_order first j) [
      | inl e ↦ omega (arith, sum_by-cons f first (counting_from (first + 1) n), ap f e)
      | inr (inl less) ↦ omega (
        arith,
        sum_by-cons f first (counting_from (first + 1) n),
        counting_term f (first + 1) n j (omega (arith, less)) (omega (arith, high)),
      )
      | inr (inr more) ↦ absurd (omega (arith, more, low))
    ]

-- ---- the first of a list that passes a test

pub contains_cases : {X : Type 0} (x y : X) (xs : List X) → Contains (x ∷ xs) y → (y ≡ x) ⊎ Contains xs y
contains_cases x y xs has = by has.0 has.1 has.2
  where
    by : (k : ℕ) → k < length (x ∷ xs) → slice_index_or (x ∷ xs) k y ≡ y → (y ≡ x) ⊎ Contains xs y
    by zero within is = inl (sym is)
    by (suc k) within is = inr (k, omega (arith, within), is)

module _ {X : Type 0} (R : X → X → Type 0) (total : (a b : X) → R a b ⊎ R b a)
    (trans : (a b c : X) → R a b → R b c → R a c) (p : X → Bool) where
  pub first_of_list : (xs : List X) → ((m : X) × Contains xs m × (p m ≡ true)
      × ((x : X) → Contains xs x → p x ≡ true → R m x)) ⊎ ((x : X) → Contains xs x → p x ≡ false)
  first_of_list [] = inr (λ x has. absurd (omega (arith, has.1)))
  first_of_list (x ∷ xs) =
      elim (cases_Bool (p x)) [
        | inr fails ↦ elim (first_of_list xs) [
          | inr none ↦ inr (λ y has. elim (contains_cases x y xs has) [
            | inl e ↦ ap p e
                ∙ fails
            | inr later ↦ none y later
          ])
          | inl f ↦ inl (
            f.0,
            contains_later x f.0 xs f.1,
            f.2,
            λ y has passes. elim (contains_cases x y xs has) [
              | inl e ↦ absurd
                  (both_ways (p x) fails (ap p (sym e) ∙ passes))
              | inr later ↦ f.3 y later passes
            ],
          )
        ]
        | inl passes ↦ elim (first_of_list xs) [
          | inr none ↦ inl (
            x,
            contains_here x xs,
            passes,
            λ y has is. elim (contains_cases x y xs has) [
              | inl e ↦ subst (R x) (sym e) (itself x)
              | inr
                  later ↦ absurd (both_ways (p y) (none y later) is)
            ],
          )
          | inl f ↦ elim (total x f.0) [
            | inl less ↦ inl (
              x,
              contains_here x xs,
              passes,
              λ y has is. elim (contains_cases x y xs has) [
                | inl e ↦ subst (R x) (sym e) (itself x)
                | inr
                    later ↦ trans x f.0 y less (f.3 y later is)
              ],
            )
            | inr more ↦ inl (
              f.0,
              contains_later x f.0 xs f.1,
              f.2,
              λ y has is. elim (contains_cases x y xs has) [
                | inl e ↦ subst (R f.0) (sym e) more
                | inr later
                    ↦ f.3 y later is
              ],
            )
          ]
        ]
      ]
    where
      itself : (a : X) → R a a
      itself a = elim (total a a) [ inl r ↦ r | inr r ↦ r ]

-- The one inequality. The chosen objects of a list lie within a range, and no two of the list share a byte:
-- together
-- they have at most as many bytes as the range.
module _ {X : Type 0} (place size : X → ℕ) (q : X → Bool) where
  pub apart_in : (low high : ℕ) (rs : List X) → ArePairsApart place size rs → low ≤ high
      → ((r : X) → Contains rs r → q r ≡ true → (low ≤ place r) × (place r + size r ≤ high))
      → low + sum_by (λ r. cond (q r) (size r) 0) rs ≤ high
  apart_in low high rs apart rises within =
      let p : X → Bool = λ r. q r && (nat_le low (place r) && nat_le (place r + size r) high) in
      let same : (r : X) → Contains rs r → cond (q r) (size r) 0 ≡ cond (p r) (size r) 0 = λ r has.
      elim (cases_Bool (q r)) [
        | inr fails ↦ cond-false (q r) (size r) 0 fails
            ∙ sym (cond-false (p r) (size r) 0
            (and_left (q r) (nat_le low (place r) && nat_le (place r + size r) high) fails))
        | inl passes ↦
            let h = within r has passes in
            cond-true (q r) (size r) 0 passes
            ∙ sym (cond-true (p r) (size r) 0 (and_from (q r)
            (nat_le low (place r) && nat_le (place r + size r) high) passes
            (and_from (nat_le low (place r)) (nat_le (place r + size r) high) (le-leb low (place r) h.0)
            (le-leb (place r + size r) high h.1))))
      ] in
      let inside : (r : X) → p r ≡ true → (low ≤ place r) × (place r + size r ≤ low + (high - low)) = λ r is.
      let parts = and_parts (nat_le low (place r)) (nat_le (place r + size r) high)
      (and_parts (q r) (nat_le low (place r) && nat_le (place r + size r) high) is).1 in
      (leb-true low (place r) parts.0, omega (arith, rises, leb-true (place r + size r) high parts.1)) in
      omega (
        arith,
        rises,
        sum_by_same_in (λ r. cond (q r) (size r) 0) (λ r. cond (p r) (size r) 0) rs same,
        apart_sum place size p low (high - low) rs apart inside,
      )

  -- and in whatever order they stand
  pub sizes-permuted : (rs ss : List X) → IsPermutation rs ss
      → sum_by size (filter q ss) ≡ sum_by size (filter q rs)
  sizes-permuted rs ss perm = sum_by-filter size q ss
      ∙ sum_by-IsPermutation (λ r. cond (q r) (size r) 0) rs ss perm ∙ sym (sum_by-filter size q rs)
