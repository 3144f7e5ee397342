-- What the class of a size tells of the size, and laws on counting and finding among numbers in order.
use Rattle.std.specs.Prelude.{◌≡◌, ℕ, zero, suc, ◌+◌, ◌-◌, ◌*◌, ◌^◌, ◌<◌, ◌≤◌, nat_le, Bool, true, false, List, [], ◌∷◌, length, count_by, find, unwrap_or, Some, None, refl, slice_index, cond}
use Rattle.std.proofs.Common.{arith, sym, ◌∙◌, ap, subst, inl, inr, zero-add}
use Rattle.std.proofs.lemmas.Bool.{le-leb, lt-leb, leb-true, leb-false, cases_Bool, cases_order, cases_lt, cond-true, cond-false, true≢false}
use Rattle.std.proofs.lemmas.List.{get_or-replicate, get_or_past}
use Rattle.std.proofs.lemmas.List.Sums.{sum_by_from}
use Rattle.std.proofs.lemmas.Nat.{pow-add}
use Rattle.std.proofs.Math.Nat.{pow-le-pow_right, one-le-pow}
use Rattle.byte_ranges.specs.Lists.{below, counting_from}
use Rattle.byte_ranges.proofs.ListLaws.{zeros_at}
use Rattle.size_class.specs.Classes.{width, class_of, IsClass, IsRow, IsGrid, lg_up, zero_row, zero_grid, row, cell}

-- Of the n numbers from a first one on, the first t pass, and the others don't.
pub record PassFirst (p : ℕ → Bool) (first n t : ℕ) : Type 0 where
  pub within : t ≤ n
  pub passes : (c : ℕ) → first ≤ c → c < first + t → p c ≡ true
  pub fails : (c : ℕ) → first + t ≤ c → c < first + n → p c ≡ false

-- a test that once it fails fails from there on
abbrev pub Falls : (ℕ → Bool) → Type 0
Falls p = (i j : ℕ) → i ≤ j → p i ≡ false → p j ≡ false

count_by-cons : (p : ℕ → Bool) (x : ℕ) (xs : List ℕ) → count_by p (x ∷ xs) ≡ cond (p x) 1 0 + count_by p xs
count_by-cons p x xs = sum_by_from (λ x. cond (p x) 1 0) (0 + cond (p x) 1 0) xs
    ∙ (let e : (0 + cond (p x) 1 0) + count_by p xs ≡ cond (p x) 1 0 + count_by p xs = omega arith in e)

-- the first number passes, or fails
one_more : (p : ℕ → Bool) (first n t u : ℕ) → p first ≡ true → PassFirst p (first + 1) n t → u ≡ 1 + t
    → PassFirst p first (suc n) u
one_more p first n t u pass rest is =
    record {
      within = omega (arith, rest.within);
      passes = λ c low high. elim (cases_order c first) [
        | inl e ↦ subst (λ x. p x ≡ true) (sym e) pass
        | inr
            (inl h) ↦ absurd (omega arith)
        | inr (inr h) ↦ rest.passes c (omega arith) (omega arith)
      ];
      fails = λ c low high. rest.fails c (omega arith) (omega arith);
    }

none_pass : (p : ℕ → Bool) (first n t : ℕ) → Falls p → p first ≡ false → PassFirst p (first + 1) n t → t ≡ 0
none_pass p first n zero falls fail rest = refl
none_pass p first n (suc t) falls fail rest =
    absurd (true≢false (sym (rest.passes (first + 1) (omega arith) (omega arith))
    ∙ falls first (first + 1) (omega arith) fail))

none_here : (p : ℕ → Bool) (first n t u : ℕ) → Falls p → p first ≡ false → PassFirst p (first + 1) n t → u ≡ t
    → PassFirst p first (suc n) u
none_here p first n t u falls fail rest is =
    let e : t ≡ 0 = none_pass p first n t falls fail rest in
    record {
      within = omega arith;
      passes = λ c low high. absurd (omega arith);
      fails = λ c low high. falls first c (omega arith) fail;
    }

-- how many numbers pass says which
pub count_falling : (p : ℕ → Bool) (first n : ℕ) → Falls p
    → PassFirst p first n (count_by p (counting_from first n))
count_falling p first zero f = record {
  within = omega arith;
  passes = λ c h g. absurd (omega arith);
  fails = λ c h g. absurd (omega arith);
}
count_falling p first (suc n) f =
    let rest = count_falling p (first + 1) n f in
    let both = count_by-cons p first (counting_from (first + 1) n) in
    elim (cases_Bool (p first)) [
      | inl pass ↦ one_more p first n _ _ pass rest
          (both ∙ ap (λ b. cond b 1 0 + count_by p (counting_from (first + 1) n)) pass)
      | inr fail ↦ none_here p first n _ _ f fail rest
          (both ∙ ap (λ b. cond b 1 0 + count_by p (counting_from (first + 1) n)) fail ∙ zero-add _)
    ]

-- the first number from a first one on that passes
pub find_counting : (p : ℕ → Bool) (first n j : ℕ) → first ≤ j → j < first + n → p j ≡ true
    → ((i : ℕ) → first ≤ i → i < j → p i ≡ false) → find p (counting_from first n) ≡ Some j
find_counting p first zero j low high here before = absurd (omega arith)
find_counting p first (suc n) j low high here before =
    elim (cases_order first j) [
      | inl e ↦ cond-true (p first) _ _ (subst (λ x. p x ≡ true) (sym e) here) ∙ ap Some e
      | inr (inl less) ↦ cond-false (p first) _ _ (before first (omega arith) less)
          ∙ find_counting p (first + 1) n j (omega arith) (omega arith) here
          (λ i l h. before i (omega arith) h)
      | inr (inr more) ↦ absurd (omega arith)
    ]

-- none passes
pub find_counting_none : (p : ℕ → Bool) (first n : ℕ) → ((i : ℕ) → first ≤ i → i < first + n → p i ≡ false)
    → find p (counting_from first n) ≡ None
find_counting_none p first zero none = refl
find_counting_none p first (suc n) none = cond-false (p first) _ _ (none first (omega arith) (omega arith))
    ∙ find_counting_none p (first + 1) n (λ i l h. none i (omega arith) (omega arith))

-- What a find among numbers in order says.
pub record IsFirst (p : ℕ → Bool) (first n j : ℕ) : Type 0 where
  pub low : first ≤ j
  pub high : j < first + n
  pub here : p j ≡ true
  pub before : (i : ℕ) → first ≤ i → i < j → p i ≡ false

later_first : (p : ℕ → Bool) (first n j : ℕ) → p first ≡ false → IsFirst p (first + 1) n j
    → IsFirst p first (suc n) j
later_first p first n j fail f =
    record {
      low = omega (arith, f.low);
      high = omega (arith, f.high);
      here = f.here;
      before = λ i low high. elim (cases_order i first) [
        | inl e ↦ subst (λ x. p x ≡ false) (sym e) fail
        | inr
            (inl h) ↦ absurd (omega arith)
        | inr (inr h) ↦ f.before i (omega arith) high
      ];
    }

pub found_counting : (p : ℕ → Bool) (first n j : ℕ) → find p (counting_from first n) ≡ Some j
    → IsFirst p first n j
found_counting p first zero j is = absurd (cc)
found_counting p first (suc n) j is =
    elim (cases_Bool (p first)) [
      | inl pass ↦
          let e : first ≡ j = let h : Some first ≡ Some j = sym (cond-true (p first) _ _ pass) ∙ is in cc in
          record {
            low = omega arith;
            high = omega arith;
            here = subst (λ x. p x ≡ true) e pass;
            before = λ i l h. absurd (omega arith);
          }
      | inr fail ↦ later_first p first n j fail
          (found_counting p (first + 1) n j (sym (cond-false (p first) _ _ fail) ∙ is))
    ]

pub missed_counting : (p : ℕ → Bool) (first n i : ℕ) → find p (counting_from first n) ≡ None → first ≤ i
    → i < first + n → p i ≡ false
missed_counting p first zero i is low high = absurd (omega arith)
missed_counting p first (suc n) i is low high =
    elim (cases_Bool (p first)) [
      | inl pass ↦ absurd (let h : Some first ≡ None = sym (cond-true (p first) _ _ pass) ∙ is in cc)
      | inr fail ↦ elim (cases_order i first) [
        | inl e ↦ subst (λ x. p x ≡ false) (sym e) fail
        | inr (inl h) ↦ absurd (omega arith)
        | inr (inr h) ↦ missed_counting p (first + 1) n i (sym (cond-false (p first) _ _ fail) ∙ is)
            (omega arith) (omega arith)
      ]
    ]

-- ---- the class of a size

pub power_rises : (i j : ℕ) → i ≤ j → 2 ^ i ≤ 2 ^ j
power_rises i j h = pow-le-pow_right (omega arith) h

pub power_next : (i : ℕ) → 2 ^ (i + 1) ≡ 2 * 2 ^ i
power_next i = omega (arith, pow-add 2 i 1)

abbrev reaches : ℕ → ℕ → Bool
reaches size c = nat_le (2 ^ c) size

reaches_falls : (size : ℕ) → Falls (reaches size)
reaches_falls size i j le fail = lt-leb (2 ^ j) size
    (omega (arith, leb-false (2 ^ i) size fail, power_rises i j le))

-- the numbers of classes that a size reaches
counted_classes : (size : ℕ) → PassFirst (reaches size) 0 width (count_by (reaches size) (below width))
unfolding below
counted_classes size = count_falling (reaches size) 0 width (reaches_falls size)

some_class : (size t : ℕ) → 1 ≤ size → PassFirst (reaches size) 0 width t → 1 ≤ t
some_class size zero some h = absurd
    (let a = leb-false (2 ^ 0) size (h.fails 0 (omega arith) (omega arith)) in let b : 2 ^ 0 ≡ 1 = refl in
    omega arith)
some_class size (suc t) some h = omega arith

pub class_below : (size : ℕ) → class_of size < width
unfolding class_of
class_below size = omega (arith, (counted_classes size).within)

-- a size of at least 1 reaches its class
pub class_low : (size : ℕ) → 1 ≤ size → 2 ^ class_of size ≤ size
unfolding class_of
class_low size some =
    let h = counted_classes size in
    let t : 1 ≤ count_by (reaches size) (below width) = some_class size _ some h in
    leb-true (2 ^ (count_by (reaches size) (below width) - 1)) size (h.passes _ (omega arith) (omega arith))

-- and is less than the next one's least size, where there is a next class
pub class_high : (size : ℕ) → 1 ≤ size → class_of size + 1 < width → size < 2 ^ (class_of size + 1)
unfolding class_of
class_high size some next =
    let h = counted_classes size in
    let t : 1 ≤ count_by (reaches size) (below width) = some_class size _ some h in
    leb-false (2 ^ (count_by (reaches size) (below width) - 1 + 1)) size
    (h.fails _ (omega arith) (omega arith))

-- the class is the one whose bounds the size keeps
pub class_is : (class size : ℕ) → IsClass class size → class < width → class ≡ class_of size
unfolding class_of
class_is class size is small =
    let h = counted_classes size in
    let t = count_by (reaches size) (below width) in
    let some : 1 ≤ size = omega (arith, is.low, one-le-pow class 2 (omega arith)) in
    let low : class < t = elim (cases_lt class t) [
      | inl l ↦ l
      | inr g ↦ absurd
          (true≢false (sym (le-leb (2 ^ class) size is.low) ∙ h.fails class (omega arith) (omega arith)))
    ] in
    let high : t ≤ class + 1 = elim (cases_lt (class + 1) t) [
      | inl l ↦ absurd
          (true≢false (sym (h.passes (class + 1) (omega arith) (omega arith))
          ∙ lt-leb (2 ^ (class + 1)) size is.high))
      | inr g ↦ g
    ] in
    omega arith

-- ---- the least power of 2 from a number on

pub lg_up_is : (k r : ℕ) → r < 64 → k ≤ 2 ^ (r + 1) → 2 ^ r < k → r + 1 < 64 → r + 1 ≡ lg_up k
unfolding lg_up below
lg_up_is k r small high low fits =
    ap (λ o. unwrap_or o 64) (sym (find_counting (λ n. nat_le k (2 ^ n)) 0 64 (r + 1) (omega arith)
    (omega arith) (le-leb k (2 ^ (r + 1)) high)
    (λ i l h. lt-leb k (2 ^ i) (omega (arith, power_rises i r (omega arith))))))

-- ---- tables of zeros

pub length-zero_row : length zero_row ≡ width
unfolding zero_row
length-zero_row = refl

pub length-zero_grid : length zero_grid ≡ width
unfolding zero_grid
length-zero_grid = refl

pub zero_row-index : (c : ℕ) → slice_index zero_row c ≡ 0
unfolding zero_row
zero_row-index c = zeros_at width c

pub zero_grid-row : (j : ℕ) → j < width → row zero_grid j ≡ zero_row
unfolding zero_grid
zero_grid-row j h = get_or-replicate width j zero_row [] h

pub zero_grid-cell : (j c : ℕ) → cell zero_grid j c ≡ 0
zero_grid-cell j c = elim (cases_lt j width) [
  | inl h ↦ ap (λ (xs : List ℕ). slice_index xs c)
      (zero_grid-row j h) ∙ zero_row-index c
  | inr h ↦ ap (λ (xs : List ℕ). slice_index xs c)
      (get_or_past zero_grid j [] (omega (arith, length-zero_grid)))
]

pub IsRow-zero : (C : ℕ) → IsRow C zero_row
IsRow-zero C = record { full = length-zero_row; zero_above = λ c h. zero_row-index c }

pub IsGrid-zero : (C : ℕ) → IsGrid C zero_grid
IsGrid-zero C = record {
  full = length-zero_grid;
  rows = λ j h. subst (IsRow C) (sym (zero_grid-row j h)) (IsRow-zero C);
  zero_above = λ j c h. zero_grid-cell j c;
}
