-- The largest size of a list.
use Rattle.std.specs.Prelude.{◌≡◌, ℕ, ◌≤◌, ◌==◌, max, List, [], ◌∷◌, Contains, IsPermutation, refl}
use Rattle.std.proofs.Common.{arith, ◌∙◌, ap, inl, inr}
use Rattle.flush_model.specs.declared.item.Item.{Item}
use Rattle.std.proofs.lemmas.List.Sorted.{Contains-permutation, IsPermutation-sym}
use Rattle.std.proofs.lemmas.Bool.{cases_Bool, cond-false, cond-true}
use Rattle.flush_model.proofs.ListLaws.{contains_cases, contains_here, contains_later}
use Rattle.flush_model.specs.Plans.{largest_of, moved_item, relocated}
use Rattle.std.proofs.Math.Nat.{le-max_left, le-max_right, max-le}

pub largest-from : (a : ℕ) (items : List Item) → a ≤ largest_of items a
largest-from a [] = omega arith
largest-from a (x ∷ xs) = omega (arith, le-max_left a x.size, largest-from (max a x.size) xs)

pub largest-of : (a : ℕ) (items : List Item) (it : Item) → Contains items it → it.size ≤ largest_of items a
largest-of a [] it has = absurd (omega (arith, has.1))
largest-of a (x ∷ xs) it has = elim (contains_cases x it xs has) [
  | inl e ↦ omega (arith, ap (λ (y : Item). y.size) e, le-max_right a x.size, largest-from (max a x.size) xs)
  | inr later ↦ largest-of (max a x.size) xs it later
]

pub largest-le : (a w : ℕ) (items : List Item) → a ≤ w → ((it : Item) → Contains items it → it.size ≤ w)
    → largest_of items a ≤ w
largest-le a w [] low each = low
largest-le a w (x ∷ xs) low each =
    largest-le (max a x.size) w xs (max-le low (each x (contains_here x xs)))
    (λ it has. each it (contains_later x it xs has))

-- an item that is moved keeps its size
size_of_moved : (key to : ℕ) (it : Item) → (moved_item key to it).size ≡ it.size
size_of_moved key to it = elim (cases_Bool (it.key == key)) [
  | inl is ↦ ap (λ (x : Item). x.size) (cond-true (it.key == key) (record it { place = to }) it is)
  | inr other ↦ ap (λ (x : Item). x.size) (cond-false (it.key == key) (record it { place = to }) it other)
]

pub largest-relocated : (a key to : ℕ) (items : List Item)
    → largest_of (relocated key to items) a ≡ largest_of items a
largest-relocated a key to [] = refl
largest-relocated a key to (x ∷ xs) =
    ap (λ s. largest_of (relocated key to xs) (max a s)) (size_of_moved key to x)
    ∙ largest-relocated (max a x.size) key to xs

pub largest-permuted : (a : ℕ) (xs ys : List Item) → IsPermutation xs ys → largest_of ys a ≡ largest_of xs a
largest-permuted a xs ys perm = omega (
  arith,
  largest-le a (largest_of xs a) ys (largest-from a xs)
      (λ it has. largest-of a xs it (Contains-permutation ys xs it (IsPermutation-sym xs ys perm) has)),
  largest-le a (largest_of ys a) xs (largest-from a ys)
      (λ it has. largest-of a ys it (Contains-permutation xs ys it perm has)),
)
