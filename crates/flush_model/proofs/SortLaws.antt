-- What the phases keep is kept in whatever order the items stand.
use Rattle.std.specs.Prelude.{◌≡◌, ◌≢◌, ◌⊎◌, ℕ, ◌+◌, ◌-◌, ◌<◌, ◌≤◌, ◌==◌, Bool, cond, List, length, Some, slice_get, slice_index_or, Contains, sum_by, IsPermutation, refl, filter}
use Rattle.std.specs.List.{swap}
use Rattle.std.specs.List.Sorted.{IsNonDecreasingBy}
use Rattle.std.proofs.Common.{arith, sym, ◌∙◌, ap, subst, inl, inr}
use Rattle.std.proofs.lemmas.Bool.{cases_eq, cases_order}
use Rattle.std.proofs.lemmas.List.Edits.{length-swap, swapped_from_swap}
use Rattle.std.proofs.lemmas.List.Sorted.{Contains-permutation, IsPermutation-keeps, IsPermutation-sym, sum_by-IsPermutation}
use Rattle.std.proofs.lemmas.Option.{get_or_from_slice_get, slice_get-get_or, slice_get_within}
use Rattle.byte_ranges.specs.Lists.{counting_from}
use Rattle.size_class.specs.Classes.{width}
use Rattle.segment_layout.specs.Shapes.{buffer_of}
use Rattle.flush_model.specs.declared.item.Item.{Item}
use Rattle.flush_model.specs.declared.item.Numbers.{Numbers}
use Rattle.flush_model.specs.Plans.{AreBelow, AreSmall, class_total, is_lifted, is_unlifted, ItemsApart, laid_length, lifted_bytes, unlifted_bytes, total}
use Rattle.flush_model.specs.Phases.{AreItems, AreLifting, SuitsLayout}
use Rattle.flush_model.proofs.ItemLaws.{total_is}

abbrev ApartInOrder : List Item → Type 0
ApartInOrder xs = (i j : ℕ) (a b : Item) → i < j → slice_get xs i ≡ Some a → slice_get xs j ≡ Some b
    → ItemsApart a b

abbrev ApartAll : List Item → Type 0
ApartAll xs = (i j : ℕ) (d : Item) → i < length xs → j < length xs → i ≢ j
    → ItemsApart (slice_index_or xs i d) (slice_index_or xs j d)

apart_flip : (a b : Item) → ItemsApart a b → ItemsApart b a
apart_flip a b h = record {
  keys = λ e. h.keys (sym e);
  bytes = elim h.bytes [ inl e ↦ inr e | inr e ↦ inl e ];
}

all_from_order : (xs : List Item) → ApartInOrder xs → ApartAll xs
all_from_order xs h i j d low high differ = elim (cases_order i j) [
  | inl e ↦ absurd (differ e)
  | inr (inl less) ↦ h i j (slice_index_or xs i d) (slice_index_or xs j d) less (slice_get-get_or xs i d low)
      (slice_get-get_or xs j d high)
  | inr (inr more) ↦ apart_flip (slice_index_or xs j d) (slice_index_or xs i d)
      (h j i (slice_index_or xs j d) (slice_index_or xs i d) more (slice_get-get_or xs j d high)
      (slice_get-get_or xs i d low))
]

order_from_all : (xs : List Item) → ApartAll xs → ApartInOrder xs
order_from_all xs h i j a b less at_i at_j =
    let low = slice_get_within xs i a at_i in
    let high = slice_get_within xs j b at_j in
    subst (λ x. ItemsApart x b) (get_or_from_slice_get xs i a a at_i)
    (subst (ItemsApart (slice_index_or xs i a)) (get_or_from_slice_get xs j b a at_j)
    (h i j a low high (λ e. absurd (omega (arith, less, e)))))

apart_swapped : (l : List Item) (i j : ℕ) → i < length l → j < length l → ApartAll l → ApartAll (swap l i j)
apart_swapped l i j hi hj h x y d hx hy differ =
    let from_x = source x (omega (arith, hx, length-swap l i j)) in
    let from_y = source y (omega (arith, hy, length-swap l i j)) in
    let apart : from_x.0 ≢ from_y.0 = λ e. differ (same x y from_x.0 from_y.0 e from_x.3 from_y.3) in
    subst (λ a. ItemsApart a (slice_index_or (swap l i j) y d)) (sym from_x.2)
    (subst (ItemsApart (slice_index_or l from_x.0 d)) (sym from_y.2)
    (h from_x.0 from_y.0 d from_x.1 from_y.1 apart))
  where
    source : (m : ℕ) → m < length l → (s : ℕ) × (s < length l)
        × (slice_index_or (swap l i j) m d ≡ slice_index_or l s d)
        × (((m ≡ i) × (s ≡ j)) ⊎ ((m ≡ j) × (s ≡ i)) ⊎ ((m ≢ i) × (m ≢ j) × (s ≡ m)))
    source m within =
        let sw = swapped_from_swap l (swap l i j) i j d hi hj refl in
        elim (cases_eq m i) [
          | inl e ↦ (j, hj, ap (λ t. slice_index_or (swap l i j) t d) e ∙ sw.0, inl (e, refl))
          | inr not_i ↦ elim (cases_eq m j) [
            | inl e ↦ (i, hi, ap (λ t. slice_index_or (swap l i j) t d) e ∙ sw.1, inr (inl (e, refl)))
            | inr not_j ↦ (m, within, sw.2 m not_i not_j, inr (inr (not_i, not_j, refl)))
          ]
        ]

    same : (x y s t : ℕ) → s ≡ t → ((x ≡ i) × (s ≡ j)) ⊎ ((x ≡ j) × (s ≡ i)) ⊎ ((x ≢ i) × (x ≢ j) × (s ≡ x))
        → ((y ≡ i) × (t ≡ j)) ⊎ ((y ≡ j) × (t ≡ i)) ⊎ ((y ≢ i) × (y ≢ j) × (t ≡ y)) → x ≡ y
    same x y s t e hx hy = elim hx [
      | inl a ↦ elim hy [
        | inl b ↦ omega (arith, a.0, b.0)
        | inr (inl b) ↦ omega (arith, a.0, a.1, b.0, b.1, e)
        | inr (inr b) ↦ absurd (b.1 (omega (arith, a.1, b.2, e)))
      ]
      | inr (inl a) ↦ elim hy [
        | inl b ↦ omega (arith, a.0, a.1, b.0, b.1, e)
        | inr (inl b) ↦ omega (arith, a.0, b.0)
        | inr (inr b) ↦ absurd (b.0 (omega (arith, a.1, b.2, e)))
      ]
      | inr (inr a) ↦ elim hy [
        | inl b ↦ absurd (a.1 (omega (arith, b.1, a.2, e)))
        | inr (inl b) ↦ absurd (a.0 (omega (arith, b.1, a.2, e)))
        | inr (inr b) ↦ omega (arith, a.2, b.2, e)
      ]
    ]

module _ (xs ys : List Item) (perm : IsPermutation xs ys) where
  back : (it : Item) → Contains ys it → Contains xs it
  back it has = Contains-permutation ys xs it (IsPermutation-sym xs ys perm) has

  pub apart_permuted : ApartInOrder xs → ApartInOrder ys
  apart_permuted h = order_from_all ys
      (IsPermutation-keeps xs ApartAll (all_from_order xs h) apart_swapped ys perm)

  pub items_permuted : (n : Numbers) → AreItems n xs → AreItems n ys
  items_permuted n are =
      record {
        apart = apart_permuted are.apart;
        some = λ it has. are.some it (back it has);
        class = λ it has. are.class it (back it has);
        from = λ it has. are.from it (back it has);
        start = λ it has. are.start it (back it has);
      }

  weight_permuted : (q : Item → Bool)
      → sum_by (λ it. cond (q it) it.size 0) ys ≡ sum_by (λ it. cond (q it) it.size 0) xs
  weight_permuted q = sum_by-IsPermutation (λ it. cond (q it) it.size 0) xs ys perm

  pub total_permuted : (q : Item → Bool) → total (filter q ys) ≡ total (filter q xs)
  total_permuted q = total_is q ys ∙ weight_permuted q ∙ sym (total_is q xs)

  pub class_total_permuted : (c : ℕ) → class_total ys c ≡ class_total xs c
  class_total_permuted c = total_is (λ it. it.class == c) ys ∙ weight_permuted (λ it. it.class == c)
      ∙ sym (total_is (λ it. it.class == c) xs)

  pub laid_length_permuted : (k b c : ℕ) → laid_length k ys b c ≡ laid_length k xs b c
  laid_length_permuted k b c = ap (λ (f : ℕ → ℕ). sum_by f (counting_from b (c - b)))
      (λ i d. class_total_permuted d i + buffer_of k (class_total_permuted d i))

  pub suits_permuted : (k : ℕ) (caps : List ℕ) (n : Numbers) → SuitsLayout k caps n xs
      → SuitsLayout k caps n ys
  suits_permuted k caps n suits = record {
    boundary = suits.boundary;
    start = suits.start;
    end = omega (arith, suits.end, laid_length_permuted k n.boundary width);
  }

  pub lifting_permuted : (k : ℕ) (caps : List ℕ) (n : Numbers) (pending : ℕ) → AreLifting k caps n pending xs
      → AreLifting k caps n pending ys
  lifting_permuted k caps n pending is =
      let lifted : lifted_bytes n pending ys ≡ lifted_bytes n pending xs = total_is (is_lifted n pending) ys
      ∙ weight_permuted (is_lifted n pending) ∙ sym (total_is (is_lifted n pending) xs) in
      let unlifted : unlifted_bytes k caps n ys
      ≡ unlifted_bytes k caps n xs = total_is (is_unlifted k caps n) ys
      ∙ weight_permuted (is_unlifted k caps n) ∙ sym (total_is (is_unlifted k caps n) xs) in
      record {
        waits = λ it has. is.waits it (back it has);
        lifted = λ it has past. elim (is.lifted it (back it has) past) [
          | inl row ↦ inl
              (omega (arith, row, lifted))
          | inr last ↦ inr last
        ];
        reaches = omega (arith, is.reaches, lifted, unlifted);
        old_end = is.old_end;
        wall = omega (arith, is.wall, laid_length_permuted k n.boundary width);
        slack = λ it has. is.slack it (back it has);
      }

  pub lifted_permuted : (n : Numbers) (pending : ℕ) → lifted_bytes n pending ys ≡ lifted_bytes n pending xs
  lifted_permuted n pending = total_is (is_lifted n pending) ys ∙ weight_permuted (is_lifted n pending)
      ∙ sym (total_is (is_lifted n pending) xs)

  pub below_permuted : (C : ℕ) → AreBelow C xs → AreBelow C ys
  below_permuted C classes it has = classes it (back it has)

  pub small_permuted : (n : Numbers) → AreSmall n xs → AreSmall n ys
  small_permuted n small = (small.0, λ it has. small.1 it (back it has))

-- items that stand in the order of their places
pub rising_from_sorted : (n : Numbers) (items : List Item) → AreItems n items
    → IsNonDecreasingBy (λ it. it.place) items → (i j : ℕ) (a b : Item) → i < j → slice_get items i ≡ Some a
    → slice_get items j ≡ Some b → a.place < b.place
rising_from_sorted n items are sorted i j a b less at_i at_j =
    let high : j < length items = slice_get_within items j b at_j in
    let low : i < length items = slice_get_within items i a at_i in
    let is_a : slice_index_or items i a ≡ a = get_or_from_slice_get items i a a at_i in
    let is_b : slice_index_or items j a ≡ b = get_or_from_slice_get items j b a at_j in
    let up : a.place ≤ b.place = omega (
      arith,
      sorted i j a (omega (arith, less)) high,
      ap (λ (x : Item). x.place) is_a,
      ap (λ (x : Item). x.place) is_b,
    ) in
    let apart = are.apart i j a b less at_i at_j in
    elim apart.bytes [
      | inl e ↦ omega (arith, e, are.some a (i, low, is_a))
      | inr e ↦ absurd (omega (arith, e, up, are.some b (j, high, get_or_from_slice_get items j b b at_j)))
    ]
