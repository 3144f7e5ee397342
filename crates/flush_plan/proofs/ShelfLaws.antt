-- The objects of a shelf by rank and by place, and the items of a flush among them.
use Rattle.std.specs.Prelude.{◌≡◌, ℕ, zero, suc, ◌+◌, ◌-◌, ◌<◌, ◌≤◌, nat_le, ◌==◌, Bool, true, List, [], ◌∷◌, length, drop, filter, slice_get, Some, Contains, refl}
use Rattle.std.proofs.Common.{arith, sym, ◌∙◌, ap, subst, inl, inr}
use Rattle.std.proofs.lemmas.Bool.{both_ways, cases_Bool, cases_order, cond-true, cond-false, le-leb, leb-true, lt-leb}
use Rattle.std.proofs.lemmas.List.{length-drop}
use Rattle.std.proofs.lemmas.List.Sorted.{Contains-permutation, IsPermutation-sym}
use Rattle.std.proofs.lemmas.Option.{get_or_from_slice_get, slice_get_within, same_Some}
use Rattle.flush_model.specs.declared.item.Item.{Item}
use Rattle.flush_model.specs.Plans.{AreBelow, class_total, total}
use Rattle.flush_model.proofs.ListLaws.{contains_cases, contains_here, contains_later, got_at, sizes-permuted}
use Rattle.flush_plan.specs.Shelves.{from_place, IsOnShelf, IsRank, IsShelf}

-- ---- what a filter leaves

pub filter_has : {X : Type 0} (p : X → Bool) (xs : List X) (x : X) → Contains xs x → p x ≡ true
    → Contains (filter p xs) x
filter_has p [] x has passes = absurd (omega (arith, has.1))
filter_has p (y ∷ ys) x has passes = elim (cases_Bool (p y)) [
  | inl is ↦ subst (λ zs. Contains zs x) (sym (cond-true (p y) (y ∷ filter p ys) (filter p ys) is))
      (elim (contains_cases y x ys has) [
        | inl e ↦ subst (Contains (y ∷ filter p ys)) (sym e) (contains_here y (filter p ys))
        | inr later ↦ contains_later y x (filter p ys) (filter_has p ys x later passes)
      ])
  | inr fails ↦ subst (λ zs. Contains zs x) (sym (cond-false (p y) (y ∷ filter p ys) (filter p ys) fails))
      (elim (contains_cases y x ys has) [
        | inl e ↦ absurd (both_ways (p y) fails (ap p (sym e) ∙ passes))
        | inr later ↦ filter_has p ys x later passes
      ])
]

pub filter_had : {X : Type 0} (p : X → Bool) (xs : List X) (x : X) → Contains (filter p xs) x
    → Contains xs x × (p x ≡ true)
filter_had p [] x has = absurd (omega (arith, has.1))
filter_had p (y ∷ ys) x has = elim (cases_Bool (p y)) [
  | inl is ↦ elim (contains_cases y x (filter p ys)
      (subst (λ zs. Contains zs x) (cond-true (p y) (y ∷ filter p ys) (filter p ys) is) has)) [
        | inl e ↦ (subst (Contains (y ∷ ys)) (sym e) (contains_here y ys), ap p e ∙ is)
        | inr later ↦
            let old = filter_had p ys x later in
            (contains_later y x ys old.0, old.1)
      ]
  | inr fails ↦
      let old = filter_had p ys x
      (subst (λ zs. Contains zs x) (cond-false (p y) (y ∷ filter p ys) (filter p ys) fails) has) in
      (contains_later y x ys old.0, old.1)
]

-- ---- ranks

-- an object that was got at a rank is one of the shelf's
pub got_has : (xs : List Item) (i : ℕ) (it : Item) → slice_get xs i ≡ Some it → Contains xs it
got_has xs i it got = (i, slice_get_within xs i it got, get_or_from_slice_get xs i it it got)

module _ (xs : List Item) (rises : IsShelf xs) where
  -- the places rise strictly, and so do the ranks with the places
  pub places_rise : (i j : ℕ) (a b : Item) → i < j → slice_get xs i ≡ Some a → slice_get xs j ≡ Some b
      → a.place < b.place
  places_rise i j a b less at_i at_j =
      omega (arith, rises.rising i j a b less at_i at_j, rises.some a (got_has xs i a at_i))

  -- two objects at one place are one
  pub place_is_one : (a b : Item) → Contains xs a → Contains xs b → a.place ≡ b.place → a ≡ b
  place_is_one a b has_a has_b same = elim (cases_order has_a.0 has_b.0) [
    | inl e ↦ same_Some a b (sym (got_at a xs has_a) ∙ ap (slice_get xs) e ∙ got_at b xs has_b)
    | inr (inl less) ↦ absurd (omega (
      arith,
      same,
      places_rise has_a.0 has_b.0 a b less (got_at a xs has_a) (got_at b xs has_b),
    ))
    | inr (inr more) ↦ absurd (omega (
      arith,
      same,
      places_rise has_b.0 has_a.0 b a more (got_at b xs has_b) (got_at a xs has_a),
    ))
  ]

  module _ (place rank : ℕ) (is : IsRank xs place rank) where
    -- the object at the rank of a place is the first one from that place on
    pub rank_stands : (m : Item) → slice_get xs rank ≡ Some m → place ≤ m.place
    rank_stands m got = is.from rank m (omega arith) got

    pub rank_first : (m : Item) → slice_get xs rank ≡ Some m → (it : Item) → Contains xs it
        → place ≤ it.place → m.place ≤ it.place
    rank_first m got it has high = elim (cases_order has.0 rank) [
      | inl e ↦
          let same : it ≡ m = same_Some it m (sym (got_at it xs has) ∙ ap (slice_get xs) e ∙ got) in
          omega (arith, ap (λ (x : Item). x.place) same)
      | inr (inl less) ↦ absurd (omega (arith, high, is.before has.0 it less (got_at it xs has)))
      | inr (inr more) ↦ omega (arith, places_rise rank has.0 m it more got (got_at it xs has))
    ]

    -- where there is none at that rank, all stand before the place
    pub rank_none : length xs ≤ rank → (it : Item) → Contains xs it → it.place < place
    rank_none ended it has = is.before has.0 it (omega (arith, has.1, ended)) (got_at it xs has)

    -- the object one rank below is the last one before the place
    pub rank_precedes : (at : ℕ) (m : Item) → at + 1 ≡ rank → slice_get xs at ≡ Some m → m.place < place
    rank_precedes at m next got = is.before at m (omega (arith, next)) got

    pub rank_last : (at : ℕ) (m : Item) → at + 1 ≡ rank → slice_get xs at ≡ Some m → (it : Item)
        → Contains xs it → it.place < place → it.place ≤ m.place
    rank_last at m next got it has low = elim (cases_order has.0 at) [
      | inl e ↦
          let same : it ≡ m = same_Some it m (sym (got_at it xs has) ∙ ap (slice_get xs) e ∙ got) in
          omega (arith, ap (λ (x : Item). x.place) same)
      | inr (inl less) ↦ omega (arith, places_rise has.0 at it m less (got_at it xs has) got)
      | inr (inr more) ↦
          absurd (omega (arith, low, is.from has.0 it (omega (arith, more, next)) (got_at it xs has)))
    ]

    -- where no rank is below, all stand from the place on
    pub rank_zero : rank ≡ 0 → (it : Item) → Contains xs it → place ≤ it.place
    rank_zero none it has = is.from has.0 it (omega (arith, none)) (got_at it xs has)

-- the objects from a place on are those from the rank of that place on
pub from_rank : (place : ℕ) (xs : List Item) (rank : ℕ) → IsRank xs place rank
    → from_place place xs ≡ drop rank xs
from_rank place [] zero is = refl
from_rank place [] (suc rank) is = absurd (omega (arith, is.within))
from_rank place (x ∷ xs) zero is =
    cond-true (nat_le place x.place) (x ∷ from_place place xs) (from_place place xs)
    (le-leb place x.place (is.from 0 x (omega arith) refl))
    ∙ ap (λ ys. x ∷ ys) (from_rank place xs zero rest)
  where
    rest : IsRank xs place zero
    rest = record {
      within = omega arith;
      before = λ i it less. absurd (omega (arith, less));
      from = λ i it low got. is.from (suc i) it (omega arith) got;
    }
from_rank place (x ∷ xs) (suc rank) is =
    cond-false (nat_le place x.place) (x ∷ from_place place xs) (from_place place xs)
    (lt-leb place x.place (is.before 0 x (omega arith) refl))
    ∙ from_rank place xs rank rest
  where
    rest : IsRank xs place rank
    rest = record {
      within = omega (arith, is.within);
      before = λ i it less got. is.before (suc i) it (omega (arith, less)) got;
      from = λ i it low got. is.from (suc i) it (omega (arith, low)) got;
    }

-- and each of them is got at its rank
pub from_got : (place : ℕ) (xs : List Item) (rank : ℕ) → IsRank xs place rank → (i : ℕ) (it : Item)
    → slice_get xs (rank + i) ≡ Some it → slice_get (from_place place xs) i ≡ Some it
from_got place xs rank is i it got = subst (λ ys. slice_get ys i ≡ Some it) (sym (from_rank place xs rank is))
    (dropped rank xs got)
  where
    dropped : (r : ℕ) (ys : List Item) → slice_get ys (r + i) ≡ Some it → slice_get (drop r ys) i ≡ Some it
    dropped zero ys at = subst (λ n. slice_get ys n ≡ Some it) (none i) at
      where
        none : (n : ℕ) → 0 + n ≡ n
        none n = omega arith
    dropped (suc r) [] at = absurd (omega (arith, slice_get_within {A = Item} [] (suc r + i) it at))
    dropped (suc r) (y ∷ ys) at = dropped r ys (subst (λ n. slice_get (y ∷ ys) n ≡ Some it) one at)
      where
        one : suc r + i ≡ suc (r + i)
        one = omega arith

-- told from the shelf's own ranks
pub from_at : (place : ℕ) (xs : List Item) (rank : ℕ) → IsRank xs place rank → (at : ℕ) (it : Item)
    → rank ≤ at → slice_get xs at ≡ Some it → slice_get (from_place place xs) (at - rank) ≡ Some it
from_at place xs rank is at it low got =
    let whole : at ≡ rank + (at - rank) = omega (arith, low) in
    from_got place xs rank is (at - rank) it (subst (λ n. slice_get xs n ≡ Some it) whole got)

pub from_length : (place : ℕ) (xs : List Item) (rank : ℕ) → IsRank xs place rank
    → length (from_place place xs) + rank ≡ length xs
from_length place xs rank is =
    omega (arith, is.within, ap length (from_rank place xs rank is), length-drop rank xs)

-- ---- the items of a flush on their shelf

module _ (start : ℕ) (items xs : List Item) (on : IsOnShelf start items xs) where
  -- an item stands on the shelf, from the start on
  pub item_on_shelf : (it : Item) → Contains items it → Contains xs it × (start ≤ it.place)
  item_on_shelf it has =
      let old = filter_had (λ (x : Item). nat_le start x.place) xs it
      (Contains-permutation items (from_place start xs) it on.same has) in
      (old.0, leb-true start it.place old.1)

  -- and what stands on the shelf from the start on is an item
  pub shelf_item : (it : Item) → Contains xs it → start ≤ it.place → Contains items it
  shelf_item it has low =
      Contains-permutation (from_place start xs) items it
      (IsPermutation-sym items (from_place start xs) on.same)
      (filter_has (λ (x : Item). nat_le start x.place) xs it has (le-leb start it.place low))

  -- as is each of those that are counted from the start on
  pub among_items : (it : Item) → Contains (from_place start xs) it → Contains items it
  among_items it has = Contains-permutation (from_place start xs) items it
      (IsPermutation-sym items (from_place start xs) on.same) has

  -- so two items at one place are one
  pub item_is_one : (a b : Item) → Contains items a → Contains items b → a.place ≡ b.place → a ≡ b
  item_is_one a b has_a has_b same =
      place_is_one xs on.rises a b (item_on_shelf a has_a).0 (item_on_shelf b has_b).0 same

  module _ (place rank : ℕ) (low : start ≤ place) (is : IsRank xs place rank) where
    -- the object at the rank of a place from the start on is the first of the items from that place on
    pub first_item : (m : Item) → slice_get xs rank ≡ Some m → Contains items m
    first_item m got =
        shelf_item m (got_has xs rank m got) (omega (arith, low, rank_stands xs on.rises place rank is m got))

    pub first_is_least : (m : Item) → slice_get xs rank ≡ Some m → (it : Item) → Contains items it
        → place ≤ it.place → m.place ≤ it.place
    first_is_least m got it has high =
        rank_first xs on.rises place rank is m got it (item_on_shelf it has).0 high

    -- where there is none at that rank, all items stand before the place
    pub none_is_left : length xs ≤ rank → (it : Item) → Contains items it → it.place < place
    none_is_left ended it has = rank_none xs on.rises place rank is ended it (item_on_shelf it has).0

  pub total_on_shelf : (q : Item → Bool) → total (filter q (from_place start xs)) ≡ total (filter q items)
  total_on_shelf q =
      sizes-permuted (λ it. it.place) (λ it. it.size) q items (from_place start xs) on.same

  pub class_on_shelf : (c : ℕ) → class_total (from_place start xs) c ≡ class_total items c
  class_on_shelf c = total_on_shelf (λ it. it.class == c)

  pub below_on_shelf : (C : ℕ) → AreBelow C items → AreBelow C (from_place start xs)
  below_on_shelf C classes it has = classes it (among_items it has)
