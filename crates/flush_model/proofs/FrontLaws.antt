-- How far Lay has come: what waits below the wall stands in a row against it, and what is laid lies before
-- the
-- next target.
use Rattle.std.specs.Prelude.{◌≡◌, ◌⊎◌, ℕ, ◌+◌, ◌<◌, ◌≤◌, nat_le, max, not, Bool, true, false, ◌&&◌, cond, List, [], ◌∷◌, fold, if◌then◌else◌, Contains}
use Rattle.std.proofs.Common.{arith, sym, ◌∙◌, ap, subst, inl, inr}
use Rattle.flush_model.specs.declared.item.Item.{Item}
use Rattle.flush_model.specs.declared.item.Move.{Move}
use Rattle.flush_model.specs.declared.item.Numbers.{Numbers}
use Rattle.flush_model.specs.Phases.{AreItems, IsLaying, PlanState, is_waiting_below, laid_end, moved_by, waiting_bytes}
use Rattle.flush_model.specs.Plans.{IsLaid, IsNextLay, IsPacked, ItemsCanResume, final_place, first_unlaid, is_below_wall, is_laid, is_packed, mover, relocated, sizes_over, weight}
use Rattle.flush_model.proofs.ItemLaws.{after_is, has_target, items_within, same_or_apart, total_is, target, weight_moves}
use Rattle.std.proofs.lemmas.Bool.{and_from, and_left, and_parts, and_right, both_ways, cases_Bool, cases_lt, cond-false, cond-true, eqb-true, le-leb, le-ltb, leb-true, lt-leb, lt-ltb, ltb-true, not_from_true}
use Rattle.flush_model.proofs.ListLaws.{contains_cases, contains_here, contains_later, first_of_list, sum_by_more_in, sum_by_none_in, sum_by_same_in}
use Rattle.flush_model.proofs.LayKeepsLaws.{front_ends}
use Rattle.flush_model.proofs.WaitingLaws.{lay_passes_behind}
use Rattle.std.proofs.Math.Nat.{le-max_left, le-max_right, max-le}
use Rattle.flush_model.proofs.LayLaws.{least_at, least_from, least_high, waits_from, waits_parts, unlaid}
use Rattle.flush_model.proofs.FinalLaws.{order_total}
use Rattle.flush_model.proofs.PackLaws.{over, over_before, over_counts, over_past, sizes_over_is}

-- where the last item that passes a test ends
abbrev end_from : (Item → Bool) → ℕ → List Item → ℕ
end_from q a items = fold (λ end it. if q it then max end (it.place + it.size) else end) a items

end_least : (q : Item → Bool) (items : List Item) (a : ℕ) → a ≤ end_from q a items
end_least q [] a = omega arith
end_least q (x ∷ xs) a = elim (cases_Bool (q x)) [
  | inl is ↦ omega (
    arith,
    ap (λ b. end_from q (if b then max a (x.place + x.size) else a) xs) is,
    le-max_left a (x.place + x.size),
    end_least q xs (max a (x.place + x.size)),
  )
  | inr other ↦ omega (
    arith,
    ap (λ b. end_from q (if b then max a (x.place + x.size) else a) xs) other,
    end_least q xs a,
  )
]

end_has : (q : Item → Bool) (it : Item) (items : List Item) (a : ℕ) → Contains items it → q it ≡ true
    → it.place + it.size ≤ end_from q a items
end_has q it [] a has passes = absurd (omega (arith, has.1))
end_has q it (x ∷ xs) a has passes = elim (contains_cases x it xs has) [
  | inr later ↦ elim (cases_Bool (q x)) [
    | inl is ↦ omega (
      arith,
      ap (λ b. end_from q (if b then max a (x.place + x.size) else a) xs) is,
      end_has q it xs (max a (x.place + x.size)) later passes,
    )
    | inr other ↦ omega (
      arith,
      ap (λ b. end_from q (if b then max a (x.place + x.size) else a) xs) other,
      end_has q it xs a later passes,
    )
  ]
  | inl e ↦
      let is : q x ≡ true = ap q (sym e) ∙ passes in
      omega (
        arith,
        ap (λ b. end_from q (if b then max a (x.place + x.size) else a) xs) is,
        le-max_right a (x.place + x.size),
        end_least q xs (max a (x.place + x.size)),
        ap (λ (y : Item). y.place) e,
        ap (λ (y : Item). y.size) e,
      )
]

end_at_most : (q : Item → Bool) (bound : ℕ) (items : List Item) (a : ℕ) → a ≤ bound
    → ((it : Item) → Contains items it → q it ≡ true → it.place + it.size ≤ bound)
    → end_from q a items ≤ bound
end_at_most q bound [] a low each = low
end_at_most q bound (x ∷ xs) a low each = elim (cases_Bool (q x)) [
  | inl is ↦ omega (
    arith,
    ap (λ b. end_from q (if b then max a (x.place + x.size) else a) xs) is,
    end_at_most q bound xs (max a (x.place + x.size)) (max-le low (each x (contains_here x xs) is))
        (λ it has. each it (contains_later x it xs has)),
  )
  | inr other ↦ omega (
    arith,
    ap (λ b. end_from q (if b then max a (x.place + x.size) else a) xs) other,
    end_at_most q bound xs a low (λ it has. each it (contains_later x it xs has)),
  )
]

-- the first doesn't stand behind the second
abbrev pub lower_first : Item → Item → Type 0
lower_first a b = a.place ≤ b.place

module _ (p : PlanState) (is : IsLaying p) (mv : Move) (next : IsNextLay p.k p.numbers p.items mv) where
  abbrev n : Numbers
  n = p.numbers

  abbrev are : AreItems n p.items
  are = is.packing.items

  abbrev can : ItemsCanResume p.k n p.items
  can = is.packing.resumes

  abbrev after : List Item
  after = relocated mv.key mv.to p.items

  -- ---- what waits

  from_place : Item → Item → Bool
  from_place u x = is_below_wall n x && nat_le u.place x.place

  -- over an item that waits all wait
  waits_over : (u x : Item) → Contains p.items u → Contains p.items x → u.place < n.wall
      → (IsLaid p.k n p.items u → ⊥) → x.place < n.wall → u.place ≤ x.place → IsLaid p.k n p.items x → ⊥
  waits_over u x has_u has_x low not_laid below up laid =
      elim (order_total p.k n p.items are u x has_u has_x) [
        | inl e ↦ not_laid (subst (IsLaid p.k n p.items) (sym e) laid)
        | inr (inl before) ↦ not_laid (is.laying.front u x has_u has_x before laid)
        | inr (inr behind) ↦ elim behind [
          | inr same ↦ omega (arith, same.1, up)
          | inl less ↦ elim (same_or_apart n p.items are u x has_u has_x) [
            | inl e ↦ omega (arith, less, ap (λ (y : Item). y.class) e)
            | inr h ↦ elim h.1 [
              | inl e ↦ omega (
                arith,
                less,
                can.order x u has_x has_u below
                    (omega (arith, e, are.some u has_u)),
              )
              | inr e ↦ omega (arith, e, up, are.some x has_x)
            ]
          ]
        ]
      ]

  -- the first that waits has all that waits from its place on
  module _ (u : Item) (has : Contains p.items u) (waits : is_waiting_below p u ≡ true)
      (first : (x : Item) → Contains p.items x → is_waiting_below p x ≡ true → u.place ≤ x.place) where
    parts : (u.place < n.wall) × (IsLaid p.k n p.items u → ⊥)
    parts = waits_parts p.k n p.items are can is.laying mv next u waits

    same_test : (x : Item) → Contains p.items x → is_waiting_below p x ≡ from_place u x
    unfolding from_place
    same_test x has_x = elim (cases_Bool (is_waiting_below p x)) [
      | inl yes_x ↦
          let h = waits_parts p.k n p.items are can is.laying mv next x yes_x in
          yes_x ∙ sym (and_from (is_below_wall n x) (nat_le u.place x.place) (lt-ltb x.place n.wall h.0)
          (le-leb u.place x.place (first x has_x yes_x)))
      | inr no_x ↦ no_x ∙ sym (not_from x has_x no_x)
    ]
      where
        not_from : (x : Item) → Contains p.items x → is_waiting_below p x ≡ false → from_place u x ≡ false
        not_from x has_x no_x = elim (cases_lt x.place n.wall) [
          | inr past ↦ and_left (is_below_wall n x) (nat_le u.place x.place) (le-ltb x.place n.wall past)
          | inl below ↦ elim (cases_lt x.place u.place) [
            | inl less ↦ and_right (is_below_wall n x) (nat_le u.place x.place) (lt-leb u.place x.place less)
            | inr up ↦ absurd (both_ways (is_waiting_below p x) no_x
                (waits_from p.k n p.items are can is.laying
                mv next x below (waits_over u x has has_x parts.0 parts.1 below up)))
          ]
        ]

    -- it is packed
    packed : IsPacked n p.items u
    packed = elim (is.laying.packed u has parts.0) [
      | inl laid ↦ absurd (parts.1 laid)
      | inr is_packed ↦ is_packed
    ]

    at_least : sizes_over n p.items u.place + u.size ≤ weight (from_place u) p.items
    unfolding from_place
    at_least = omega (
      arith,
      sizes_over_is n p.items u.place,
      sum_by_more_in (over n u.place) (λ x. cond (from_place u x) x.size 0) u u.size p.items has
          (omega (arith, over_before n u.place u (omega arith), counts u parts.0 (omega arith))) each,
    )
      where
        counts : (x : Item) → x.place < n.wall → u.place ≤ x.place → cond (from_place u x) x.size 0 ≡ x.size
        counts x below up = cond-true (from_place u x) x.size 0 (and_from (is_below_wall n x)
            (nat_le u.place x.place) (lt-ltb x.place n.wall below) (le-leb u.place x.place up))

        each : (x : Item) → Contains p.items x → over n u.place x ≤ cond (from_place u x) x.size 0
        each x there = elim (cases_lt x.place n.wall) [
          | inr past ↦ omega (arith, over_past n u.place x past)
          | inl below ↦ elim (cases_lt u.place x.place) [
            | inr before ↦ omega (arith, over_before n u.place x before)
            | inl more ↦ omega (
              arith,
              over_counts n u.place x below more,
              counts x below (omega (arith, more)),
            )
          ]
        ]

    at_most : u.place + weight (from_place u) p.items ≤ n.wall
    unfolding from_place
    at_most = items_within n p.items are (from_place u) u.place n.wall (omega (arith, parts.0))
        (λ x there yes_x.
        let h = and_parts (is_below_wall n x) (nat_le u.place x.place) yes_x in (
          leb-true u.place x.place h.1,
          elim (can.side x there) [
            | inl past ↦ absurd (omega (arith, past, ltb-true x.place n.wall h.0))
            | inr side ↦ side.1
          ],
        ))

    fills : u.place + waiting_bytes p ≡ n.wall
    fills = omega (
      arith,
      packed,
      at_least,
      at_most,
      total_is (is_waiting_below p) p.items,
      sum_by_same_in (λ x. cond (is_waiting_below p x) x.size 0) (λ x. cond (from_place u x) x.size 0) p.items
          (λ x there. ap (λ b. cond b x.size 0) (same_test x there)),
    )

    is_first : first_unlaid p.k n p.items ≡ u.place
    is_first = omega (
      arith,
      least_at p.k n p.items are can is.laying mv next p.items u has waits,
      least_from p.k n p.items are can is.laying mv next u.place p.items (omega (arith, parts.0)) first,
    )

  pub waiting_row : first_unlaid p.k n p.items + waiting_bytes p ≡ n.wall
  waiting_row = elim (first_of_list lower_first total_order trans (is_waiting_below p) p.items) [
    | inl f ↦ omega (arith, is_first f.0 f.1 f.2 f.3, fills f.0 f.1 f.2 f.3)
    | inr none ↦ omega (
      arith,
      least_high p.k n p.items are can is.laying mv next p.items,
      least_from p.k n p.items are can is.laying mv next n.wall p.items (omega arith)
          (λ it has waits. absurd (both_ways (is_waiting_below p it) (none it has) waits)),
      total_is (is_waiting_below p) p.items,
      sum_by_none_in (λ x. cond (is_waiting_below p x) x.size 0) p.items
          (λ x has. cond-false (is_waiting_below p x) x.size 0 (none x has)),
    )
  ]
    where
      total_order : (a b : Item) → lower_first a b ⊎ lower_first b a
      total_order a b = elim (cases_lt a.place b.place) [
        | inl less ↦ inl (omega (arith, less))
        | inr more ↦ inr more
      ]

      trans : (a b c : Item) → lower_first a b → lower_first b c → lower_first a c
      trans a b c ab bc = omega (arith, ab, bc)

  -- what waits is no more behind the move
  pub waiting_falls : waiting_bytes (moved_by mv p) ≤ waiting_bytes p
  waiting_falls =
      let q = is_waiting_below (moved_by mv p) in
      let passes = lay_passes_behind p is mv next in
      omega (
        arith,
        total_is q after,
        total_is (is_waiting_below p) p.items,
        weight_moves n p.items are mv next.item (is_waiting_below p) q
            (λ it has other. ap (λ b. is_below_wall n it && not b) (sym (passes.same it has other))),
        cond-false (q (target mv)) mv.size 0 (and_right (is_below_wall n (target mv))
            (not (is_laid p.k n after (target mv)))
            (not_from_true (is_laid p.k n after (target mv)) passes.behind)),
      )

  -- ---- what is laid

  -- each item that is laid ends where the target begins, or before
  laid_before_target : (x : Item) → Contains p.items x → IsLaid p.k n p.items x → x.place + x.size ≤ mv.to
  laid_before_target x has laid = elim (order_total p.k n p.items are (mover mv) x next.item has) [
    | inl e ↦ absurd (unlaid p.k n p.items are can is.laying mv next
        (subst (IsLaid p.k n p.items) (sym e) laid))
    | inr (inl before) ↦ absurd (unlaid p.k n p.items are can is.laying mv next
        (is.laying.front (mover mv) x next.item has before laid))
    | inr (inr behind) ↦ front_ends p.k n p.items are can is.laying mv next x has behind
  ]

  pub laid_behind : laid_end p ≤ mv.to
  laid_behind = end_at_most (is_laid p.k n p.items) mv.to p.items 0 (omega arith)
      (λ x has laid. laid_before_target x has
      (eqb-true x.place (final_place p.k n p.items x.class x.place) laid))

  pub laid_moves : laid_end (moved_by mv p) ≡ mv.to + mv.size
  laid_moves = omega (
    arith,
    end_at_most (is_laid p.k n after) (mv.to + mv.size) after 0 (omega arith) each,
    end_has (is_laid p.k n after) (target mv) after 0 (has_target n p.items are mv next.item)
        (lay_passes_behind p is mv next).behind,
  )
    where
      each : (x : Item) → Contains after x → is_laid p.k n after x ≡ true → x.place + x.size ≤ mv.to + mv.size
      each x has laid = elim (after_is n p.items are mv next.item x has) [
        | inl e ↦ omega (arith, ap (λ (y : Item). y.place) e, ap (λ (y : Item). y.size) e)
        | inr old ↦ omega (
          arith,
          laid_before_target x old.0
              (eqb-true x.place (final_place p.k n p.items x.class x.place)
              (sym ((lay_passes_behind p is mv next).same x old.0 old.1) ∙ laid)),
        )
      ]
