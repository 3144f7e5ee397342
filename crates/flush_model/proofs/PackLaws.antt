-- A move of Pack: it is safe and far, and keeps what a flush can be resumed from.
use Rattle.std.specs.Prelude.{◌≡◌, ◌≢◌, ◌⊎◌, ℕ, ◌+◌, ◌-◌, ◌<◌, ◌≤◌, ◌==◌, nat_lt, Bool, true, ◌&&◌, cond, List, Contains, sum_by, refl}
use Rattle.std.proofs.Common.{arith, sym, ◌∙◌, ap, subst, inl, inr}
use Rattle.std.proofs.lemmas.Bool.{cases_lt, cond-true, cond-false, lt-ltb, le-ltb, ltb-true, and_parts, and_from, and_left, and_right}
use Rattle.byte_ranges.specs.Lists.{counting_from}
use Rattle.size_class.specs.Classes.{width}
use Rattle.segment_layout.specs.Shapes.{buffer_of}
use Rattle.flush_model.specs.declared.item.Item.{Item}
use Rattle.flush_model.specs.declared.item.Move.{Move}
use Rattle.flush_model.specs.declared.item.Numbers.{Numbers}
use Rattle.flush_model.specs.Plans.{class_total, is_below_wall, IsNextPack, IsPacked, IsSafe, ItemsCanResume, laid_length, mover, relocated, sizes_over, weight}
use Rattle.flush_model.specs.Phases.{AreItems}
use Rattle.flush_model.proofs.ListLaws.{sum_by_more_in, sum_by_same_in}
use Rattle.flush_model.proofs.ItemLaws.{after_is, items_after, same_or_apart, target, total_is, weight_moves}

-- ---- the bytes over a place

abbrev pub is_over : Numbers → ℕ → Item → Bool
is_over n place it = is_below_wall n it && nat_lt place it.place

abbrev pub over : Numbers → ℕ → Item → ℕ
over n place it = cond (is_over n place it) it.size 0

pub over_counts : (n : Numbers) (place : ℕ) (it : Item) → it.place < n.wall → place < it.place
    → over n place it ≡ it.size
over_counts n place it below more =
    cond-true (is_over n place it) it.size 0
    (and_from (is_below_wall n it) (nat_lt place it.place) (lt-ltb it.place n.wall below)
    (lt-ltb place it.place more))

pub over_past : (n : Numbers) (place : ℕ) (it : Item) → n.wall ≤ it.place → over n place it ≡ 0
over_past n place it past = cond-false (is_over n place it) it.size 0
    (and_left (is_below_wall n it) (nat_lt place it.place) (le-ltb it.place n.wall past))

pub over_before : (n : Numbers) (place : ℕ) (it : Item) → it.place ≤ place → over n place it ≡ 0
over_before n place it before = cond-false (is_over n place it) it.size 0
    (and_right (is_below_wall n it) (nat_lt place it.place) (le-ltb place it.place before))

pub over_parts : (n : Numbers) (place : ℕ) (it : Item) → is_over n place it ≡ true
    → (it.place < n.wall) × (place < it.place)
over_parts n place it is = let p = and_parts (is_below_wall n it) (nat_lt place it.place) is in
    (ltb-true it.place n.wall p.0, ltb-true place it.place p.1)

pub sizes_over_is : (n : Numbers) (items : List Item) (place : ℕ)
    → sizes_over n items place ≡ sum_by (over n place) items
sizes_over_is n items place = total_is (is_over n place) items

-- an item over a place weighs at least its own bytes and those over it
pub over_more : (n : Numbers) (items : List Item) (it : Item) (place : ℕ) → Contains items it
    → it.place < n.wall → place < it.place → sizes_over n items it.place + it.size ≤ sizes_over n items place
over_more n items it place has below more =
    omega (
      arith,
      sizes_over_is n items place,
      sizes_over_is n items it.place,
      sum_by_more_in (over n it.place) (over n place) it it.size items has
          (omega (arith, over_before n it.place it (omega arith), over_counts n place it below more)) each,
    )
  where
    each : (x : Item) → Contains items x → over n it.place x ≤ over n place x
    each x has_x = elim (cases_lt x.place n.wall) [
      | inr past ↦ omega (arith, over_past n it.place x past)
      | inl low ↦ elim (cases_lt it.place x.place) [
        | inr before ↦ omega (arith, over_before n it.place x before)
        | inl less ↦ omega (
          arith,
          over_counts n it.place x low less,
          over_counts n place x low (omega (arith, more, less)),
        )
      ]
    ]

-- the bytes over two places are the same where no item begins between them
pub over_same : (n : Numbers) (items : List Item) (p q : ℕ) → p ≤ q
    → ((it : Item) → Contains items it → p < it.place → it.place ≤ q → ⊥)
    → sizes_over n items p ≡ sizes_over n items q
over_same n items p q rises none = sizes_over_is n items p ∙ sum_by_same_in (over n p) (over n q) items each
    ∙ sym (sizes_over_is n items q)
  where
    each : (x : Item) → Contains items x → over n p x ≡ over n q x
    each x has = elim (cases_lt x.place n.wall) [
      | inr past ↦ over_past n p x past ∙ sym (over_past n q x past)
      | inl low ↦ elim (cases_lt p x.place) [
        | inr before ↦ over_before n p x before ∙ sym (over_before n q x (omega (arith, before, rises)))
        | inl less ↦ elim (cases_lt q x.place) [
          | inr between ↦ absurd (none x has less between)
          | inl more ↦ over_counts n p x low less ∙ sym (over_counts n q x low more)
        ]
      ]
    ]

-- ---- the sums that a move leaves

module _ (n : Numbers) (items : List Item) (are : AreItems n items) (mv : Move)
    (has : Contains items (mover mv)) where
  class_total_after : (c : ℕ) → class_total (relocated mv.key mv.to items) c ≡ class_total items c
  class_total_after c =
      let q : Item → Bool = λ it. it.class == c in
      let moved = weight_moves n items are mv has q q (λ it there other. refl) in
      let e : weight q (relocated mv.key mv.to items) ≡ weight q items = omega (arith, moved) in
      total_is q (relocated mv.key mv.to items) ∙ e ∙ sym (total_is q items)

  pub laid_length_after : (k b c : ℕ)
      → laid_length k (relocated mv.key mv.to items) b c ≡ laid_length k items b c
  laid_length_after k b c = ap (λ (f : ℕ → ℕ). sum_by f (counting_from b (c - b)))
      (λ i d. class_total_after d i + buffer_of k (class_total_after d i))

  -- the bytes over a place that is past both places of the mover, or before both, where both lie below the
  -- wall
  pub over_after : (p : ℕ) → mv.from < n.wall → mv.to < n.wall
      → ((p < mv.from) × (p < mv.to)) ⊎ ((mv.from ≤ p) × (mv.to ≤ p))
      → sizes_over n (relocated mv.key mv.to items) p ≡ sizes_over n items p
  over_after p low high where_is =
      let moved = weight_moves n items are mv has (is_over n p) (is_over n p) (λ it there other. refl) in
      omega (arith, moved, sizes_over_is n items p, sizes_over_is n (relocated mv.key mv.to items) p, same)
    where
      same : over n p (mover mv) ≡ over n p (target mv)
      same = elim where_is [
        | inl less ↦ over_counts n p (mover mv) low less.0 ∙ sym (over_counts n p (target mv) high less.1)
        | inr more ↦ over_before n p (mover mv) more.0 ∙ sym (over_before n p (target mv) more.1)
      ]

-- ---- a move of Pack

module _ (k : ℕ) (n : Numbers) (items : List Item) (are : AreItems n items) (can : ItemsCanResume k n items)
    (mv : Move) (next : IsNextPack n items mv) where
  -- it goes up by the slack at least
  pub pack_far : mv.from + n.slack ≤ mv.to
  pack_far = elim (can.gap (mover mv) next.item next.below) [
    | inl packed ↦ absurd (next.moves (omega (arith, packed, next.target)))
    | inr gap ↦ omega (arith, gap, next.target)
  ]

  -- each item ends where the mover ends, or before, or begins where the target ends, or behind
  pub pack_sides : (it : Item) → Contains items it
      → (it.place + it.size ≤ mv.from + mv.size) ⊎ (mv.to + mv.size ≤ it.place)
  pack_sides it there =
      elim (cases_lt it.place n.wall) [
        | inr past ↦ inr (omega (arith, past, next.target))
        | inl low ↦ elim (cases_lt mv.from it.place) [
          | inl over ↦ inr (omega (
            arith,
            next.packed it there over low,
            over_more n items it mv.from there low over,
            next.target,
          ))
          | inr before ↦ elim (same_or_apart n items are it (mover mv) there next.item) [
            | inl same ↦ inl (omega (arith, ap (λ (x : Item). x.place) same, ap (λ (x : Item). x.size) same))
            | inr h ↦ elim h.1 [
              | inl e ↦ inl (omega (arith, e))
              | inr e ↦ absurd (omega (arith, e, before, are.some (mover mv) next.item))
            ]
          ]
        ]
      ]

  pub pack_safe : n.wall ≤ n.reach → IsSafe n items mv
  pack_safe reaches =
      record {
        apart = λ it there. elim (pack_sides it there) [
          | inl e ↦ inr (omega (arith, e, pack_far, can.slack (mover mv) next.item))
          | inr e ↦ inl e
        ];
        low = omega (arith, are.start (mover mv) next.item, pack_far);
        high = omega (arith, next.target, reaches);
      }

  abbrev after : List Item
  after = relocated mv.key mv.to items

  lands_below : mv.to < n.wall
  lands_below = omega (arith, next.target, are.some (mover mv) next.item)

  -- no other item begins between the two places
  pub pack_between : (it : Item) → Contains items it → mv.from < it.place → it.place < mv.to + mv.size → ⊥
  pack_between it there low high =
      elim (pack_sides it there) [
        | inr e ↦ omega (arith, e, high)
        | inl e ↦ elim (same_or_apart n items are it (mover mv) there next.item) [
          | inl same ↦ omega (arith, low, ap (λ (x : Item). x.place) same)
          | inr h ↦ elim h.1 [
            | inl x ↦ omega (arith, x, low)
            | inr x ↦ omega (arith, x, e, are.some it there)
          ]
        ]
      ]

  -- another item stands before both places of the mover, or past both
  other_stands : (it : Item) → Contains items it → it.key ≢ mv.key
      → ((it.place < mv.from) × (it.place < mv.to))
      ⊎ ((mv.from ≤ it.place) × (mv.to ≤ it.place) × (mv.from < it.place))
  other_stands it there other =
      elim (cases_lt it.place mv.from) [
        | inl less ↦ inl (less, omega (arith, less, pack_far))
        | inr more ↦ elim (same_or_apart n items are it (mover mv) there next.item) [
          | inl same ↦ absurd (other (ap (λ (x : Item). x.key) same))
          | inr h ↦ elim h.1 [
            | inl e ↦ absurd (omega (arith, e, more, are.some it there))
            | inr e ↦ elim (cases_lt it.place (mv.to + mv.size)) [
              | inl high ↦ absurd (pack_between it there (omega (arith, e, are.some (mover mv) next.item))
                  high)
              | inr past ↦ inr (more, omega (arith, past), omega (arith, e, are.some (mover mv) next.item))
            ]
          ]
        ]
      ]

  pub over_other : (it : Item) → Contains items it → it.key ≢ mv.key
      → sizes_over n after it.place ≡ sizes_over n items it.place
  over_other it there other = over_after n items are mv next.item it.place next.below lands_below
      (elim (other_stands it there other) [ inl e ↦ inl e | inr e ↦ inr (e.0, e.1) ])

  -- the mover is packed
  pub target_packed : IsPacked n after (target mv)
  target_packed =
      let over_to : sizes_over n after mv.to
      ≡ sizes_over n items mv.to = over_after n items are mv next.item mv.to next.below lands_below
      (inr (omega (arith, pack_far), omega arith)) in
      let same : sizes_over n items mv.from
      ≡ sizes_over n items mv.to = over_same n items mv.from mv.to (omega (arith, pack_far))
      (λ it there low high. pack_between it there low
      (omega (arith, high, are.some (mover mv) next.item))) in
      omega (arith, over_to, same, next.target)

  -- what a flush can be resumed from, after the move
  pub pack_keeps : ItemsCanResume k n after
  pack_keeps =
      record {
        wall = omega (arith, can.wall, laid_length_after n items are mv next.item k n.boundary width);
        slack = λ it there. elim (after_is n items are mv next.item it there) [
          | inl e ↦ subst (λ (x : Item). x.size ≤ n.slack) (sym e) (can.slack (mover mv) next.item)
          | inr old ↦ can.slack it old.0
        ];
        side = λ it there. elim (after_is n items are mv next.item it there) [
          | inl e ↦ subst (λ (x : Item). (n.wall ≤ x.place)
              ⊎ ((n.start ≤ x.place) × (x.place + x.size ≤ n.wall))) (sym e)
              (inr (omega (arith, are.start (mover mv) next.item, pack_far), omega (arith, next.target)))
          | inr old ↦ can.side it old.0
        ];
        order = λ it other there there_other low before. elim (after_is n items are mv next.item it there) [
          | inl e ↦ elim (after_is n items are mv next.item other there_other) [
            | inl e2 ↦ absurd (omega (
              arith,
              before,
              ap (λ (x : Item). x.place) e,
              ap (λ (x : Item). x.place) e2,
            ))
            | inr old ↦
                let before_from : other.place < mv.from = elim (other_stands other old.0 old.1) [
                  | inl h ↦ h.0
                  | inr h ↦ absurd (omega (arith, before, ap (λ (x : Item). x.place) e, h.1))
                ] in
                omega (
                  arith,
                  ap (λ (x : Item). x.class) e,
                  can.order (mover mv) other next.item old.0 next.below before_from,
                )
          ]
          | inr old ↦ elim (after_is n items are mv next.item other there_other) [
            | inl e2 ↦
                let past_from : mv.from < it.place =
                omega (arith, before, ap (λ (x : Item). x.place) e2, pack_far) in
                omega (
                  arith,
                  ap (λ (x : Item). x.class) e2,
                  can.order it (mover mv) old.0 next.item low past_from,
                )
            | inr old2 ↦ can.order it other old.0 old2.0 low before
          ]
        ];
        gap = λ it there low. elim (after_is n items are mv next.item it there) [
          | inl e ↦ inl (subst (IsPacked n after) (sym e) target_packed)
          | inr old ↦ elim (can.gap it old.0 low) [
            | inl packed ↦ inl (omega (arith, packed, over_other it old.0 old.1))
            | inr gap ↦ inr (omega (arith, gap, over_other it old.0 old.1))
          ]
        ];
      }

  pub pack_items : n.wall ≤ n.reach → AreItems n after
  pack_items reaches = items_after n items are mv next.item (pack_safe reaches)
