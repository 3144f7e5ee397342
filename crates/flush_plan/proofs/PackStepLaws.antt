-- One step of Pack: the last item before the top goes up to it, or ends there.
use Rattle.std.specs.Prelude.{◌≡◌, ◌≢◌, ◌⊎◌, ℕ, ◌+◌, ◌<◌, ◌≤◌, nat_le, ◌&&◌, cond, List, Contains}
use Rattle.std.proofs.Common.{arith, sym, ◌∙◌, ap, subst, inl, inr}
use Rattle.std.proofs.lemmas.Bool.{cases_lt, cond-true, cond-false, lt-ltb, le-ltb, le-leb, lt-leb, leb-true, ltb-true, and_parts, and_from, and_left, and_right}
use Rattle.flush_model.specs.declared.item.Item.{Item}
use Rattle.flush_model.specs.declared.item.Move.{Move}
use Rattle.flush_model.specs.declared.item.Numbers.{Numbers}
use Rattle.flush_model.specs.Plans.{is_below_wall, IsNextPack, IsPacked, ItemsCanResume, mover, relocated, sizes_over, weight}
use Rattle.flush_model.specs.Phases.{AreItems}
use Rattle.flush_model.proofs.ListLaws.{sum_by_more_in, sum_by_none_in, sum_by_same_in}
use Rattle.flush_model.proofs.ItemLaws.{after_is, items_within, same_or_apart, target, total_is, weight_moves}
use Rattle.flush_model.proofs.PackLaws.{over, over_before, over_counts, over_other, over_past, pack_far, sizes_over_is, target_packed}
use Rattle.flush_plan.specs.Shelves.{IsLastBefore}
use Rattle.flush_plan.specs.Packs.{is_from, IsPackedFrom}

abbrev from_place : Numbers → ℕ → Item → ℕ
from_place n place it = cond (is_from n place it) it.size 0

from_counts : (n : Numbers) (place : ℕ) (it : Item) → it.place < n.wall → place ≤ it.place
    → from_place n place it ≡ it.size
from_counts n place it low from = cond-true (is_from n place it) it.size 0
    (and_from (is_below_wall n it) (nat_le place it.place) (lt-ltb it.place n.wall low)
    (le-leb place it.place from))

from_past : (n : Numbers) (place : ℕ) (it : Item) → n.wall ≤ it.place → from_place n place it ≡ 0
from_past n place it past = cond-false (is_from n place it) it.size 0
    (and_left (is_below_wall n it) (nat_le place it.place) (le-ltb it.place n.wall past))

from_before : (n : Numbers) (place : ℕ) (it : Item) → it.place < place → from_place n place it ≡ 0
from_before n place it before = cond-false (is_from n place it) it.size 0
    (and_right (is_below_wall n it) (nat_le place it.place) (lt-leb place it.place before))

-- nothing stands in the range at the wall that has no bytes
pub packed_from_wall : (n : Numbers) (items : List Item) → IsPackedFrom n items n.wall
packed_from_wall n items =
    record {
      high = omega arith;
      packed = λ it has from low. absurd (omega (arith, from, low));
      row = omega (arith, total_is (is_from n n.wall) items, sum_by_none_in (from_place n n.wall) items none);
    }
  where
    none : (it : Item) → Contains items it → from_place n n.wall it ≡ 0
    none it has = elim (cases_lt it.place n.wall) [
      | inl low ↦ from_before n n.wall it low
      | inr past ↦ from_past n n.wall it past
    ]

module _ (k : ℕ) (n : Numbers) (items : List Item) (are : AreItems n items) (can : ItemsCanResume k n items)
    (top : ℕ) (down : IsPackedFrom n items top) (m : Item) (last : IsLastBefore items top m) where
  has_m : Contains items m
  has_m = last.has

  before : m.place < top
  before = last.before

  low : m.place < n.wall
  low = omega (arith, before, down.high)

  -- where the items stand beside the last one
  pub stands : (it : Item) → Contains items it → (it ≡ m) ⊎ (it.place < m.place) ⊎ (top ≤ it.place)
  stands it has = elim (cases_lt it.place top) [
    | inr behind ↦ inr (inr behind)
    | inl less ↦ elim (cases_lt it.place m.place) [
      | inl front ↦ inr (inl front)
      | inr from ↦ elim (same_or_apart n items are it m has has_m) [
        | inl e ↦ inl e
        | inr h ↦ absurd (elim h.1 [
          | inl e ↦ omega (arith, e, from, are.some it has)
          | inr e ↦ omega (arith, e, last.last it has less, are.some m has_m)
        ])
      ]
    ]
  ]

  -- what stands over it begins at the top
  pub over_is_row : top + sizes_over n items m.place ≡ n.wall
  over_is_row = omega (
    arith,
    down.row,
    total_is (is_from n top) items,
    sizes_over_is n items m.place,
    sum_by_same_in (from_place n top) (over n m.place) items each,
  )
    where
      each : (it : Item) → Contains items it → from_place n top it ≡ over n m.place it
      each it has = elim (cases_lt it.place n.wall) [
        | inr past ↦ from_past n top it past ∙ sym (over_past n m.place it past)
        | inl below ↦ elim (stands it has) [
          | inl e ↦
              let here : it.place ≡ m.place = ap (λ (x : Item). x.place) e in
              from_before n top it (omega (arith, here, before))
              ∙ sym (over_before n m.place it (omega (arith, here)))
          | inr (inl front) ↦ from_before n top it (omega (arith, front, before))
              ∙ sym (over_before n m.place it (omega (arith, front)))
          | inr (inr behind) ↦ from_counts n top it below behind
              ∙ sym (over_counts n m.place it below (omega (arith, behind, before)))
        ]
      ]

  pub ends_before_top : m.place + m.size ≤ top
  ends_before_top = elim (can.gap m has_m low) [
    | inl packed ↦ omega (arith, packed, over_is_row)
    | inr gap ↦ omega (arith, gap, over_is_row)
  ]

  -- no other item before the top ends there
  pub alone_at_top : (it : Item) → Contains items it → it.place < top → it.place + it.size ≡ top → it ≡ m
  alone_at_top it has less ends = elim (same_or_apart n items are it m has has_m) [
    | inl e ↦ e
    | inr h ↦ absurd (elim h.1 [
      | inl e ↦ omega (arith, e, ends, before)
      | inr e ↦ omega (arith, e, last.last it has less, are.some m has_m)
    ])
  ]

  -- one that ends at the top is packed
  pub pack_stays : m.place + m.size ≡ top → IsPackedFrom n items m.place
  pack_stays ends =
      record {
        high = omega (arith, low);
        packed = λ it has from below. elim (stands it has) [
          | inl e ↦ subst (IsPacked n items) (sym e) (omega (arith, ends, over_is_row))
          | inr (inl front) ↦ absurd (omega (arith, front, from))
          | inr (inr behind) ↦ down.packed it has behind below
        ];
        row = omega (arith, at_least, at_most, over_is_row, ends, total_is (is_from n m.place) items);
      }
    where
      each : (it : Item) → Contains items it → over n m.place it ≤ from_place n m.place it
      each it has = elim (cases_lt it.place n.wall) [
        | inr past ↦ omega (arith, over_past n m.place it past)
        | inl below ↦ elim (cases_lt m.place it.place) [
          | inr front ↦ omega (arith, over_before n m.place it front)
          | inl more ↦ omega (
            arith,
            over_counts n m.place it below more,
            from_counts n m.place it below (omega (arith, more)),
          )
        ]
      ]

      at_least : sizes_over n items m.place + m.size ≤ weight (is_from n m.place) items
      at_least = omega (
        arith,
        sizes_over_is n items m.place,
        sum_by_more_in (over n m.place) (from_place n m.place) m m.size items has_m
            (omega (arith, over_before n m.place m (omega arith), from_counts n m.place m low (omega arith)))
            each,
      )

      at_most : m.place + weight (is_from n m.place) items ≤ n.wall
      at_most = items_within n items are (is_from n m.place) m.place n.wall (omega (arith, low)) (λ it has is.
          let parts = and_parts (is_below_wall n it) (nat_le m.place it.place) is in (
            leb-true m.place it.place parts.1,
            elim (can.side it has) [
              | inl past ↦ absurd (omega (arith, past, ltb-true it.place n.wall parts.0))
              | inr side ↦ side.1
            ],
          ))

  -- one that doesn't is the next to be packed
  module _ (mv : Move) (is : mover mv ≡ m) (ends : mv.to + mv.size ≡ top) (loose : m.place + m.size ≢ top)
    where
      from_is : mv.from ≡ m.place
      from_is = ap (λ (x : Item). x.place) is

      size_is : mv.size ≡ m.size
      size_is = ap (λ (x : Item). x.size) is

      has_mover : Contains items (mover mv)
      has_mover = subst (Contains items) (sym is) has_m

      pub pack_next : IsNextPack n items mv
      pack_next =
          record {
            item = has_mover;
            below = omega (arith, from_is, low);
            moves = λ e. loose (omega (arith, e, from_is, size_is, ends));
            target = omega (arith, ends, over_is_row, ap (sizes_over n items) from_is);
            packed = λ it has more below. elim (stands it has) [
              | inl e ↦ absurd (omega (arith, more, from_is, ap (λ (x : Item). x.place) e))
              | inr (inl front) ↦ absurd (omega (arith, more, from_is, front))
              | inr (inr behind) ↦ down.packed it has behind below
            ];
          }

      abbrev after : List Item
      after = relocated mv.key mv.to items

      far : mv.from + n.slack ≤ mv.to
      far = pack_far k n items are can mv pack_next

      some_slack : 1 ≤ n.slack
      some_slack = omega (arith, can.slack m has_m, are.some m has_m)

      -- the others stand before the mover's place, or from the top on
      others : (it : Item) → Contains items it → it.key ≢ mv.key → (it.place < m.place) ⊎ (top ≤ it.place)
      others it has other = elim (stands it has) [
        | inl e ↦ absurd (other (ap (λ (x : Item). x.key) (e ∙ sym is)))
        | inr where_it ↦ where_it
      ]

      pub pack_moves : IsPackedFrom n after mv.to
      pack_moves =
          record {
            high = omega (arith, ends, down.high);
            packed = λ it has from below. elim (after_is n items are mv has_mover it has) [
              | inl e ↦ subst (IsPacked n after) (sym e) (target_packed k n items are can mv pack_next)
              | inr old ↦ elim (others it old.0 old.1) [
                | inl front ↦ absurd (omega (arith, from, front, from_is, far))
                | inr behind ↦ omega (
                  arith,
                  down.packed it old.0 behind below,
                  over_other k n items are can mv pack_next it old.0 old.1,
                )
              ]
            ];
            row = omega (
              arith,
              down.row,
              ends,
              total_is (is_from n top) items,
              total_is (is_from n mv.to) after,
              weight_moves n items are mv has_mover (is_from n top) (is_from n mv.to) each,
              from_before n top (mover mv) (omega (arith, from_is, before)),
              from_counts n mv.to (target mv)
                  (omega (arith, ends, down.high, size_is, are.some m has_m)) (omega arith),
            );
          }
        where
          each : (it : Item) → Contains items it → it.key ≢ mv.key → is_from n top it ≡ is_from n mv.to it
          each it has other = ap (λ b. is_below_wall n it && b) (elim (others it has other) [
            | inl front ↦ lt-leb top it.place (omega (arith, front, before))
                ∙ sym (lt-leb mv.to it.place (omega (arith, front, from_is, far)))
            | inr behind ↦ le-leb top it.place behind
                ∙ sym (le-leb mv.to it.place (omega (arith, behind, ends)))
          ])

      -- and what stands before it then is loose again
      pub pack_loosens : (it : Item) → Contains after it → it.place < mv.to → it.place + it.size ≢ mv.to
      pack_loosens it has less ends_there = elim (after_is n items are mv has_mover it has) [
        | inl e ↦ omega (arith, less, ap (λ (x : Item). x.place) e)
        | inr old ↦ elim (others it old.0 old.1) [
          | inr behind ↦ omega (arith, behind, less, ends)
          | inl front ↦ elim (same_or_apart n items are it m old.0 has_m) [
            | inl e ↦ omega (arith, front, ap (λ (x : Item). x.place) e)
            | inr h ↦ elim h.1 [
              | inl e ↦ omega (arith, e, ends_there, from_is, far, some_slack)
              | inr e ↦ omega (arith, e, front, are.some m has_m)
            ]
          ]
        ]
      ]
