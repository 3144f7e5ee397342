-- A move of Lay: it is safe and far.
use Rattle.std.specs.Prelude.{◌≡◌, ◌⊎◌, ℕ, ◌+◌, ◌<◌, ◌≤◌, nat_le, min, not, Bool, true, false, ◌&&◌, cond, List, [], ◌∷◌, Contains, refl}
use Rattle.std.proofs.Common.{arith, sym, ◌∙◌, ap, subst, inl, inr}
use Rattle.std.proofs.lemmas.Bool.{both_ways, cases_lt, cases_eq, cases_order, cases_Bool, cond-true, cond-false, lt-ltb, ltb-true, le-leb, leb-true, ne_eqb, eqb-false, and_parts, and_from, not-true, not_from_false}
use Rattle.std.proofs.Math.Nat.{min-le_left, min-le_right, le-min}
use Rattle.flush_model.specs.declared.item.Item.{Item}
use Rattle.flush_model.specs.declared.item.Move.{Move}
use Rattle.flush_model.specs.declared.item.Numbers.{Numbers}
use Rattle.flush_model.specs.Plans.{final_place, first_unlaid, is_below_wall, is_laid, IsBefore, IsLaid, IsNextLay, IsPacked, IsSafe, ItemsCanResume, least_unlaid, mover, sizes_over, weight, HasRoom}
use Rattle.flush_model.specs.Phases.{AreItems, AreLaying}
use Rattle.flush_model.proofs.ListLaws.{contains_cases, contains_here, contains_later, sum_by_more_in}
use Rattle.flush_model.proofs.ItemLaws.{same_or_apart}
use Rattle.flush_model.proofs.PackLaws.{is_over, over, over_before, over_counts, over_past, over_parts, sizes_over_is}
use Rattle.flush_model.proofs.FinalLaws.{final_rises, lay_room, order_total}

-- below the wall the classes don't fall as the places rise
abbrev pub AreOrdered : Numbers → List Item → Type 0
AreOrdered n items = (it other : Item) → Contains items it → Contains items other → it.place < n.wall
    → other.place < it.place → other.class ≤ it.class

pub cases_laid : (k : ℕ) (n : Numbers) (items : List Item) (it : Item)
    → IsLaid k n items it ⊎ (IsLaid k n items it → ⊥)
cases_laid k n items it = cases_eq it.place (final_place k n items it.class it.place)

pub before_trans : (a b c : Item) → IsBefore a b → IsBefore b c → IsBefore a c
before_trans a b c ab bc = elim ab [
  | inl x ↦ elim bc [ inl y ↦ inl (omega (arith, x, y)) | inr y ↦ inl (omega (arith, x, y.0)) ]
  | inr x ↦ elim bc [ inl y ↦ inl (omega (arith, x.0, y)) | inr y ↦ inr (x.0 ∙ y.0, omega (arith, x.1, y.1)) ]
]

module _ (k : ℕ) (n : Numbers) (items : List Item) (are : AreItems n items) (room : HasRoom k n items)
    (order : AreOrdered n items) where
  abbrev final : Item → ℕ
  final it = final_place k n items it.class it.place

  -- behind an item's final place there is room for all that stands over it, and for the slack
  pub room_over : (it : Item) → Contains items it → it.place < n.wall
      → final it + it.size + sizes_over n items it.place + n.slack ≤ n.wall
  room_over it has low = omega (
    arith,
    lay_room k n items are room it has (is_over n it.place) behind,
    sizes_over_is n items it.place,
  )
    where
      behind : (x : Item) → Contains items x → is_over n it.place x ≡ true → IsBefore it x
      behind x there is =
          let parts = over_parts n it.place x is in
          elim (cases_order it.class x.class) [
            | inl same ↦ inr (same, parts.1)
            | inr (inl less) ↦ inl less
            | inr (inr more) ↦ absurd (omega (arith, more, order x it there has parts.0 parts.1))
          ]

  -- what is packed stands by the slack past its final place
  pub packed_far : (it : Item) → Contains items it → it.place < n.wall → IsPacked n items it
      → final it + n.slack ≤ it.place
  packed_far it has low packed = omega (arith, packed, room_over it has low)

  -- so does what lies past the wall
  pub past_far : (it : Item) → Contains items it → n.wall ≤ it.place → final it + it.size + n.slack ≤ it.place
  past_far it has past = omega (
    arith,
    past,
    lay_room k n items are room it has (λ x. false) (λ x there is. absurd (both_ways false refl is)),
  )

  -- and no laid item is packed
  pub laid_gap : (it : Item) → Contains items it → it.place < n.wall → IsLaid k n items it
      → it.place + it.size + sizes_over n items it.place + n.slack ≤ n.wall
  laid_gap it has low laid = omega (arith, laid, room_over it has low)

-- ---- a move of Lay

module _ (k : ℕ) (n : Numbers) (items : List Item) (are : AreItems n items) (can : ItemsCanResume k n items)
    (laying : AreLaying k n items) (mv : Move) (next : IsNextLay k n items mv) where
  abbrev m : Item
  m = mover mv

  pub some_slack : 1 ≤ n.slack
  some_slack = omega (arith, can.slack m next.item, are.some m next.item)

  pub unlaid : IsLaid k n items m → ⊥
  unlaid laid = next.moves (next.target ∙ sym laid)

  -- it goes down by the slack at least
  pub lay_down : mv.to + n.slack ≤ mv.from
  lay_down = elim (cases_lt mv.from n.wall) [
    | inr past ↦ omega (arith, past_far k n items are can.wall can.order m next.item past, next.target)
    | inl low ↦ elim (laying.packed m next.item low) [
      | inl laid ↦ absurd (unlaid laid)
      | inr packed ↦ omega (
        arith,
        packed_far k n items are can.wall can.order m next.item low packed,
        next.target,
      )
    ]
  ]

  -- the target ends below the wall, with the slack behind it
  pub lay_fits : mv.to + mv.size + n.slack ≤ n.wall
  lay_fits = omega (
    arith,
    lay_room k n items are can.wall m next.item (λ x. false)
        (λ x there is. absurd (both_ways false refl is)),
    next.target,
  )

  -- what isn't laid doesn't come before the mover
  pub unlaid_behind : (u : Item) → Contains items u → (IsLaid k n items u → ⊥) → (u ≡ m) ⊎ IsBefore m u
  unlaid_behind u has not_laid = elim (order_total k n items are m u next.item has) [
    | inl e ↦ inl (sym e)
    | inr (inl before) ↦ inr before
    | inr (inr behind) ↦ absurd (not_laid (next.laid u has behind))
  ]

  -- the target ends by the slack before each item below the wall that isn't laid
  pub lay_far_each : (u : Item) → Contains items u → u.place < n.wall → (IsLaid k n items u → ⊥)
      → mv.to + n.slack ≤ u.place
  lay_far_each u has low not_laid = elim (unlaid_behind u has not_laid) [
    | inl same ↦ omega (arith, lay_down, ap (λ (x : Item). x.place) same)
    | inr before ↦ elim (laying.packed u has low) [
      | inl laid ↦ absurd (not_laid laid)
      | inr packed ↦ omega (
        arith,
        next.target,
        packed,
        lay_room k n items are can.wall m next.item q (behind before),
        counted,
      )
    ]
  ]
    where
      q : Item → Bool
      q x = is_below_wall n x && nat_le u.place x.place

      behind : IsBefore m u → (x : Item) → Contains items x → q x ≡ true → IsBefore m x
      behind before x there is =
          let parts = and_parts (is_below_wall n x) (nat_le u.place x.place) is in
          let below : x.place < n.wall = ltb-true x.place n.wall parts.0 in
          let from : u.place ≤ x.place = leb-true u.place x.place parts.1 in
          elim (cases_lt u.place x.place) [
            | inl over ↦ elim (cases_order u.class x.class) [
              | inl same ↦ before_trans m u x before (inr (same, over))
              | inr (inl less) ↦ before_trans m u x before (inl less)
              | inr (inr more) ↦ absurd (omega (arith, more, can.order x u there has below over))
            ]
            | inr same ↦ elim (same_or_apart n items are u x has there) [
              | inl e ↦ subst (IsBefore m) e before
              | inr h ↦ absurd (elim h.1 [
                | inl e ↦ omega (arith, e, same, are.some u has)
                | inr e ↦ omega
                    (arith, e, from, are.some x there)
              ])
            ]
          ]

      passes : (x : Item) → x.place < n.wall → u.place ≤ x.place → cond (q x) x.size 0 ≡ x.size
      passes x below from = cond-true (q x) x.size 0
          (and_from (is_below_wall n x) (nat_le u.place x.place) (lt-ltb x.place n.wall below)
          (le-leb u.place x.place from))

      each : (x : Item) → Contains items x → over n u.place x ≤ cond (q x) x.size 0
      each x there = elim (cases_lt x.place n.wall) [
        | inr past ↦ omega (arith, over_past n u.place x past)
        | inl below ↦ elim (cases_lt u.place x.place) [
          | inr before ↦ omega (arith, over_before n u.place x before)
          | inl more ↦ omega (arith, over_counts n u.place x below more, passes x below (omega (arith, more)))
        ]
      ]

      counted : sizes_over n items u.place + u.size ≤ weight q items
      counted = omega (
        arith,
        sizes_over_is n items u.place,
        sum_by_more_in (over n u.place) (λ x. cond (q x) x.size 0) u u.size items has
            (omega (arith, over_before n u.place u (omega arith), passes u low (omega arith))) each,
      )

  abbrev waits : Item → Bool
  waits it = is_below_wall n it && not (is_laid k n items it)

  pub waits_parts : (it : Item) → waits it ≡ true → (it.place < n.wall) × (IsLaid k n items it → ⊥)
  waits_parts it is =
      let parts = and_parts (is_below_wall n it) (not (is_laid k n items it)) is in (
        ltb-true it.place n.wall parts.0,
        eqb-false it.place (final_place k n items it.class it.place)
            (not-true (is_laid k n items it) parts.1),
      )

  pub waits_from : (it : Item) → it.place < n.wall → (IsLaid k n items it → ⊥) → waits it ≡ true
  waits_from it low not_laid = and_from (is_below_wall n it) (not (is_laid k n items it))
      (lt-ltb it.place n.wall low) (not_from_false (is_laid k n items it)
      (ne_eqb it.place (final_place k n items it.class it.place) not_laid))

  pub least_from : (bound : ℕ) (rest : List Item) → bound ≤ n.wall
      → ((it : Item) → Contains rest it → waits it ≡ true → bound ≤ it.place)
      → bound ≤ least_unlaid k n items rest
  least_from bound [] high each = high
  least_from bound (x ∷ rest) high each =
      let later = least_from bound rest high (λ it has is. each it (contains_later x it rest has) is) in
      elim (cases_Bool (waits x)) [
        | inl is ↦ omega (
          arith,
          cond-true (waits x) (min x.place (least_unlaid k n items rest))
              (least_unlaid k n items rest) is,
          each x (contains_here x rest) is,
          later,
          le-min (each x (contains_here x rest) is) later,
        )
        | inr other ↦ omega (
          arith,
          cond-false (waits x) (min x.place (least_unlaid k n items rest))
              (least_unlaid k n items rest) other,
          later,
        )
      ]

  pub least_high : (rest : List Item) → least_unlaid k n items rest ≤ n.wall
  least_high [] = omega arith
  least_high (x ∷ rest) = elim (cases_Bool (waits x)) [
    | inl is ↦ omega (
      arith,
      cond-true (waits x) (min x.place (least_unlaid k n items rest))
          (least_unlaid k n items rest) is,
      least_high rest,
      min-le_right x.place (least_unlaid k n items rest),
    )
    | inr other ↦ omega (
      arith,
      cond-false (waits x) (min x.place (least_unlaid k n items rest))
          (least_unlaid k n items rest) other,
      least_high rest,
    )
  ]

  pub least_at : (rest : List Item) (it : Item) → Contains rest it → waits it ≡ true
      → least_unlaid k n items rest ≤ it.place
  least_at [] it has is = absurd (omega (arith, has.1))
  least_at (x ∷ rest) it has is = elim (contains_cases x it rest has) [
    | inl e ↦
        let here : waits x ≡ true = ap waits (sym e) ∙ is in
        omega (
          arith,
          cond-true (waits x) (min x.place (least_unlaid k n items rest))
              (least_unlaid k n items rest) here,
          ap (λ (y : Item). y.place) e,
          min-le_left x.place (least_unlaid k n items rest),
        )
    | inr later ↦ elim (cases_Bool (waits x)) [
      | inl holds ↦ omega (
        arith,
        cond-true (waits x) (min x.place (least_unlaid k n items rest))
            (least_unlaid k n items rest) holds,
        least_at rest it later is,
        min-le_right x.place (least_unlaid k n items rest),
      )
      | inr fails ↦ omega (
        arith,
        cond-false (waits x) (min x.place (least_unlaid k n items rest))
            (least_unlaid k n items rest) fails,
        least_at rest it later is,
      )
    ]
  ]

  -- The target begins by the slack before the first item that isn't laid, and before the wall.
  pub lay_far : mv.to + n.slack ≤ first_unlaid k n items
  lay_far = least_from (mv.to + n.slack) items (omega (arith, lay_fits))
      (λ it has is. let p = waits_parts it is in lay_far_each it has p.0 p.1)

  -- Each item ends where the target begins, or before, or begins where the first one that isn't laid begins,
  -- or behind.
  pub lay_sides : (it : Item) → Contains items it
      → (it.place + it.size ≤ mv.to) ⊎ (first_unlaid k n items ≤ it.place)
  lay_sides it has =
      elim (cases_lt it.place n.wall) [
        | inr past ↦ inr (omega (arith, past, least_high items))
        | inl low ↦ elim (cases_laid k n items it) [
          | inr not_laid ↦ inr (least_at items it has (waits_from it low not_laid))
          | inl laid ↦ elim (order_total k n items are m it next.item has) [
            | inl e ↦ absurd (unlaid (subst (IsLaid k n items) (sym e) laid))
            | inr (inl before) ↦ absurd (unlaid (laying.front m it next.item has before laid))
            | inr (inr behind) ↦ inl (omega (
              arith,
              laid,
              next.target,
              final_rises k n items are it m has next.item behind,
            ))
          ]
        ]
      ]

  pub lay_safe : n.wall ≤ n.reach → IsSafe n items mv
  lay_safe reaches =
      record {
        apart = λ it has. elim (lay_sides it has) [
          | inl e ↦ inr e
          | inr e ↦ inl (omega (arith, e, lay_far, can.slack m next.item))
        ];
        low = omega (arith, next.target);
        high = omega (arith, lay_fits, reaches);
      }
