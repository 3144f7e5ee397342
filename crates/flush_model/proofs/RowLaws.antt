-- The rows against the wall: what is packed fills the range from where it begins, and so does what waits to
-- be
-- laid.
use Rattle.std.specs.Prelude.{◌≡◌, ℕ, ◌+◌, ◌<◌, ◌≤◌, nat_le, Bool, true, false, ◌&&◌, cond, List, Contains, refl, nat_lt}
use Rattle.std.proofs.Common.{arith, sym, ◌∙◌, ap, inl, inr}
use Rattle.flush_model.specs.declared.item.Item.{Item}
use Rattle.flush_model.specs.declared.item.Move.{Move}
use Rattle.flush_model.specs.declared.item.Numbers.{Numbers}
use Rattle.flush_model.specs.Phases.{AreItems, IsPacking, PlanState, bytes_below, is_packed_below, moved_by, packed_bytes}
use Rattle.flush_model.specs.Plans.{IsNextPack, IsPacked, is_below_wall, is_packed, mover, relocated, sizes_over}
use Rattle.std.proofs.lemmas.Bool.{and_from, and_left, and_parts, and_right, cases_lt, cond-false, cond-true, eq-eqb, le-leb, le-ltb, leb-true, lt-leb, lt-ltb, ne_eqb}
use Rattle.flush_model.proofs.PackLaws.{is_over, over, over_before, over_counts, over_parts, over_past, pack_far, sizes_over_is}
use Rattle.flush_model.proofs.ItemLaws.{items_within, same_or_apart, total_is, weight_moves, target}
use Rattle.flush_model.proofs.WaitingLaws.{pack_passes_behind}
use Rattle.flush_model.proofs.ListLaws.{sum_by_both, sum_by_more_in, sum_by_same_in}

-- Where an item ends, with the bytes over it, rises with its place.
module _ (n : Numbers) (items : List Item) (are : AreItems n items) (a u : Item) (has_a : Contains items a)
    (has_u : Contains items u) (before : a.place < u.place) (low : u.place < n.wall) where
  between : Item → Bool
  between x = is_over n a.place x && nat_le x.place u.place

  ends_before : a.place + a.size ≤ u.place
  ends_before = elim (same_or_apart n items are a u has_a has_u) [
    | inl e ↦ absurd (omega (arith, before, ap (λ (x : Item). x.place) e))
    | inr h ↦ elim h.1 [
      | inl e ↦ e
      | inr e ↦ absurd (omega (arith, e, before))
    ]
  ]

  within : (x : Item) → Contains items x → between x ≡ true
      → (a.place + a.size ≤ x.place) × (x.place + x.size ≤ u.place + u.size)
  unfolding between
  within x has is =
      let parts = and_parts (is_over n a.place x) (nat_le x.place u.place) is in
      let over_a = over_parts n a.place x parts.0 in
      let up : x.place ≤ u.place = leb-true x.place u.place parts.1 in (
        elim (same_or_apart n items are a x has_a has) [
          | inl e ↦ absurd (omega (arith, over_a.1, ap (λ (y : Item). y.place) e))
          | inr h ↦ elim h.1 [
            | inl e ↦ e
            | inr e ↦ absurd (omega (arith, e, over_a.1))
          ]
        ],
        elim (same_or_apart n items are x u has has_u) [
          | inl e ↦ omega (arith, ap (λ (y : Item). y.place) e, ap (λ (y : Item). y.size) e)
          | inr h ↦ elim h.1 [
            | inl e ↦ omega (arith, e)
            | inr e ↦ absurd (omega (arith, e, up, are.some u has_u))
          ]
        ],
      )

  each : (x : Item) → Contains items x → over n a.place x ≡ cond (between x) x.size 0 + over n u.place x
  unfolding between
  each x has = elim (cases_lt x.place n.wall) [
    | inr past ↦ omega (
      arith,
      over_past n a.place x past,
      over_past n u.place x past,
      cond-false (between x) x.size 0 (and_left (is_over n a.place x) (nat_le x.place u.place)
          (and_left (is_below_wall n x) (nat_lt a.place x.place) (le-ltb x.place n.wall past))),
    )
    | inl below ↦ elim (cases_lt a.place x.place) [
      | inr not_over ↦ omega (
        arith,
        over_before n a.place x not_over,
        over_before n u.place x (omega (arith, not_over, before)),
        cond-false (between x) x.size 0 (and_left (is_over n a.place x) (nat_le x.place u.place)
            (and_right (is_below_wall n x) (nat_lt a.place x.place) (le-ltb a.place x.place not_over))),
      )
      | inl over_a ↦ elim (cases_lt u.place x.place) [
        | inl over_u ↦ omega (
          arith,
          over_counts n a.place x below over_a,
          over_counts n u.place x below over_u,
          cond-false (between x) x.size 0 (and_right (is_over n a.place x) (nat_le x.place u.place)
              (lt-leb x.place u.place over_u)),
        )
        | inr up ↦ omega (
          arith,
          over_counts n a.place x below over_a,
          over_before n u.place x up,
          cond-true (between x) x.size 0 (and_from (is_over n a.place x) (nat_le x.place u.place)
              (and_from (is_below_wall n x) (nat_lt a.place x.place) (lt-ltb x.place n.wall below)
              (lt-ltb a.place x.place over_a)) (le-leb x.place u.place up)),
        )
      ]
    ]
  ]

  pub ends_rise : a.place + a.size + sizes_over n items a.place
      ≤ u.place + u.size + sizes_over n items u.place
  ends_rise = omega (
    arith,
    sizes_over_is n items a.place,
    sizes_over_is n items u.place,
    sum_by_same_in (over n a.place) (λ x. cond (between x) x.size 0 + over n u.place x) items each,
    sum_by_both (λ x. cond (between x) x.size 0) (over n u.place) items,
    items_within n items are between (a.place + a.size) (u.place + u.size) (omega (arith, ends_before))
        within,
  )

-- ---- Pack

module _ (p : PlanState) (is : IsPacking p) (mv : Move) (next : IsNextPack p.numbers p.items mv) where
  abbrev n : Numbers
  n = p.numbers

  far : mv.from + n.slack ≤ mv.to
  far = pack_far p.k n p.items is.items is.resumes mv next

  some_slack : 1 ≤ n.slack
  some_slack = omega (arith, is.resumes.slack (mover mv) next.item, is.items.some (mover mv) next.item)

  -- what is packed is what lies over the mover
  packed_over : (x : Item) → Contains p.items x → cond (is_packed_below p x) x.size 0 ≡ over n mv.from x
  packed_over x has = elim (cases_lt x.place n.wall) [
    | inr past ↦ cond-false (is_packed_below p x) x.size 0
        (and_left (is_below_wall n x) (is_packed n p.items x) (le-ltb x.place n.wall past))
        ∙ sym (over_past n mv.from x past)
    | inl low ↦ elim (cases_lt mv.from x.place) [
      | inl more ↦ cond-true (is_packed_below p x) x.size 0 (and_from (is_below_wall n x)
          (is_packed n p.items x) (lt-ltb x.place n.wall low)
          (eq-eqb (x.place + x.size + sizes_over n p.items x.place) n.wall (next.packed x has more low)))
          ∙ sym (over_counts n mv.from x low more)
      | inr before ↦ cond-false (is_packed_below p x) x.size 0 (and_right (is_below_wall n x)
          (is_packed n p.items x) (ne_eqb (x.place + x.size + sizes_over n p.items x.place) n.wall
          (loose x has before))) ∙ sym (over_before n mv.from x before)
    ]
  ]
    where
      loose : (x : Item) → Contains p.items x → x.place ≤ mv.from → IsPacked n p.items x → ⊥
      loose x has before packed = elim (cases_lt x.place mv.from) [
        | inl less ↦ omega (
          arith,
          packed,
          next.target,
          far,
          some_slack,
          ends_rise n p.items is.items x (mover mv) has next.item less next.below,
        )
        | inr more ↦ elim (same_or_apart n p.items is.items x (mover mv) has next.item) [
          | inl e ↦ next.moves (omega (
            arith,
            next.target,
            packed,
            ap (λ (y : Item). y.place) e,
            ap (λ (y : Item). y.size) e,
            ap (λ (y : Item). sizes_over n p.items y.place) e,
          ))
          | inr h ↦ elim h.1 [
            | inl e ↦ omega (arith, e, more, is.items.some x has)
            | inr e ↦ omega (arith, e, before, is.items.some (mover mv) next.item)
          ]
        ]
      ]

  packed_bytes_are : packed_bytes p ≡ sizes_over n p.items mv.from
  packed_bytes_are = total_is (is_packed_below p) p.items
      ∙ sum_by_same_in (λ x. cond (is_packed_below p x) x.size 0) (over n mv.from) p.items packed_over
      ∙ sym (sizes_over_is n p.items mv.from)

  pub packed_row : mv.to + mv.size + packed_bytes p ≡ n.wall
  packed_row = omega (arith, packed_bytes_are, next.target)

  pub packed_grows : packed_bytes (moved_by mv p) ≡ packed_bytes p + mv.size
  packed_grows =
      let passes = pack_passes_behind p is mv next in
      let q = is_packed_below (moved_by mv p) in
      omega (
        arith,
        total_is q (relocated mv.key mv.to p.items),
        total_is (is_packed_below p) p.items,
        weight_moves n p.items is.items mv next.item (is_packed_below p) q
            (λ it has other. sym (passes.same it has other)),
        cond-false (is_packed_below p (mover mv)) mv.size 0 passes.before,
        cond-true (q (target mv)) mv.size 0 passes.behind,
      )

  pub packed_few : packed_bytes p + mv.size ≤ bytes_below p
  packed_few = omega (
    arith,
    total_is (is_packed_below p) p.items,
    total_is (is_below_wall n) p.items,
    sum_by_more_in (λ x. cond (is_packed_below p x) x.size 0) (λ x. cond (is_below_wall n x) x.size 0)
        (mover mv) mv.size p.items next.item
        (omega (
          arith,
          cond-false (is_packed_below p (mover mv)) mv.size 0
              (pack_passes_behind p is mv next).before,
          cond-true (is_below_wall n (mover mv)) mv.size 0 (lt-ltb mv.from n.wall next.below),
        ))
        (λ x has. fewer (is_below_wall n x) (is_packed n p.items x) x.size),
  )
    where
      fewer : (b d : Bool) (size : ℕ) → cond (b && d) size 0 ≤ cond b size 0
      fewer true true size = omega arith
      fewer true false size = omega arith
      fewer false d size = omega arith

  pub below_stays : bytes_below (moved_by mv p) ≡ bytes_below p
  below_stays = omega (
    arith,
    total_is (is_below_wall n) (relocated mv.key mv.to p.items),
    total_is (is_below_wall n) p.items,
    weight_moves n p.items is.items mv next.item (is_below_wall n) (is_below_wall n) (λ it has other. refl),
    cond-true (is_below_wall n (mover mv)) mv.size 0 (lt-ltb mv.from n.wall next.below),
    cond-true (is_below_wall n (target mv)) mv.size 0 (lt-ltb mv.to n.wall
        (omega (arith, next.target, is.items.some (mover mv) next.item))),
  )
