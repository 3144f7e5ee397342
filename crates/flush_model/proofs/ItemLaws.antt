-- The items of a flush before and after one of them has moved.
use Rattle.std.specs.Prelude.{◌≡◌, ◌≢◌, ◌⊎◌, ℕ, ◌+◌, ◌<◌, ◌≤◌, ◌==◌, Bool, true, cond, List, length, filter, sum_by, slice_index_or, slice_set, slice_get, Some, option_map, Contains, refl, [], ◌∷◌}
use Rattle.std.proofs.Common.{arith, sym, ◌∙◌, ap, subst, inl, inr}
use Rattle.std.proofs.lemmas.Bool.{cases_order, cases_eq, cond-true, cond-false, eq-eqb, ne_eqb}
use Rattle.std.proofs.lemmas.List.{ext_get_or, get_or-set_other, get_or-set_same, get_or_default, length-map, length-set}
use Rattle.std.proofs.lemmas.Option.{slice_get-get_or, slice_get-map, slice_get_within, get_or_from_slice_get, same_Some}
use Rattle.size_class.specs.Classes.{class_of}
use Rattle.map_model.proofs.MapLaws.{sum_by-map}
use Rattle.segment_layout.proofs.ApartLaws.{ArePairsApart, pairs_from_places}
use Rattle.segment_layout.proofs.BookLaws.{sum_by-filter}
use Rattle.flush_model.specs.declared.item.Item.{Item}
use Rattle.flush_model.specs.declared.item.Move.{Move}
use Rattle.flush_model.specs.declared.item.Numbers.{Numbers}
use Rattle.flush_model.specs.Plans.{IsSafe, ItemsApart, moved_item, mover, relocated, total, weight}
use Rattle.flush_model.specs.Phases.{AreItems}
use Rattle.flush_model.proofs.ListLaws.{apart_in, sum_by_one_place}

abbrev pub place_of : Item → ℕ
place_of it = it.place

abbrev pub size_of : Item → ℕ
size_of it = it.size

pub total_is : (q : Item → Bool) (items : List Item) → total (filter q items) ≡ weight q items
total_is q items = sum_by-filter size_of q items

-- the mover, where the move takes it
abbrev pub target : Move → Item
target mv = record { key = mv.key; class = mv.class; place = mv.to; size = mv.size }

-- ---- items that share no byte and have two keys

module _ (n : Numbers) (items : List Item) (are : AreItems n items) where
  pub at_place : (it : Item) (has : Contains items it) → slice_get items has.0 ≡ Some it
  at_place it has = slice_get-get_or items has.0 it has.1 ∙ ap Some has.2

  pub same_or_apart : (a b : Item) → Contains items a → Contains items b
      → (a ≡ b) ⊎ ((a.key ≢ b.key) × ((a.place + a.size ≤ b.place) ⊎ (b.place + b.size ≤ a.place)))
  same_or_apart a b has_a has_b =
      elim (cases_order has_a.0 has_b.0) [
        | inl e ↦ inl (same_Some a b (sym (at_place a has_a) ∙ ap (slice_get items) e ∙ at_place b has_b))
        | inr (inl less) ↦
            let h = are.apart has_a.0 has_b.0 a b less (at_place a has_a) (at_place b has_b) in
            inr (h.keys, h.bytes)
        | inr (inr more) ↦
            let h = are.apart has_b.0 has_a.0 b a more (at_place b has_b) (at_place a has_a) in
            inr (λ e. h.keys (sym e), elim h.bytes [ inl x ↦ inr x | inr x ↦ inl x ])
      ]

  pub same_key : (a b : Item) → Contains items a → Contains items b → a.key ≡ b.key → a ≡ b
  same_key a b has_a has_b e = elim (same_or_apart a b has_a has_b) [
    | inl same ↦ same
    | inr h ↦ absurd
        (h.0 e)
  ]

  pub pairs_apart : ArePairsApart place_of size_of items
  pairs_apart = pairs items (λ i j a b. are.apart i j a b)
    where
      pairs : (xs : List Item) → ((i j : ℕ) (a b : Item) → i < j → slice_get xs i ≡ Some a
          → slice_get xs j ≡ Some b → ItemsApart a b) → ArePairsApart place_of size_of xs
      pairs [] each = tt
      pairs (x ∷ xs) each = pairs_from_places place_of size_of x (x ∷ xs) (λ i h less within.
          let both = each h i (slice_index_or (x ∷ xs) h x) (slice_index_or (x ∷ xs) i x) less
          (slice_get-get_or (x ∷ xs) h x (omega (arith, less, within)))
          (slice_get-get_or (x ∷ xs) i x within) in
          elim both.bytes [ inl e ↦ inr (inr (inl e)) | inr e ↦ inr (inr (inr e)) ])

  -- the one inequality, of items
  pub items_within : (q : Item → Bool) (low high : ℕ) → low ≤ high
      → ((it : Item) → Contains items it → q it ≡ true → (low ≤ it.place) × (it.place + it.size ≤ high))
      → low + weight q items ≤ high
  items_within q low high rises within = apart_in place_of size_of q low high items pairs_apart rises within

  -- ---- one item moved

  module _ (mv : Move) (has : Contains items (mover mv)) where
    abbrev after : List Item
    after = relocated mv.key mv.to items

    moves_mover : moved_item mv.key mv.to (mover mv) ≡ target mv
    moves_mover = cond-true (mv.key == mv.key) (target mv) (mover mv) (eq-eqb mv.key mv.key refl)

    leaves_other : (it : Item) → it.key ≢ mv.key → moved_item mv.key mv.to it ≡ it
    leaves_other it other = cond-false (it.key == mv.key) (record it { place = mv.to }) it
        (ne_eqb it.key mv.key other)

    pub one_moves : (f g : Item → ℕ) → ((it : Item) → Contains items it → it.key ≢ mv.key → f it ≡ g it)
        → sum_by g after + f (mover mv) ≡ sum_by f items + g (target mv)
    one_moves f g same =
        let h : Item → ℕ = λ it. g (moved_item mv.key mv.to it) in
        let at : slice_index_or items has.0 (mover mv) ≡ mover mv = has.2 in
        let each : (i : ℕ) → i < length items → i ≢ has.0
        → h (slice_index_or items i (mover mv))
        ≡ f (slice_index_or items i (mover mv)) = λ i within other.
        let it = slice_index_or items i (mover mv) in
        let differs : it.key ≢ mv.key = λ e. elim (cases_order i has.0) [
          | inl x ↦ other x
          | inr (inl less) ↦ (are.apart i has.0 it (mover mv) less
              (slice_get-get_or items i (mover mv) within) (at_place (mover mv) has)).keys e
          | inr (inr more) ↦ (are.apart has.0 i (mover mv) it more (at_place (mover mv) has)
              (slice_get-get_or items i (mover mv) within)).keys (sym e)
        ] in
        ap g (leaves_other it differs) ∙ sym (same it (contains_at i within) differs)
        in
        let sums = sum_by_one_place (mover mv) h f has.0 items has.1 each in
        omega (arith, sums, sum_by-map g (moved_item mv.key mv.to) items, ap f at, ap h at, ap g moves_mover)
      where
        contains_at : (i : ℕ) → i < length items → Contains items (slice_index_or items i (mover mv))
        contains_at i within = (
          i,
          within,
          get_or_default items i (slice_index_or items i (mover mv)) (mover mv) within,
        )

    pub weight_moves : (p q : Item → Bool) → ((it : Item) → Contains items it → it.key ≢ mv.key → p it ≡ q it)
        → weight q after + cond (p (mover mv)) mv.size 0 ≡ weight p items + cond (q (target mv)) mv.size 0
    weight_moves p q same = one_moves (λ it. cond (p it) it.size 0) (λ it. cond (q it) it.size 0)
        (λ it has other. ap (λ b. cond b it.size 0) (same it has other))

    pub after_is : (it : Item) → Contains after it
        → (it ≡ target mv) ⊎ (Contains items it × (it.key ≢ mv.key))
    after_is it there =
        let i = there.0 in
        let within : i < length items = omega (arith, there.1, length-map items (moved_item mv.key mv.to)) in
        let old = slice_index_or items i (mover mv) in
        let got : slice_get items i ≡ Some old = slice_get-get_or items i (mover mv) within in
        let is : it ≡ moved_item mv.key mv.to old =
        same_Some it (moved_item mv.key mv.to old)
        (sym (slice_get-get_or after i it there.1 ∙ ap Some there.2)
        ∙ slice_get-map (moved_item mv.key mv.to) items i ∙ ap (option_map (moved_item mv.key mv.to)) got)
        in
        let has_old : Contains items old = (i, within, get_or_default items i old (mover mv) within) in
        elim (cases_eq old.key mv.key) [
          | inl e ↦ inl (is ∙ ap (moved_item mv.key mv.to) (same_key old (mover mv) has_old has e)
              ∙ moves_mover)
          | inr other ↦
              let same : it ≡ old = is ∙ leaves_other old other in
              inr (
                subst (Contains items) (sym same) has_old,
                λ e. other (ap (λ (x : Item). x.key) (sym same) ∙ e),
              )
        ]

    -- where an item of the list behind the move was: it is the mover's place, or another item stands there
    -- unmoved
    pub after_got : (i : ℕ) (a : Item) → slice_get after i ≡ Some a
        → ((i ≡ has.0) × (a ≡ target mv)) ⊎ ((i ≢ has.0) × (slice_get items i ≡ Some a) × (a.key ≢ mv.key))
    after_got i a got =
        let within : i < length items = omega
        (arith, slice_get_within after i a got, length-map items (moved_item mv.key mv.to)) in
        let old = slice_index_or items i (mover mv) in
        let there : slice_get items i ≡ Some old = slice_get-get_or items i (mover mv) within in
        let is : a ≡ moved_item mv.key mv.to old =
        same_Some a (moved_item mv.key mv.to old)
        (sym got ∙ slice_get-map (moved_item mv.key mv.to) items i
        ∙ ap (option_map (moved_item mv.key mv.to)) there) in
        elim (cases_eq i has.0) [
          | inl e ↦
              let same : old ≡ mover mv = ap (λ x. slice_index_or items x (mover mv)) e ∙ has.2 in
              inl (e, is ∙ ap (moved_item mv.key mv.to) same ∙ moves_mover)
          | inr differ ↦
              let other : old.key ≢ mv.key = λ e. elim (cases_order i has.0) [
                | inl x ↦ differ x
                | inr (inl less) ↦ (are.apart i has.0 old (mover mv) less there
                    (at_place (mover mv) has)).keys e
                | inr (inr more) ↦ (are.apart has.0 i (mover mv) old more (at_place (mover mv) has)
                    there).keys (sym e)
              ] in
              let same : a ≡ old = is ∙ leaves_other old other in
              inr (differ, there ∙ ap Some (sym same), λ e. other (ap (λ (x : Item). x.key) (sym same) ∙ e))
        ]

    -- the list behind the move has the mover's target at the mover's index
    pub after_is_set : after ≡ slice_set items has.0 (target mv)
    after_is_set =
        ext_get_or (mover mv) after (slice_set items has.0 (target mv))
        (length-map items (moved_item mv.key mv.to) ∙ sym (length-set items has.0 (target mv))) (λ i h.
        let within : i < length items = omega (arith, h, length-map items (moved_item mv.key mv.to)) in
        let a = slice_index_or after i (mover mv) in
        elim (after_got i a (slice_get-get_or after i (mover mv) h)) [
          | inl here ↦ here.1 ∙ sym (ap (λ x. slice_index_or (slice_set items has.0 (target mv)) x (mover mv))
              here.0 ∙ get_or-set_same items has.0 (target mv) (mover mv) has.1)
          | inr other ↦ sym (get_or_from_slice_get items i a (mover mv) other.1)
              ∙ sym (get_or-set_other items has.0 i (target mv) (mover mv) other.0)
        ])

    contains_moved : (it : Item) → Contains items it → Contains after (moved_item mv.key mv.to it)
    contains_moved it there =
        let within : there.0 < length after =
        omega (arith, there.1, length-map items (moved_item mv.key mv.to)) in
        let got : slice_get after there.0 ≡ Some (moved_item mv.key mv.to it) =
        slice_get-map (moved_item mv.key mv.to) items there.0
        ∙ ap (option_map (moved_item mv.key mv.to)) (at_place it there) in (
          there.0,
          within,
          get_or_from_slice_get after there.0 (moved_item mv.key mv.to it)
              (moved_item mv.key mv.to it) got,
        )

    pub has_target : Contains after (target mv)
    has_target = subst (Contains after) moves_mover (contains_moved (mover mv) has)

    pub has_other : (it : Item) → Contains items it → it.key ≢ mv.key → Contains after it
    has_other it there other = subst (Contains after) (leaves_other it other) (contains_moved it there)

    -- What is kept of the items stays through a safe move.
    pub items_after : IsSafe n items mv → AreItems n after
    items_after safe =
        let f = moved_item mv.key mv.to in
        record {
          apart = λ i j a b less at_i at_j.
              let old_i = before i a at_i in
              let old_j = before j b at_j in
              let h = are.apart i j old_i.0 old_j.0 less old_i.1 old_j.1 in
              let has_i : Contains items old_i.0 = contains_got i old_i.0 old_i.1 in
              let has_j : Contains items old_j.0 = contains_got j old_j.0 old_j.1 in
              subst (λ x. ItemsApart x b) (sym old_i.2)
              (subst (ItemsApart (f old_i.0)) (sym old_j.2) (still old_i.0 old_j.0 has_i has_j h));
          some = λ it there. elim (after_is it there) [
            | inl e ↦ subst (λ (x : Item). 1 ≤ x.size) (sym e) (are.some (mover mv) has)
            | inr old ↦ are.some it old.0
          ];
          class = λ it there. elim (after_is it there) [
            | inl e ↦ subst (λ (x : Item). x.class ≡ class_of x.size) (sym e) (are.class (mover mv) has)
            | inr old ↦ are.class it old.0
          ];
          from = λ it there. elim (after_is it there) [
            | inl e ↦ subst (λ (x : Item). n.boundary ≤ x.class) (sym e) (are.from (mover mv) has)
            | inr old ↦ are.from it old.0
          ];
          start = λ it there. elim (after_is it there) [
            | inl e ↦ subst (λ (x : Item). n.start ≤ x.place) (sym e) safe.low
            | inr old ↦ are.start it old.0
          ];
        }
      where
        contains_got : (i : ℕ) (it : Item) → slice_get items i ≡ Some it → Contains items it
        contains_got i it got = (i, slice_get_within items i it got, get_or_from_slice_get items i it it got)

        before : (i : ℕ) (a : Item) → slice_get after i ≡ Some a
            → (old : Item) × (slice_get items i ≡ Some old) × (a ≡ moved_item mv.key mv.to old)
        before i a got =
            let within : i < length items = omega
            (arith, slice_get_within after i a got, length-map items (moved_item mv.key mv.to)) in
            let old = slice_index_or items i (mover mv) in
            let there : slice_get items i ≡ Some old = slice_get-get_or items i (mover mv) within in (
              old,
              there,
              same_Some a (moved_item mv.key mv.to old)
                  (sym got ∙ slice_get-map (moved_item mv.key mv.to) items i
                  ∙ ap (option_map (moved_item mv.key mv.to)) there),
            )

        still : (x y : Item) → Contains items x → Contains items y → ItemsApart x y
            → ItemsApart (moved_item mv.key mv.to x) (moved_item mv.key mv.to y)
        still x y has_x has_y h = elim (cases_eq x.key mv.key) [
          | inl e ↦
              let is : x ≡ mover mv = same_key x (mover mv) has_x has e in
              let other : y.key ≢ mv.key = λ e2. h.keys (e ∙ sym e2) in
              let goal : ItemsApart (target mv) y =
              record { keys = λ e2. other (sym e2); bytes = safe.apart y has_y } in
              subst (λ a. ItemsApart a (moved_item mv.key mv.to y))
              (sym (ap (moved_item mv.key mv.to) is ∙ moves_mover))
              (subst (ItemsApart (target mv)) (sym (leaves_other y other)) goal)
          | inr other ↦ elim (cases_eq y.key mv.key) [
            | inl e ↦
                let is : y ≡ mover mv = same_key y (mover mv) has_y has e in
                let goal : ItemsApart x (target mv) =
                record {
                  keys = other;
                  bytes = elim (safe.apart x has_x) [
                    | inl b ↦ inr b
                    | inr b ↦ inl
                        b
                  ];
                } in
                subst (λ b. ItemsApart (moved_item mv.key mv.to x) b)
                (sym (ap (moved_item mv.key mv.to) is ∙ moves_mover))
                (subst (λ a. ItemsApart a (target mv)) (sym (leaves_other x other)) goal)
            | inr other_y ↦ subst (λ a. ItemsApart a (moved_item mv.key mv.to y)) (sym (leaves_other x other))
                (subst (ItemsApart x) (sym (leaves_other y other_y)) h)
          ]
        ]

-- the item at an index, written back with another place, is the list behind the move
pub moved_at : (n : Numbers) (items : List Item) → AreItems n items → (at to : ℕ) (m written : Item)
    → at < length items → m ≡ slice_index_or items at m → written ≡ slice_index_or items at written
    → slice_set items at (record written { place = to }) ≡ relocated m.key to items
moved_at n items are at to m written within is is_written =
    let mv : Move = record { key = m.key; class = m.class; from = m.place; to = to; size = m.size } in
    let has : Contains items m = (at, within, sym is) in
    let has_written : Contains items written = (at, within, sym is_written) in
    let same : written ≡ m = same_Some written m
    (sym (at_place n items are written has_written) ∙ at_place n items are m has) in
    ap (λ (x : Item). slice_set items at (record x { place = to })) same
    ∙ sym (after_is_set n items are mv has)
