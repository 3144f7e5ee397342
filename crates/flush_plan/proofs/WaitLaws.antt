-- The first item of a class that isn't laid, as it is found on the shelf.
use Rattle.std.specs.Prelude.{◌≡◌, ◌≢◌, ℕ, ◌<◌, ◌≤◌, List, length, slice_get, Some, Contains}
use Rattle.std.proofs.Common.{arith, sym, ◌∙◌, ap, inl, inr}
use Rattle.std.proofs.lemmas.Bool.{cases_lt, cases_order}
use Rattle.std.proofs.lemmas.Option.{same_Some}
use Rattle.flush_model.specs.declared.item.Item.{Item}
use Rattle.flush_model.specs.declared.item.Numbers.{Numbers}
use Rattle.flush_model.proofs.FinalLaws.{final_rises}
use Rattle.flush_model.proofs.ListLaws.{got_at}
use Rattle.flush_plan.specs.Shelves.{IsFirstOf, IsRank}
use Rattle.flush_plan.specs.Lays.{KeepsLaying, Lay, Lays, StandsPast}
use Rattle.flush_plan.proofs.LayGoesLaws.{lay_ends_low, lay_has_next}
use Rattle.flush_plan.proofs.LayStepLaws.{final_is}
use Rattle.flush_plan.proofs.ShelfLaws.{first_is_least, first_item, got_has, item_is_one, item_on_shelf, none_is_left, places_rise, rank_stands, shelf_item}

module _ (C : ℕ) (v : Lay) (items xs : List Item) (lays : Lays C v items xs) (low : v.class < C) where
  abbrev n : Numbers
  n = v.course.numbers

  keeps : KeepsLaying C v items
  keeps = lays.keeps

  -- there is one, and the place lies below the wall
  next : (m : Item) × IsFirstOf items v.class v.to m
  next = lay_has_next C v items keeps low

  pub place_below : v.to < n.wall
  place_below = omega (
    arith,
    lay_ends_low C v items keeps low next.0 next.1,
    keeps.laying.packing.items.some next.0 next.1.has,
  )

  place_from : n.start ≤ v.to
  place_from = omega (arith, keeps.front.goes low)

  module _ (near : ℕ) (is : IsRank xs v.to near) where
    -- the first object from the place on, where it is of the class
    pub near_first : (m : Item) → slice_get xs near ≡ Some m → m.class ≡ v.class
        → IsFirstOf items v.class v.to m
    near_first m got same = record {
      has = first_item n.start items xs lays.on v.to near place_from is m got;
      same = same;
      from = rank_stands xs lays.on.rises v.to near is m got;
      first = λ it has same from. first_is_least n.start items xs lays.on v.to near place_from is m got it has
          from;
    }

    -- where there is none, or one of another class, those of the class stand past the wall
    pub near_none : length xs ≤ near → StandsPast v items
    near_none ended it has same from = absurd (omega (
      arith,
      from,
      none_is_left n.start items xs lays.on v.to near place_from is ended it has,
    ))

    pub near_other : (x : Item) → slice_get xs near ≡ Some x → x.class ≢ v.class → StandsPast v items
    near_other x got other it has same from = elim (cases_lt it.place n.wall) [
      | inr past ↦ past
      | inl below ↦
          let has_x = first_item n.start items xs lays.on v.to near place_from is x got in
          let stands = rank_stands xs lays.on.rises v.to near is x got in
          let least = first_is_least n.start items xs lays.on v.to near place_from is x got it has from in
          absurd (elim (cases_lt x.place it.place) [
            | inr behind ↦ other (ap (λ (y : Item). y.class)
                (item_is_one n.start items xs lays.on x it has_x has (omega (arith, behind, least))) ∙ same)
            | inl before ↦
                let less : x.class < v.class = elim (cases_order x.class v.class) [
                  | inl e ↦ absurd (other e)
                  | inr (inl less) ↦ less
                  | inr (inr more) ↦ absurd (omega (
                    arith,
                    more,
                    same,
                    keeps.laying.packing.resumes.order it x has has_x below before,
                  ))
                ] in
                let m = next.0 in
                omega (
                  arith,
                  stands,
                  keeps.front.laid x has_x (inl less),
                  final_rises v.course.k n items keeps.laying.packing.items x m has_x next.1.has
                      (inl (omega (arith, less, next.1.same))),
                  final_is C v.course.k n items keeps.laying.packing.items keeps.laying.packing.resumes
                      keeps.laying.laying v.class v.to v.ahead keeps.front low m next.1,
                  keeps.laying.packing.items.some x has_x,
                )
          ])
    ]

  -- then it is the first object of the class past the wall
  module _ (none : StandsPast v items) (from far : ℕ) (is : IsRank xs v.ahead from)
      (skipped : (i : ℕ) (it : Item) → from ≤ i → i < far → slice_get xs i ≡ Some it → it.class ≢ v.class)
    where
      -- no item of the class stands on the shelf before it
      not_before : (it : Item) (has : Contains items it) → it.class ≡ v.class → v.to ≤ it.place
          → far ≤ (item_on_shelf n.start items xs lays.on it has).0.0
      not_before it has same high =
          let there = (item_on_shelf n.start items xs lays.on it has).0 in
          let got = got_at it xs there in
          elim (cases_lt there.0 far) [
            | inr behind ↦ behind
            | inl less ↦ elim (cases_lt there.0 from) [
              | inl before ↦ absurd (omega (
                arith,
                is.before there.0 it before got,
                keeps.front.behind it has same (none it has same high),
              ))
              | inr past ↦ absurd (skipped there.0 it past less got same)
            ]
          ]

      pub far_within : far < length xs
      far_within = omega (
        arith,
        not_before next.0 next.1.has next.1.same next.1.from,
        (item_on_shelf n.start items xs lays.on next.0 next.1.has).0.1,
      )

      pub far_first : from ≤ far → (m : Item) → slice_get xs far ≡ Some m → m.class ≡ v.class
          → IsFirstOf items v.class v.to m
      far_first low_rank m got same =
          let high : n.wall ≤ m.place = omega (arith, is.from far m low_rank got, keeps.front.past) in
          record {
            has = shelf_item n.start items xs lays.on m (got_has xs far m got)
                (omega (arith, high, place_below, place_from));
            same = same;
            from = omega (arith, high, place_below);
            first = λ it has same_class from_place.
                let there = (item_on_shelf n.start items xs lays.on it has).0 in
                let got_it = got_at it xs there in
                let behind = not_before it has same_class from_place in
                elim (cases_lt far there.0) [
                  | inl less ↦ omega (arith, places_rise xs lays.on.rises far there.0 m it less got got_it)
                  | inr here ↦
                      let e : there.0 ≡ far = omega (arith, behind, here) in
                      omega (
                        arith,
                        ap (λ (y : Item). y.place)
                            (same_Some it m (sym got_it ∙ ap (slice_get xs) e ∙ got)),
                      )
                ];
          }
