-- What a flush leaves: each item stands in the new payload segment of its class, behind those of its class
-- before it.
use Rattle.std.specs.Prelude.{◌≡◌, ℕ, zero, suc, ◌+◌, ◌-◌, ◌<◌, ◌≤◌, ◌==◌, nat_le, List, [], length, slice_index, Contains, sum_by, refl}
use Rattle.std.proofs.Common.{arith, sym, ◌∙◌, ap, inl, inr}
use Rattle.std.proofs.lemmas.Bool.{and_from, cases_lt, cond-false, le-leb, ne_eqb}
use Rattle.std.proofs.lemmas.List.{take_all}
use Rattle.std.proofs.lemmas.List.Sums.{sum_by-cons}
use Rattle.byte_ranges.specs.Lists.{counting_from}
use Rattle.size_class.specs.Classes.{IsRow, width}
use Rattle.size_class.proofs.ClassLaws.{class_below}
use Rattle.segment_layout.specs.Shapes.{buffer_of, buffer_start, end_of, settled_caps, start_of}
use Rattle.segment_layout.proofs.ShapeLaws.{caps-settled_above, end_of-next, length-settled_caps, start_of-settled}
use Rattle.flush_model.specs.declared.item.Item.{Item}
use Rattle.flush_model.specs.declared.item.Numbers.{Numbers}
use Rattle.flush_model.specs.Plans.{class_total, in_class, laid_length}
use Rattle.flush_model.specs.Phases.{PlanState}
use Rattle.flush_model.specs.Settlements.{IsPlaced, KeepsSettled, new_caps, new_end, Settlement}
use Rattle.flush_model.proofs.ListLaws.{sum_by_more_in, sum_by_none_in}
use Rattle.flush_model.proofs.FinalLaws.{class_total_is, earlier, earlier_le, earlier_later, earlier_sum_is, in_class_counts, laid_length_split, segment}

-- the new segments begin where laying counts from
pub start_of_settled : (k b c : ℕ) (caps volumes : List ℕ) (items : List Item) → length caps ≡ width
    → length volumes ≡ width → b ≤ c → c ≤ width
    → ((d : ℕ) → b ≤ d → d < width → slice_index volumes d ≡ class_total items d)
    → start_of k (settled_caps b caps volumes) c ≡ start_of k caps b + laid_length k items b c
start_of_settled k b c caps volumes items full long low high each = by (c - b) c (omega (arith, low)) high
  where
    by : (m c : ℕ) → b + m ≡ c → c ≤ width
        → start_of k (settled_caps b caps volumes) c ≡ start_of k caps b + laid_length k items b c
    by zero c is high =
        let e : c ≡ b = omega (arith, is) in
        let none : c - b ≡ 0 = omega (arith, is) in
        let here : laid_length k items b c
        ≡ 0 = ap (λ x. sum_by (segment k items) (counting_from b x)) none in
        omega (
          arith,
          ap (λ x. start_of k (settled_caps b caps volumes) x) e,
          start_of-settled k b caps volumes (omega (arith, full, e, high)),
          here,
        )
    by (suc m) c is high =
        let d = b + m in
        let next : c ≡ d + 1 = omega (arith, is) in
        let below : d < width = omega (arith, next, high) in
        let before = by m d refl (omega (arith, below)) in
        let cap : slice_index (settled_caps b caps volumes) d
        ≡ class_total items d = caps-settled_above b d caps volumes full (omega (arith, below))
        (omega arith) ∙ each d (omega arith) below in
        let one : d + 1 - d ≡ 1 = omega arith in
        let last : laid_length k items d (d + 1)
        ≡ segment k items d = omega (
          arith,
          ap (λ x. sum_by (segment k items) (counting_from d x)) one,
          sum_by-cons (segment k items) d [],
        ) in
        omega (
          arith,
          ap (λ x. start_of k (settled_caps b caps volumes) x) next,
          ap (λ x. laid_length k items b x) next,
          end_of-next k (settled_caps b caps volumes) d
              (omega (arith, below, length-settled_caps b caps volumes full long (omega (arith, below)))),
          before,
          cap,
          ap (buffer_of k) cap,
          laid_length_split k items b d (d + 1) (omega arith) (omega arith),
          last,
        )

-- a class that no item has is empty
pub class_total_none : (items : List Item) (c : ℕ) → ((it : Item) → Contains items it → it.class ≡ c → ⊥)
    → class_total items c ≡ 0
class_total_none items c none = class_total_is items c
    ∙ sum_by_none_in (in_class c) items (λ it has. cond-false (it.class == c) it.size 0
    (ne_eqb it.class c (none it has)))

module _ (C : ℕ) (s : Settlement) (keeps : KeepsSettled C s.phase s.volumes) (caps : IsRow C s.phase.caps)
    (row : IsRow C s.volumes) where
  abbrev p : PlanState
  p = s.phase

  abbrev n : Numbers
  n = p.numbers

  -- the bytes of each class
  each : (d : ℕ) → n.boundary ≤ d → d < width → slice_index s.volumes d ≡ class_total p.items d
  each d low high = elim (cases_lt d C) [
    | inl less ↦ keeps.totals d less
    | inr more ↦ row.zero_above d more
        ∙ sym (class_total_none p.items d (λ it has e. omega (arith, keeps.classes it has, e, more)))
  ]

  pub volumes_below : (c : ℕ) → c < n.boundary → slice_index s.volumes c ≡ 0
  volumes_below c less = elim (cases_lt c C) [
    | inl low ↦ keeps.totals c low
        ∙ class_total_none p.items c (λ it has e.
        omega (arith, keeps.laying.packing.items.from it has, e, less))
    | inr more ↦ row.zero_above c more
  ]

  begins : (c : ℕ) → n.boundary ≤ c → c ≤ width
      → start_of p.k (new_caps s) c ≡ n.start + laid_length p.k p.items n.boundary c
  begins c low high = omega (
    arith,
    keeps.laying.packing.layout.start,
    start_of_settled p.k n.boundary c p.caps s.volumes p.items caps.full row.full low high each,
  )

  pub ends : new_end s ≡ n.end
  ends =
      let boundary = keeps.laying.packing.layout.boundary in
      let long = length-settled_caps n.boundary p.caps s.volumes caps.full row.full boundary in
      let whole : start_of p.k (new_caps s) width ≡ new_end s =
      ap (end_of p.k) (take_all width (new_caps s) (omega (arith, long))) in
      omega (arith, whole, begins width boundary (omega arith), keeps.laying.packing.layout.end)

  pub placed : (it : Item) → Contains p.items it → IsPlaced s it
  placed it has =
      let c = it.class in
      let are = keeps.laying.packing.items in
      let high : c < width = omega (arith, are.class it has, class_below it.size) in
      let from = are.from it has in
      let start = begins c from (omega (arith, high)) in
      let cap : slice_index (new_caps s) c ≡ class_total p.items c =
      caps-settled_above n.boundary c p.caps s.volumes caps.full (omega (arith, from, high)) from
      ∙ each c from high in
      let counted = sum_by_more_in (earlier c it.place) (in_class c) it it.size p.items has
      (omega (arith, earlier_later c it.place it (omega arith), in_class_counts c it refl))
      (λ x there. earlier_le c it.place x) in
      let laid = keeps.laid it has in
      record {
        place = omega (arith, laid, start);
        within = and_from (nat_le (start_of p.k (new_caps s) c) it.place)
            (nat_le (it.place + it.size) (buffer_start p.k (new_caps s) c))
            (le-leb (start_of p.k (new_caps s) c) it.place (omega (arith, laid, start)))
            (le-leb (it.place + it.size) (buffer_start p.k (new_caps s) c)
            (omega (
              arith,
              laid,
              start,
              cap,
              counted,
              earlier_sum_is p.items c it.place,
              class_total_is p.items c,
            )));
      }
