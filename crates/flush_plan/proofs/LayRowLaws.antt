-- How Lay begins and goes on by two rows: the bytes of each class, and where its new segment begins.
use Rattle.std.specs.Prelude.{◌≡◌, ℕ, ◌+◌, ◌^◌, ◌<◌, ◌≤◌, max, List, slice_index, Contains}
use Rattle.std.proofs.Common.{arith, sym, ◌∙◌, inl, inr}
use Rattle.std.proofs.lemmas.Bool.{cases_lt}
use Rattle.std.proofs.lemmas.List.Sorted.{Contains-permutation, IsPermutation-sym}
use Rattle.size_class.specs.Classes.{IsRow, width}
use Rattle.flush_model.specs.declared.item.Item.{Item}
use Rattle.flush_model.specs.declared.item.Numbers.{Numbers}
use Rattle.flush_model.specs.Plans.{AreBelow, class_total, laid_length, relocated, segments_length}
use Rattle.flush_model.specs.Phases.{IsPackedWhole}
use Rattle.flush_model.specs.Segments.{ArePlaces}
use Rattle.flush_model.proofs.FinalLaws.{laid_length_class, laid_length_split}
use Rattle.flush_model.proofs.PlaceLaws.{segments_same, totals_low}
use Rattle.flush_model.proofs.SettledLaws.{class_total_none}
use Rattle.flush_model.proofs.SortLaws.{below_permuted, class_total_permuted}
use Rattle.flush_plan.specs.Shelves.{from_place, IsFirstOf, phase_on}
use Rattle.flush_plan.specs.Packs.{KeepsPacking, Pack, Packs}
use Rattle.flush_plan.specs.Lays.{IsNextClass, KeepsLaying, Lay}
use Rattle.flush_plan.proofs.LayGoesLaws.{class_ends, lay_at, lay_begins, lay_stays, lay_turns}

module _ (C : ℕ) (v : Lay) (items : List Item) (keeps : KeepsLaying C v items) (low : v.class < C)
    (places : List ℕ) (are : ArePlaces v.course.k v.course.numbers.start v.course.numbers.boundary
    (slice_index v.volumes) C places) where
  abbrev n : Numbers
  n = v.course.numbers

  abbrev k : ℕ
  k = v.course.k

  begins : (c : ℕ) → n.boundary ≤ c → c < C
      → (slice_index places c ≡ n.start + laid_length k items n.boundary c)
      × (slice_index places c + slice_index v.volumes c
      ≡ n.start + laid_length k items n.boundary c + class_total items c)
  begins = class_ends C k n.start n.boundary items v.volumes places are keeps.totals

  pub end_low : slice_index places v.class + slice_index v.volumes v.class ≤ n.wall
  end_low = omega (
    arith,
    (begins v.class keeps.low low).1,
    laid_length_split k items n.boundary v.class width keeps.low (omega (arith, low, keeps.fits)),
    laid_length_class k items v.class width (omega (arith, low, keeps.fits)),
    keeps.laying.packing.resumes.wall,
  )

  module _ (m : Item) (first : IsFirstOf items v.class v.to m) where
    pub stays_by_rows : v.to + m.size < slice_index places v.class + slice_index v.volumes v.class
        → KeepsLaying C (lay_at v.course v.volumes v.class (v.to + m.size) (max v.ahead m.place))
        (relocated m.key v.to items)
    stays_by_rows = lay_stays C v items keeps low m first
        (slice_index places v.class + slice_index v.volumes v.class) (begins v.class keeps.low low).1

    pub turns_by_rows : slice_index places v.class + slice_index v.volumes v.class ≤ v.to + m.size
        → (class : ℕ) → IsNextClass C v.volumes (v.class + 1) class → (place : ℕ)
        → (class < C → place ≡ slice_index places class)
        → KeepsLaying C (lay_at v.course v.volumes class place n.wall) (relocated m.key v.to items)
    turns_by_rows ended class is place at = lay_turns C v items keeps low m first
        (slice_index places v.class + slice_index v.volumes v.class) (begins v.class keeps.low low).1 ended
        class is place
        (λ high. at high ∙ (begins class (omega (arith, keeps.low, is.above)) high).0)

-- where all is packed, the rows are read off the shelf
module _ (C : ℕ) (v : Pack) (items xs : List Item) (packs : Packs C v items xs) where
  abbrev start : ℕ
  start = v.course.numbers.start

  abbrev suffix : List Item
  suffix = from_place v.course.numbers.start xs

  keeps : KeepsPacking C v items
  keeps = packs.keeps

  pub shelf_below : AreBelow C suffix
  shelf_below = below_permuted items suffix packs.on.same C keeps.classes

  pub shelf_totals : (it : Item) → Contains suffix it → class_total suffix it.class < 2 ^ 64
  shelf_totals it has = omega (
    arith,
    class_total_permuted items suffix packs.on.same it.class,
    totals_low C (phase_on v.course items) keeps.fits keeps.packing keeps.classes keeps.small it
        (Contains-permutation suffix items it (IsPermutation-sym items suffix packs.on.same) has),
  )

  module _ (volumes : List ℕ) (so : (c : ℕ) → c < C → slice_index volumes c ≡ class_total suffix c) where
    totals_of : (c : ℕ) → c < C → slice_index volumes c ≡ class_total items c
    totals_of c low = so c low ∙ class_total_permuted items suffix packs.on.same c

    pub places_fit : IsRow C volumes
        → start + segments_length v.course.k (slice_index volumes) v.course.numbers.boundary width < 2 ^ 64
    places_fit row = omega (
      arith,
      keeps.packing.resumes.wall,
      keeps.packing.reaches,
      keeps.small.0,
      segments_same v.course.k (slice_index volumes) (class_total items) v.course.numbers.boundary width each,
    )
      where
        each : (d : ℕ) → v.course.numbers.boundary ≤ d → d < width
            → slice_index volumes d ≡ class_total items d
        each d low high = elim (cases_lt d C) [
          | inl has ↦ totals_of d has
          | inr past ↦ row.zero_above d past
              ∙ sym (class_total_none items d (λ it there e. omega (arith, keeps.classes it there, e, past)))
        ]

    pub begins_by_rows : IsPackedWhole (phase_on v.course items) → (places : List ℕ)
        → ArePlaces v.course.k start v.course.numbers.boundary (slice_index volumes) C places → (first : ℕ)
        → IsNextClass C volumes v.course.numbers.boundary first → (place : ℕ)
        → (first < C → place ≡ slice_index places first)
        → KeepsLaying C (lay_at v.course volumes first place v.course.numbers.wall) items
    begins_by_rows whole places are first is place at =
        lay_begins C v items keeps whole volumes totals_of first is place (λ high. at high
        ∙ (class_ends C v.course.k start v.course.numbers.boundary items volumes places are totals_of first
        is.above high).0)
