-- Classes of all sizes, sums of small numbers, and where segments begin.
use Rattle.std.specs.Prelude.{◌≡◌, ℕ, ◌+◌, ◌-◌, ◌*◌, ◌^◌, ◌<◌, ◌≤◌, ◌&&◌, true, List, [], length, sum, slice_index, IsTrue, refl}
use Rattle.std.specs.List.{list_all}
use Rattle.std.proofs.Common.{arith, ap, inl, inr}
use Rattle.std.proofs.lemmas.Bool.{and_parts, cases_lt, ltb-true}
use Rattle.std.proofs.lemmas.List.{get_or_past}
use Rattle.std.proofs.lemmas.List.Elements.{All-from_get_or}
use Rattle.std.proofs.lemmas.List.Sums.{AllPass-from_list_all, sum_by-le}
use Rattle.std.proofs.lemmas.Option.{slice_get-get_or}
use Rattle.byte_ranges.specs.Lists.{below}
use Rattle.size_class.specs.Classes.{width, class_of, row}
use Rattle.size_class.proofs.ClassLaws.{class_below, class_high, power_rises}
use Rattle.slot_codec.specs.Reading.{all_in_range, is_in_range}
use Rattle.slot_codec.specs.declared.codec.Header.{Header}
use Rattle.segment_layout.specs.Shapes.{start_of, taken_in}
use Rattle.segment_layout.proofs.ShapeLaws.{end_of-high}
use Rattle.extent_table.specs.Extents.{Extents, IsTable, records_of}
use Rattle.extent_table.proofs.SaveLaws.{records_in_range}
use Rattle.table_rules.specs.Tables.{no_record}
use Rattle.table_check.specs.Placed.{ranked}
use Rattle.table_check.specs.Frames.{AreSmall, IsFrame}

pub class_of-zero : class_of 0 ≡ 0
unfolding class_of below
class_of-zero = refl

pub class_of-great : (size : ℕ) → 2 ^ 31 < size → class_of size ≡ 31
class_of-great size high = elim (cases_lt (class_of size) 31) [
  | inl less ↦ absurd (omega (
    arith,
    class_high size (omega arith) (omega arith),
    power_rises (class_of size + 1) 31 (omega arith),
  ))
  | inr above ↦ omega (arith, class_below size)
]

pub sum-small : (xs : List ℕ) → length xs ≡ 32 → AreSmall xs → sum xs ≤ 32 * (2 ^ 48 - 1)
sum-small xs long small =
    omega (
      arith,
      sum_by-le (λ (x : ℕ). x) (2 ^ 48 - 1) xs
          (All-from_get_or (λ x. x ≤ 2 ^ 48 - 1) xs 0 (λ i h. omega (arith, small i))),
    )

-- ---- the numbers of a header that is in range

small_from : (xs : List ℕ) → list_all is_in_range xs ≡ true → AreSmall xs
small_from xs is c = elim (cases_lt c (length xs)) [
  | inl within ↦ ltb-true (slice_index xs c) (2 ^ 48) (AllPass-from_list_all is_in_range xs is c 0 within)
  | inr past ↦ omega (arith, get_or_past xs c 0 past)
]

rows_small : (grid : List (List ℕ)) → list_all (list_all is_in_range) grid ≡ true → (j : ℕ)
    → AreSmall (row grid j)
rows_small grid is j = elim (cases_lt j (length grid)) [
  | inl within ↦ small_from (row grid j) (AllPass-from_list_all (list_all is_in_range) grid is j [] within)
  | inr past ↦ λ c. omega (arith, ap (λ xs. slice_index xs c) (get_or_past grid j [] past))
]

module _ (h : Header) (ranges : IsTrue (all_in_range h)) where
  parts : (is_in_range h.wall ≡ true) × (is_in_range h.slack ≡ true) × (list_all is_in_range h.caps ≡ true)
      × (list_all (list_all is_in_range) h.used ≡ true)
  parts =
      let last = and_parts (is_in_range h.wall && is_in_range h.slack && list_all is_in_range h.caps)
      (list_all (list_all is_in_range) h.used) ranges in
      let middle = and_parts (is_in_range h.wall && is_in_range h.slack) (list_all is_in_range h.caps)
      last.0 in
      let first = and_parts (is_in_range h.wall) (is_in_range h.slack) middle.0 in
      (first.0, first.1, middle.1, last.1)

  pub caps_small : AreSmall h.caps
  caps_small = small_from h.caps parts.2

  pub grid_small : (j : ℕ) → AreSmall (row h.used j)
  grid_small = rows_small h.used parts.3

  pub frame_is : (classes k : ℕ) (starts taken : List ℕ) → classes ≤ 32 → 2 ≤ k → k ≤ 64
      → length h.caps ≡ 32 → length h.used ≡ 32 → ((j : ℕ) → j < 32 → length (row h.used j) ≡ 32)
      → ((c : ℕ) → c ≤ width → slice_index starts c ≡ start_of k h.caps c)
      → ((j : ℕ) → j < width → slice_index taken j ≡ taken_in h.used j) → IsFrame classes k h starts taken
  frame_is classes k starts taken few low high caps_full grid_full rows_full begins fills =
      record {
        few = few;
        k_low = low;
        k_high = high;
        caps_full = caps_full;
        caps_high = caps_small;
        grid_full = grid_full;
        rows_full = rows_full;
        cells_high = grid_small;
        wall_high = ltb-true h.wall (2 ^ 48) parts.0;
        slack_high = ltb-true h.slack (2 ^ 48) parts.1;
        begins = begins;
        fills = fills;
      }

module _ {classes k : ℕ} {h : Header} {starts taken : List ℕ} (f : IsFrame classes k h starts taken) where
  pub start_small : (c : ℕ) → c ≤ 32 → slice_index starts c ≤ 2 ^ 54
  start_small c within =
      omega (arith, end_of-high k h.caps c f.caps_high (omega (arith, f.caps_full)), f.begins c within)

  pub taken_small : (j : ℕ) → j < 32 → slice_index taken j < 2 ^ 53
  taken_small j within = omega (
    arith,
    sum-small (row h.used j) (f.rows_full j within) (f.cells_high j),
    f.fills j within,
  )

pub small_sizes : (e : Extents) → IsTable e → (k : ℕ) → k < length (records_of e.now)
    → (ranked e k).size < 2 ^ 48
small_sizes e table k low = (records_in_range e table).size k (ranked e k)
    (slice_get-get_or (records_of e.now) k no_record low)
