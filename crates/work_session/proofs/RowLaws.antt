-- Rows of bytes by class: how far one change may raise them, and what their calls come to.
use Rattle.std.specs.Prelude.{◌≡◌, ℕ, ◌+◌, ◌≤◌, Bool, true, false, cond, min, List, [], ◌∷◌, fold, length, map, sum_by, slice_index}
use Rattle.std.proofs.Common.{arith, ◌∙◌, ap, inl, inr}
use Rattle.std.proofs.lemmas.Bool.{cases_eq}
use Rattle.std.proofs.lemmas.List.{length-set, get_or-set_same, get_or-set_other}
use Rattle.std.proofs.lemmas.List.Sums.{sum_by-cons}
use Rattle.std.specs.FinMap as fin
use Rattle.disk_face.specs.Counts.{last}
use Rattle.size_class.specs.Classes.{class_of, width}
use Rattle.size_class.proofs.ClassLaws.{class_below}
use Rattle.map_model.specs.Maps.{Map, volume}
use Rattle.map_model.proofs.MapLaws.{sum_by-map}
use Rattle.segment_layout.specs.Books.{volumes}
use Rattle.segment_layout.proofs.BalanceLaws.{bytes_in}
use Rattle.segment_layout.proofs.BookLaws.{volumes_of_sizes-index}
use Rattle.store_model.specs.Quiet.{added}

-- ---- how far a row rises

-- an object's bytes
added_few : (row : List ℕ) (size : ℕ) → length row ≡ width → (d : ℕ)
    → slice_index (added row size) d ≤ slice_index row d + size
added_few row size full d =
    let c = class_of size in
    let more = min (slice_index row c + size) last in
    let here : slice_index (added row size) c ≡ more =
    get_or-set_same row c more 0 (omega (arith, full, class_below size)) in
    elim (cases_eq d c) [
      | inr other ↦ omega (arith, get_or-set_other row c d more 0 other)
      | inl same ↦ omega (
        arith,
        here,
        ap (slice_index (added row size)) same,
        ap (slice_index row) same,
      )
    ]

pub all_added_few : (row : List ℕ) (sizes : List ℕ) → length row ≡ width → (d : ℕ)
    → slice_index (fold added row sizes) d ≤ slice_index row d + sum_by (λ (n : ℕ). n) sizes
all_added_few row [] full d = omega arith
all_added_few row (size ∷ sizes) full d =
    let mid = added row size in
    let mid_full : length mid ≡ width =
    length-set row (class_of size) (min (slice_index row (class_of size) + size) last) ∙ full in
    omega (
      arith,
      all_added_few mid sizes mid_full d,
      added_few row size full d,
      sum_by-cons (λ (n : ℕ). n) size sizes,
    )

-- the bytes of one class are at most those of all
some_bytes : (d : ℕ) (sizes : List ℕ) → sum_by (bytes_in d) sizes ≤ sum_by (λ (n : ℕ). n) sizes
some_bytes d [] = omega arith
some_bytes d (size ∷ sizes) = omega (
  arith,
  some_bytes d sizes,
  sum_by-cons (bytes_in d) size sizes,
  sum_by-cons (λ (n : ℕ). n) size sizes,
  one,
)
  where
    by : (b : Bool) → cond b size 0 ≤ size
    by true = omega arith
    by false = omega arith

    one : bytes_in d size ≤ size
    one = by _

pub class_few : (m : Map) (d : ℕ) → slice_index (volumes m) d ≤ volume m
class_few m d = omega (
  arith,
  volumes_of_sizes-index (map length (fin.values m)) d,
  some_bytes d (map length (fin.values m)),
  sum_by-map (λ (n : ℕ). n) length (fin.values m),
)
