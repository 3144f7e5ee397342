-- A row that counts bytes by class, once those of some sizes are added: where no number stands at its last
-- value, each class rose by the bytes of its sizes.
use Rattle.std.specs.Prelude.{◌≡◌, ℕ, ◌+◌, ◌<◌, min, List, [], ◌∷◌, ◌++◌, fold, length, sum_by, Option, Some, None, option_map, slice_index, refl}
use Rattle.std.proofs.Common.{arith, sym, ◌∙◌, ap, inl, inr}
use Rattle.std.proofs.lemmas.Bool.{cases_eq}
use Rattle.std.proofs.lemmas.List.{length-set, get_or-set_same, get_or-set_other}
use Rattle.std.proofs.lemmas.List.Sums.{sum_by-cons}
use Rattle.std.specs.FinMap as fin
use Rattle.disk_face.specs.Counts.{last}
use Rattle.size_class.specs.Classes.{width, class_of}
use Rattle.size_class.proofs.ClassLaws.{class_below}
use Rattle.map_model.specs.Maps.{Map}
use Rattle.map_model.specs.Requests.{Change}
use Rattle.segment_layout.specs.Books.{item_of, new_item, some_size, volumes_of_sizes}
use Rattle.segment_layout.proofs.BalanceLaws.{bytes_in, bytes_in-none, bytes_in-other, bytes_in-same}
use Rattle.segment_layout.proofs.BookLaws.{volumes_of_sizes-index}
use Rattle.extent_table.specs.declared.spot.Spot.{Spot}
use Rattle.cost_laws.specs.Paid.{AsksNext}
use Rattle.flush_run.specs.Calls.{IsOpenRow}
use Rattle.store_model.specs.Sized.{IsSizedBy}
use Rattle.store_model.specs.Connection.{StoreValue}
use Rattle.store_model.specs.Quiet.{added, asked_after, sizes_at}

-- an object of any size, where its number is below the last value after
added-index : (row : List ℕ) (size : ℕ) → length row ≡ width → IsOpenRow (added row size) → (d : ℕ)
    → slice_index (added row size) d ≡ slice_index row d + bytes_in d size
added-index row size full low d =
    let c = class_of size in
    let more = min (slice_index row c + size) last in
    let within : c < length row = omega (arith, full, class_below size) in
    let here : slice_index (added row size) c ≡ more = get_or-set_same row c more 0 within in
    elim (cases_eq d c) [
      | inr other ↦ omega (
        arith,
        get_or-set_other row c d more 0 other,
        bytes_in-other d size (λ x. other (sym x)),
      )
      | inl same ↦
          let at : slice_index (added row size) d ≡ slice_index (added row size) c =
          ap (slice_index (added row size)) same in
          let was : slice_index row d ≡ slice_index row c = ap (slice_index row) same in
          let bytes : bytes_in d size ≡ bytes_in c size = ap (λ x. bytes_in x size) same in
          omega (arith, at, was, bytes, here, low c, own size)
    ]
  where
    own : (n : ℕ) → bytes_in (class_of n) n ≡ n
    own n = elim (cases_eq n 0) [
      | inl none ↦ ap (λ x. bytes_in (class_of n) x) none ∙ bytes_in-none (class_of n) ∙ sym none
      | inr some ↦ bytes_in-same n (omega (arith, some))
    ]

-- all of some sizes
pub all_added : (row : List ℕ) (sizes : List ℕ) → length row ≡ width → IsOpenRow (fold added row sizes)
    → (d : ℕ) → slice_index (fold added row sizes) d
    ≡ slice_index row d + sum_by (λ size. bytes_in d size) sizes
all_added row [] full low d = omega arith
all_added row (size ∷ sizes) full low d =
    let mid = added row size in
    let mid_full : length mid ≡ width =
    length-set row (class_of size) (min (slice_index row (class_of size) + size) last) ∙ full in
    let rest = all_added mid sizes mid_full low in
    let mid_low : IsOpenRow mid = λ e. omega (arith, rest e, low e) in
    omega (
      arith,
      rest d,
      added-index row size full mid_low d,
      sum_by-cons (λ n. bytes_in d n) size sizes,
    )

pub length-all_added : (row : List ℕ) (sizes : List ℕ) → length (fold added row sizes) ≡ length row
length-all_added row [] = refl
length-all_added row (size ∷ sizes) = length-all_added (added row size) sizes
    ∙ length-set row (class_of size) (min (slice_index row (class_of size) + size) last)

-- the size of an object of a map is that of its spot
same_sizes : (o : Option (List ℕ)) (x : Option Spot)
    → option_map length o ≡ option_map (λ (s : Spot). s.size) x → item_of o ≡ sizes_at x
same_sizes None None same = refl
same_sizes None (Some s) same = absurd (cc)
same_sizes (Some v) None same = absurd (cc)
same_sizes (Some v) (Some s) same = let e : length v ≡ s.size = cc in ap some_size e

-- What a change asks for is what its ledger counts, where no number stands at its last value.
pub asks_next : (s : StoreValue) (m : Map) → IsSizedBy m s.now → (c : Change) → length s.asked ≡ width
    → IsOpenRow (asked_after s c) → AsksNext m c s.asked (asked_after s c)
asks_next s m sized c full low d =
    let sizes = sizes_at (fin.get s.now c.name) ++ new_item c in
    let same : item_of (fin.get m c.name) ++ new_item c ≡ sizes =
    ap (λ xs. xs ++ new_item c) (same_sizes (fin.get m c.name) (fin.get s.now c.name) (sized c.name)) in
    omega (
      arith,
      all_added s.asked sizes full low d,
      volumes_of_sizes-index sizes d,
      ap (λ xs. slice_index (volumes_of_sizes xs) d) same,
    )
