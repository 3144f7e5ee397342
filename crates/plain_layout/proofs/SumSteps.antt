-- One term more of counts and sums.
use Rattle.std.specs.Prelude.{◌≡◌, ℕ, ◌+◌, ◌<◌, ◌≤◌, ◌-◌, Bool, true, false, cond, List, length, filter, take, sum, sum_by, count_by, slice_index, slice_index_or}
use Rattle.std.proofs.Common.{arith, ap, sym, ◌∙◌, inl, inr}
use Rattle.std.proofs.lemmas.Bool.{cases_lt, cases_Bool, cond-true, cond-false}
use Rattle.std.proofs.lemmas.List.{get_or_past, take_all}
use Rattle.std.proofs.lemmas.List.Sums.{get_or-le-sum_by, sum_by_more, count_by_more_yes, count_by_more_no}
use Rattle.byte_ranges.specs.Lists.{below, counting_from}
use Rattle.byte_ranges.proofs.ListLaws.{below_at, length-below}
use Rattle.slot_codec.specs.declared.codec.Record.{Record}
use Rattle.map_model.proofs.MapLaws.{sum_by-map}
use Rattle.segment_layout.specs.Books.{volumes_of_sizes}
use Rattle.segment_layout.proofs.BalanceLaws.{bytes_in}
use Rattle.segment_layout.proofs.BookLaws.{sum_by-filter, volumes_of_sizes-index}
use Rattle.segment_layout.proofs.SumLaws.{sum_by_le_places}
use Rattle.table_rules.specs.Tables.{is_of, no_record, size_sum, sizes}

pub count_yes : (p : ℕ → Bool) (n i : ℕ) → i < n → p i ≡ true
    → count_by p (take (i + 1) (below n)) ≡ count_by p (take i (below n)) + 1
count_yes p n i h is = count_by_more_yes p (below n) i 0 (omega (arith, length-below n))
    (ap p (below_at n i h) ∙ is)

pub count_no : (p : ℕ → Bool) (n i : ℕ) → i < n → p i ≡ false
    → count_by p (take (i + 1) (below n)) ≡ count_by p (take i (below n))
count_no p n i h isnt = count_by_more_no p (below n) i 0 (omega (arith, length-below n))
    (ap p (below_at n i h) ∙ isnt)

pub count_all : (p : ℕ → Bool) (n : ℕ) → count_by p (take n (below n)) ≡ count_by p (below n)
count_all p n = ap (count_by p) (take_all n (below n) (omega (arith, length-below n)))

-- a sum over the classes from a boundary on, so far
pub from_below : (f : ℕ → ℕ) (b c : ℕ) → c < b
    → sum_by f (counting_from b (c + 1 - b)) ≡ sum_by f (counting_from b (c - b))
from_below f b c h = let e : c + 1 - b ≡ c - b = omega arith in ap (λ n. sum_by f (counting_from b n)) e

pub cell_le_sum : (xs : List ℕ) (c : ℕ) → slice_index xs c ≤ sum xs
cell_le_sum xs c = elim (cases_lt c (length xs)) [
  | inl within ↦ get_or-le-sum_by (λ (n : ℕ). n) xs c 0 within
  | inr past ↦ omega (arith, get_or_past xs c 0 past)
]

pub chosen_le : (p : Record → Bool) (rs : List Record) → size_sum (filter p rs) ≤ size_sum rs
chosen_le p rs = omega (
  arith,
  sum_by-filter (λ (r : Record). r.size) p rs,
  sum_by_le_places no_record (λ (r : Record). cond (p r) r.size 0) (λ (r : Record). r.size) rs (λ i h.
      let r = slice_index_or rs i no_record in
      elim (cases_Bool (p r)) [
        | inl is ↦ omega (arith, cond-true (p r) r.size 0 is)
        | inr other ↦ omega
            (arith, cond-false (p r) r.size 0 other)
      ]),
)

-- the live bytes of a class are its volume
pub live_is_volume : (c : ℕ) (rs : List Record)
    → size_sum (filter (is_of c) rs) ≡ slice_index (volumes_of_sizes (sizes rs)) c
live_is_volume c rs =
    sum_by-filter (λ (r : Record). r.size) (is_of c) rs
    ∙ sym (sum_by-map (λ (size : ℕ). bytes_in c size) (λ (r : Record). r.size) rs)
    ∙ sym (volumes_of_sizes-index (sizes rs) c)

pub sizes_more : (rs : List Record) (i : ℕ) → i < length rs
    → size_sum (take (i + 1) rs) ≡ size_sum (take i rs) + (slice_index_or rs i no_record).size
sizes_more rs i h = sum_by_more (λ (r : Record). r.size) rs i no_record h
