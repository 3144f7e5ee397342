-- A range that is filled.
use Rattle.std.specs.Prelude.{cond, slice_index}
use Rattle.std.proofs.Common.{◌≡◌, ◌⊎◌, ℕ, ◌+◌, ◌-◌, ◌<◌, ◌≤◌, List, length, replicate, min, arith, sym, ◌∙◌, ap, inl, inr}
use Rattle.std.proofs.lemmas.Bool.{cases_lt}
use Rattle.std.proofs.lemmas.List.{length-replicate, get_or-replicate}
use Rattle.std.proofs.lemmas.Grind.{same_number_lists}
use Rattle.byte_ranges.proofs.ListLaws.{length-map_below, map_below-index}
use Rattle.byte_ranges.specs.Ranges.{overwritten}
use Rattle.byte_ranges.proofs.RangeLaws.{length-overwritten, overwritten-below, overwritten-above, overwritten-inside}
use Rattle.disk_face.specs.Images.{in_range}
use Rattle.disk_face.proofs.ImageLaws.{inside_range, outside_range}
use Rattle.disk_mem.specs.Tearing.{filled}

-- what is written within the file is what is filled
pub filled_is : (b pos n start stop : ℕ) (file : List ℕ) → start ≡ min pos (length file)
    → stop ≡ min (pos + n) (length file)
    → overwritten file start (replicate (stop - start) b) ≡ filled b pos n file
filled_is b pos n start stop file from to =
    let size : length (replicate (stop - start) b) ≡ stop - start = length-replicate (stop - start) b in
    let within : start + length (replicate (stop - start) b) ≤ length file = omega (arith, size, from, to) in
    let len : length (overwritten file start (replicate (stop - start) b))
    ≡ length file = length-overwritten file start (replicate (stop - start) b) within in
    same_number_lists _ _ (len ∙ sym (length-map_below
    (λ i. cond (in_range i (pos, n)) b (slice_index file i)) (length file))) (λ k low.
    let inside : k < length file = omega (arith, low, len) in
    at_index k inside size within ∙ sym
    (map_below-index (λ i. cond (in_range i (pos, n)) b (slice_index file i)) (length file) k inside))
  where
    out : (k : ℕ) → (k < pos) ⊎ (pos + n ≤ k) → (x : ℕ) → x ≡ slice_index file k
        → x ≡ cond (in_range k (pos, n)) b (slice_index file k)
    out k apart x e = e ∙ ap (λ test. cond test b (slice_index file k)) (sym (outside_range k pos n apart))

    at_index : (k : ℕ) → k < length file → length (replicate (stop - start) b) ≡ stop - start
        → start + length (replicate (stop - start) b) ≤ length file
        → slice_index (overwritten file start (replicate (stop - start) b)) k
        ≡ cond (in_range k (pos, n)) b (slice_index file k)
    at_index k inside size within = elim (cases_lt k pos)
        as (λ x. slice_index (overwritten file start (replicate (stop - start) b)) k
        ≡ cond (in_range k (pos, n)) b (slice_index file k)) [
          | inl under ↦ out k (inl under) _
              (overwritten-below file start (replicate (stop - start) b) k within
              (omega (arith, under, inside, from)))
          | inr above ↦ elim (cases_lt k (pos + n))
              as (λ x. slice_index (overwritten file start (replicate (stop - start) b)) k
              ≡ cond (in_range k (pos, n)) b (slice_index file k)) [
                | inl within_range ↦
                    let offset : k ≡ start + (k - start) = omega (arith, above, inside, from) in
                    let short : k - start < stop - start =
                    omega (arith, above, within_range, inside, from, to) in
                    ap (slice_index (overwritten file start (replicate (stop - start) b))) offset
                    ∙ overwritten-inside file start (replicate (stop - start) b) (k - start) within
                    (omega (arith, short, size))
                    ∙ get_or-replicate (stop - start) (k - start) b 0 short
                    ∙ ap (λ test. cond test b (slice_index file k))
                    (sym (inside_range k pos n above within_range))
                | inr past ↦ out k (inr past) _
                    (overwritten-above file start (replicate (stop - start) b) k within
                    (omega (arith, past, inside, size, from, to)))
              ]
        ]
