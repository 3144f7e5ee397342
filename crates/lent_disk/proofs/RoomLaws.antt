-- Laws of a file at the front of memory, which is read through two gaps.
use Rattle.std.specs.Prelude.{◌≡◌, ℕ, ◌+◌, ◌-◌, ◌≤◌, min, List, ◌++◌, length, take, replicate}
use Rattle.std.proofs.Common.{arith, subst, sym, ◌∙◌, ap}
use Rattle.std.proofs.lemmas.List.{append-nil, length-take-le, take-take}
use Rattle.byte_ranges.specs.Ranges.{SameOutside, bytes_at, overwritten, resized}
use Rattle.byte_ranges.proofs.RangeLaws.{length-bytes_at}
use Rattle.lent_disk.specs.declared.gap.Gap.{Gap}
use Rattle.lent_disk.specs.Gaps.{HasGaps, IsGapOf, Misses, before, part_at, seen, zeroed}
use Rattle.lent_disk.specs.Rooms.{Filing}
use Rattle.lent_disk.proofs.GapLaws.{bytes_at-seen, grown, length-seen, length-zeroed, seen-overwritten, zeroed-joined}
use Rattle.lent_disk.proofs.WriteLaws.{overwritten-same}

-- the part of a gap at the start is that before a position
part_from_start : (n : ℕ) (gap : Gap) → part_at 0 n gap ≡ before n gap
part_from_start n gap =
    let from : min (gap.from - 0) n ≡ min gap.from n = omega arith in
    let to : min (gap.to - 0) n ≡ min gap.to n = omega arith in
    λ i. record { from = from i; to = to i }

-- which is all of one that ends there
part_is_all : (end : ℕ) (gap : Gap) → IsGapOf gap end → part_at 0 end gap ≡ gap
part_is_all end gap is =
    let from : min (gap.from - 0) end ≡ gap.from = omega (arith, is.0, is.1) in
    let to : min (gap.to - 0) end ≡ gap.to = omega (arith, is.1) in
    λ i. record { from = from i; to = to i }

module _ (lower upper : Gap) (end : ℕ) (memory : List ℕ) (has : HasGaps lower upper end memory) where
  abbrev front : List ℕ
  front = take end memory

  abbrev file : List ℕ
  file = seen lower upper front

  front_long : length front ≡ end
  front_long = length-take-le end memory has.2

  low : IsGapOf lower (length front)
  low = (has.0.0, omega (arith, has.0.1, front_long))

  high : IsGapOf upper (length front)
  high = (has.1.0, omega (arith, has.1.1, front_long))

  -- the numbers of what contracts see
  pub ends_at : {v : Filing} → record { file = file; most = length memory } ≡ v → length v.file ≡ end
  ends_at is =
      sym (ap (λ (v : Filing). length v.file) is) ∙ length-seen lower upper front low high ∙ front_long

  -- a read
  pub read_seen : (at n : ℕ) → at + n ≤ end → {out first second : List ℕ} → out ≡ bytes_at front at n
      → first ≡ zeroed (part_at at (length out) lower) out
      → second ≡ zeroed (part_at at (length first) upper) first → second ≡ bytes_at file at n
  read_seen at n within {out} {first} {second} is_out is_first is_second =
      let fits : at + n ≤ length front = omega (arith, within, front_long) in
      let whole : List ℕ = bytes_at front at n in
      let long : length whole ≡ n = length-bytes_at front at n fits in
      let first_is : first ≡ zeroed (part_at at n lower) whole = is_first
      ∙ (λ i. zeroed (part_at at (length (is_out i)) lower) (is_out i))
      ∙ ap (λ k. zeroed (part_at at k lower) whole) long in
      let part_in : IsGapOf (part_at at n lower) (length whole) =
      (omega (arith, has.0.0), omega (arith, long)) in
      let first_long : length first ≡ n =
      ap length first_is ∙ length-zeroed (part_at at n lower) whole part_in ∙ long in
      is_second ∙ (λ i. zeroed (part_at at (first_long i) upper) (first_is i))
      ∙ sym (bytes_at-seen lower upper front low high at n fits)

  -- a cut
  pub cut_seen : (n : ℕ) → n ≤ end → seen (before n lower) (before n upper) (take n memory) ≡ resized file n
  cut_seen n less =
      let none : n - length file ≡ 0 =
      omega (arith, less, length-seen lower upper front low high, front_long) in
      (λ i. seen (sym (part_from_start n lower) i) (sym (part_from_start n upper) i)
      (sym (take-take n end memory less) i))
      ∙ sym (bytes_at-seen lower upper front low high 0 n (omega (arith, less, front_long)))
      ∙ sym (append-nil (take n file)) ∙ ap (λ k. take n file ++ replicate k 0) (sym none)

  -- ---- a growth to all of the memory

  low_still : IsGapOf lower (length memory)
  low_still = (has.0.0, omega (arith, has.0.1, has.2))

  high_still : IsGapOf upper (length memory)
  high_still = (has.1.0, omega (arith, has.1.1, has.2))

  front_is : take end (seen lower upper memory) ≡ file
  front_is = bytes_at-seen lower upper memory low_still high_still 0 end (omega (arith, has.2))
      ∙ (λ i. seen (part_is_all end lower has.0 i) (part_is_all end upper has.1 i) front)

  pub grown_seen : zeroed (record { from = end; to = length memory }) (seen lower upper memory)
      ≡ resized file (length memory)
  grown_seen = grown end (length memory) (seen lower upper memory) has.2
      (length-seen lower upper memory low_still high_still)
      ∙ ap (λ x. resized x (length memory)) front_is

  pub joined_seen : upper.to ≡ end
      → seen lower (record { from = upper.from; to = length memory }) memory ≡ resized file (length memory)
  joined_seen is =
      zeroed-joined upper.from end (length memory) (zeroed lower memory) (omega (arith, has.1.0, is)) has.2
      (omega (arith, length-zeroed lower memory low_still))
      ∙ ap (λ to. zeroed (record { from = end; to = length memory })
      (zeroed (record { from = upper.from; to = to }) (zeroed lower memory))) (sym is)
      ∙ grown_seen

-- a write into memory that gaps miss, which has what the file had elsewhere
pub put_seen : (lower upper : Gap) (old memory : List ℕ) (at : ℕ) (bytes : List ℕ)
    → IsGapOf lower (length memory) → IsGapOf upper (length memory) → at + length bytes ≤ length memory
    → Misses at (at + length bytes) lower → Misses at (at + length bytes) upper
    → SameOutside at (at + length bytes - at) old (seen lower upper memory)
    → seen lower upper (overwritten memory at bytes) ≡ overwritten old at bytes
put_seen lower upper old memory at bytes in_lower in_upper within miss_lower miss_upper same =
    let count : at + length bytes - at ≡ length bytes = omega arith in
    let beside : SameOutside at (length bytes) old (seen lower upper memory) =
    subst (λ (n : ℕ). SameOutside at n old (seen lower upper memory)) count same in
    let old_within : at + length bytes ≤ length old =
    omega (arith, within, length-seen lower upper memory in_lower in_upper, same.same_length) in
    seen-overwritten lower upper memory in_lower in_upper at bytes within miss_lower miss_upper
    ∙ sym (overwritten-same old (seen lower upper memory) at bytes old_within beside)
