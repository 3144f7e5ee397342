-- Laws of memory that is read through gaps.
use Rattle.std.specs.Prelude.{◌≡◌, ◌⊎◌, ℕ, ◌+◌, ◌-◌, ◌<◌, ◌≤◌, List, length, take, replicate, slice_index}
use Rattle.std.proofs.Common.{arith, subst, sym, ◌∙◌, ap, rules, inl, inr}
use Rattle.std.proofs.lemmas.List.{length-replicate, places}
use Rattle.std.proofs.lemmas.Grind.{same_number_lists}
use Rattle.byte_ranges.specs.Ranges.{SameOutside, bytes_at, overwritten, resized}
use Rattle.byte_ranges.proofs.ListLaws.{zeros_at}
use Rattle.byte_ranges.proofs.RangeLaws.{SameOutside-trans, bytes_at-index, length-bytes_at, length-resized}
use Rattle.lent_disk.specs.declared.gap.Gap.{Gap}
use Rattle.lent_disk.specs.Gaps.{IsGapOf, Misses, before, part_at, seen, since, zeroed}
use Rattle.lent_disk.proofs.WriteLaws.{In, Out, in_or_out, overwritten-commutes}

module _ (gap : Gap) (file : List ℕ) (is : IsGapOf gap (length file)) where
  pub length-zeroed : length (zeroed gap file) ≡ length file
  length-zeroed = search (rules, places)

  pub zeroed-in : (i : ℕ) → In gap.from gap.to i → slice_index (zeroed gap file) i ≡ 0
  zeroed-in i (low, high) = search (rules, places)

  pub zeroed-out : (i : ℕ) → Out gap.from gap.to i → slice_index (zeroed gap file) i ≡ slice_index file i
  zeroed-out i (inl low) = search (rules, places)
  zeroed-out i (inr high) = search (rules, places)

  -- a zero stays
  zero_stays : (i : ℕ) → slice_index file i ≡ 0 → slice_index (zeroed gap file) i ≡ 0
  zero_stays i zero = elim (in_or_out gap.from gap.to i) [
    | inl p ↦ zeroed-in i p
    | inr p ↦ zeroed-out i p ∙ zero
  ]

  zeros_end : gap.from + length (replicate {A = ℕ} (gap.to - gap.from) 0) ≡ gap.to
  zeros_end = omega (arith, is.0, length-replicate {A = ℕ} (gap.to - gap.from) 0)

  zeros_within : gap.from + length (replicate {A = ℕ} (gap.to - gap.from) 0) ≤ length file
  zeros_within = omega (arith, is.1, zeros_end)

  -- a gap of a file is one of it with other zeros
  pub still_gap : (other : Gap) → IsGapOf other (length file) → IsGapOf other (length (zeroed gap file))
  still_gap other (rises, inside) = (rises, omega (arith, inside, length-zeroed))

-- one of two gaps of a file is one
pub either_gap : {a b gap : Gap} (n : ℕ) → IsGapOf a n → IsGapOf b n → (gap ≡ a) ⊎ (gap ≡ b) → IsGapOf gap n
either_gap n in_a in_b (inl is) = subst (λ (g : Gap). IsGapOf g n) (sym is) in_a
either_gap n in_a in_b (inr is) = subst (λ (g : Gap). IsGapOf g n) (sym is) in_b

-- zeros of two gaps are the same in both orders
pub zeroed-commutes : (a b : Gap) (file : List ℕ) → IsGapOf a (length file) → IsGapOf b (length file)
    → zeroed a (zeroed b file) ≡ zeroed b (zeroed a file)
zeroed-commutes a b file in_a in_b =
    overwritten-commutes file b.from (replicate (b.to - b.from) 0) a.from (replicate (a.to - a.from) 0)
    (zeros_within b file in_b) (zeros_within a file in_a) (λ i p q.
    zeros_at (b.to - b.from) (i - b.from) ∙ sym (zeros_at (a.to - a.from) (i - a.from)))

-- the zeros of the last of three may come first
pub last_first : (a b c : Gap) (file : List ℕ) → IsGapOf a (length file) → IsGapOf b (length file)
    → IsGapOf c (length file) → seen a b (zeroed c file) ≡ zeroed c (seen a b file)
last_first a b c file in_a in_b in_c =
    ap (zeroed b) (zeroed-commutes a c file in_a in_c)
    ∙ zeroed-commutes b c (zeroed a file) (still_gap a file in_a b in_b) (still_gap a file in_a c in_c)

-- those of a gap that a write misses may come after it
pub zeroed-overwritten : (gap : Gap) (file : List ℕ) (at : ℕ) (bytes : List ℕ) → IsGapOf gap (length file)
    → at + length bytes ≤ length file → Misses at (at + length bytes) gap
    → zeroed gap (overwritten file at bytes) ≡ overwritten (zeroed gap file) at bytes
zeroed-overwritten gap file at bytes is within misses =
    overwritten-commutes file at bytes gap.from (replicate (gap.to - gap.from) 0) within
    (zeros_within gap file is) (λ i p q. elim (misses i p.0 p.1) [
      | inl low ↦ absurd (omega (arith, low, q.0))
      | inr high ↦ absurd (omega (arith, high, q.1, zeros_end gap file is))
    ])

-- ---- parts of a gap

-- the zeros of the parts beside a range are those of the gap outside it
module _ (gap : Gap) (file : List ℕ) (at after : ℕ) (is : IsGapOf gap (length file)) (order : at ≤ after)
    (fits : after ≤ length file) where
  abbrev low : Gap
  low = before at gap

  abbrev high : Gap
  high = since after gap

  in_low : IsGapOf low (length file)
  in_low = (omega (arith, is.0), omega (arith, is.1))

  in_high : IsGapOf high (length file)
  in_high = (omega (arith, is.0), omega (arith, is.1, fits))

  in_high_still : IsGapOf high (length (zeroed low file))
  in_high_still = still_gap low file in_low high in_high

  parted_at : (i : ℕ) → Out at after i → In gap.from gap.to i ⊎ Out gap.from gap.to i
      → slice_index (zeroed gap file) i ≡ slice_index (zeroed high (zeroed low file)) i
  parted_at i (inl less) (inl p) = zeroed-in gap file is i p
      ∙ sym (zero_stays high (zeroed low file) in_high_still i
      (zeroed-in low file in_low i (omega (arith, p.0), omega (arith, p.1, less))))
  parted_at i (inr more) (inl p) = zeroed-in gap file is i p
      ∙ sym (zeroed-in high (zeroed low file) in_high_still i (omega (arith, p.0, more), omega (arith, p.1)))
  parted_at i out (inr q) = zeroed-out gap file is i q
      ∙ sym (zeroed-out high (zeroed low file) in_high_still i (past_high i out q)
      ∙ zeroed-out low file in_low i (past_low i out q))
    where
      past_low : (i : ℕ) → Out at after i → Out gap.from gap.to i → Out low.from low.to i
      past_low i out (inr above) = inr (omega (arith, above))
      past_low i (inl o) (inl below) = inl (omega (arith, o, below))
      past_low i (inr o) (inl below) = inr (omega (arith, o, order))

      past_high : (i : ℕ) → Out at after i → Out gap.from gap.to i → Out high.from high.to i
      past_high i out (inl below) = inl (omega (arith, below))
      past_high i (inl o) (inr above) = inl (omega (arith, o, order))
      past_high i (inr o) (inr above) = inr (omega (arith, o, above))

  pub parted : SameOutside at (after - at) (zeroed gap file) (zeroed high (zeroed low file))
  parted = record {
    same_length = length-zeroed gap file is
        ∙ sym (length-zeroed high (zeroed low file) in_high_still ∙ length-zeroed low file in_low);
    below = λ i less. parted_at i (inl less) (in_or_out gap.from gap.to i);
    above = λ i more. parted_at i (inr (omega (arith, more, order))) (in_or_out gap.from gap.to i);
  }

-- zeros of a gap keep what two files have the same
pub zeroed-keeps : (gap : Gap) (at n : ℕ) (a b : List ℕ) → IsGapOf gap (length a) → SameOutside at n a b
    → SameOutside at n (zeroed gap a) (zeroed gap b)
zeroed-keeps gap at n a b in_a same =
    let in_b : IsGapOf gap (length b) = (in_a.0, omega (arith, in_a.1, same.same_length)) in
    let each : (i : ℕ) → slice_index a i ≡ slice_index b i
    → slice_index (zeroed gap a) i ≡ slice_index (zeroed gap b) i =
    λ i is. elim (in_or_out gap.from gap.to i) [
      | inl p ↦ zeroed-in gap a in_a i p ∙ sym (zeroed-in gap b in_b i p)
      | inr q ↦ zeroed-out gap a in_a i q ∙ is ∙ sym (zeroed-out gap b in_b i q)
    ] in record {
      same_length = length-zeroed gap a in_a ∙ same.same_length ∙ sym (length-zeroed gap b in_b);
      below = λ i h. each i (same.below i h);
      above = λ i h. each i (same.above i h);
    }

-- so after both gaps were parted, wherever their zeros are written
pub parted_twice : (lower upper : Gap) (memory : List ℕ) (at after : ℕ) → IsGapOf lower (length memory)
    → IsGapOf upper (length memory) → at ≤ after → after ≤ length memory
    → {a b : Gap} → a ≡ before at lower → b ≡ since after lower
    → (low middle : Gap) (mid : List ℕ) → length mid ≡ length memory → IsGapOf low (length mid)
    → IsGapOf middle (length mid) → seen low middle mid ≡ zeroed upper (seen a b memory)
    → {c d : Gap} → c ≡ before at middle → d ≡ since after middle → {now : List ℕ}
    → now ≡ zeroed d (seen low c mid) → SameOutside at (after - at) (seen lower upper memory) now
parted_twice lower upper memory at after in_lower in_upper order fits {a} {b} is_a is_b low middle mid long
    in_low in_middle first {c} {d} is_c is_d {now} second =
    let beside : SameOutside at (after - at) (zeroed lower memory) (seen a b memory) =
    subst (λ (p : Gap × Gap). SameOutside at (after - at) (zeroed lower memory) (seen p.0 p.1 memory))
    (λ i. (sym is_a i, sym is_b i)) (parted lower memory at after in_lower order fits) in
    let mid_long : after ≤ length (zeroed low mid) =
    omega (arith, fits, long, length-zeroed low mid in_low) in
    let again : SameOutside at (after - at) (seen low middle mid) (zeroed d (seen low c mid)) =
    subst (λ (p : Gap × Gap). SameOutside at (after - at) (seen low middle mid)
    (zeroed p.1 (zeroed p.0 (zeroed low mid)))) (λ i. (sym is_c i, sym is_d i))
    (parted middle (zeroed low mid) at after (still_gap low mid in_low middle in_middle) order mid_long) in
    let kept : SameOutside at (after - at) (seen lower upper memory) (zeroed upper (seen a b memory)) =
    zeroed-keeps upper at (after - at) (zeroed lower memory) (seen a b memory)
    (still_gap lower memory in_lower upper in_upper) beside in
    subst (λ (file : List ℕ). SameOutside at (after - at) (seen lower upper memory) file) (sym second)
    (SameOutside-trans at (after - at) (seen lower upper memory) (seen low middle mid)
    (zeroed d (seen low c mid))
    (subst (λ (file : List ℕ). SameOutside at (after - at) (seen lower upper memory) file) (sym first) kept)
    again)

pub before_misses : (at after : ℕ) (gap : Gap) → Misses at after (before at gap)
before_misses at after gap i low high = inr (omega (arith, low))

pub since_misses : (at after : ℕ) (gap : Gap) → Misses at after (since after gap)
since_misses at after gap i low high = inl (omega (arith, high))

-- bytes of a file with zeros in a gap have zeros in its part there
module _ (gap : Gap) (file : List ℕ) (at n : ℕ) (is : IsGapOf gap (length file)) (fits : at + n ≤ length file)
  where
    abbrev here : Gap
    here = part_at at n gap

    in_here : IsGapOf here (length (bytes_at file at n))
    in_here = (omega (arith, is.0), omega (arith, length-bytes_at file at n fits))

    part_is : (i : ℕ) → i < n → In gap.from gap.to (at + i) ⊎ Out gap.from gap.to (at + i)
        → slice_index (zeroed gap file) (at + i) ≡ slice_index (zeroed here (bytes_at file at n)) i
    part_is i low (inl p) = zeroed-in gap file is (at + i) p
        ∙ sym (zeroed-in here (bytes_at file at n) in_here i (omega (arith, p.0), omega (arith, p.1, low)))
    part_is i low (inr q) = zeroed-out gap file is (at + i) q ∙ sym (bytes_at-index file at n i low)
        ∙ sym (zeroed-out here (bytes_at file at n) in_here i (past q))
      where
        past : Out gap.from gap.to (at + i) → Out here.from here.to i
        past (inl below) = inl (omega (arith, below, low))
        past (inr above) = inr (omega (arith, above))

    pub bytes_at-zeroed : bytes_at (zeroed gap file) at n ≡ zeroed here (bytes_at file at n)
    bytes_at-zeroed =
        let long : length (bytes_at (zeroed gap file) at n) ≡ n =
        length-bytes_at (zeroed gap file) at n (omega (arith, fits, length-zeroed gap file is)) in
        same_number_lists _ _ (long ∙ sym (length-zeroed here (bytes_at file at n) in_here
        ∙ length-bytes_at file at n fits)) (λ i h.
        let low : i < n = omega (arith, h, long) in
        bytes_at-index (zeroed gap file) at n i low ∙ part_is i low (in_or_out gap.from gap.to (at + i)))

-- ---- other lengths

-- a file that grows has zeros from its end on
pub grown : (end n : ℕ) (file : List ℕ) → end ≤ n → length file ≡ n
    → zeroed (record { from = end; to = n }) file ≡ resized (take end file) n
grown end n file more long =
    let gap : Gap = record { from = end; to = n } in
    let is : IsGapOf gap (length file) = (more, omega (arith, long)) in
    same_number_lists _ _ (length-zeroed gap file is ∙ long ∙ sym (length-resized (take end file) n)) (λ i h.
    elim (in_or_out end n i) [
      | inl p ↦ zeroed-in gap file is i p ∙ search (rules, places)
      | inr q ↦ zeroed-out gap file is i q ∙ search (rules, places)
    ])

-- a gap that goes on has the zeros of both
pub zeroed-joined : (from end n : ℕ) (file : List ℕ) → from ≤ end → end ≤ n → n ≤ length file
    → zeroed (record { from = from; to = n }) file
    ≡ zeroed (record { from = end; to = n }) (zeroed (record { from = from; to = end }) file)
zeroed-joined from end n file rises more fits =
    let whole : Gap = record { from = from; to = n } in
    let first : Gap = record { from = from; to = end } in
    let last : Gap = record { from = end; to = n } in
    let in_whole : IsGapOf whole (length file) = (omega (arith, rises, more), fits) in
    let in_first : IsGapOf first (length file) = (rises, omega (arith, more, fits)) in
    let in_last : IsGapOf last (length (zeroed first file)) =
    still_gap first file in_first last (more, fits) in
    same_number_lists _ _ (length-zeroed whole file in_whole
    ∙ sym (length-zeroed last (zeroed first file) in_last ∙ length-zeroed first file in_first)) (λ i h.
    elim (in_or_out from n i) [
      | inl p ↦ zeroed-in whole file in_whole i p ∙ sym (elim (in_or_out from end i) [
        | inl q ↦ zero_stays last (zeroed first file) in_last i (zeroed-in first file in_first i q)
        | inr (inl low) ↦ absurd (omega (arith, low, p.0))
        | inr (inr high) ↦ zeroed-in last (zeroed first file) in_last i (high, p.1)
      ])
      | inr (inl low) ↦ zeroed-out whole file in_whole i (inl low)
          ∙ sym (zeroed-out last (zeroed first file) in_last i (inl (omega (arith, low, rises)))
          ∙ zeroed-out first file in_first i (inl low))
      | inr (inr high) ↦ zeroed-out whole file in_whole i (inr high)
          ∙ sym (zeroed-out last (zeroed first file) in_last i (inr high)
          ∙ zeroed-out first file in_first i (inr (omega (arith, high, more))))
    ])

-- ---- two gaps

module _ (lower upper : Gap) (memory : List ℕ) (in_lower : IsGapOf lower (length memory))
    (in_upper : IsGapOf upper (length memory)) where
  under : IsGapOf upper (length (zeroed lower memory))
  under = still_gap lower memory in_lower upper in_upper

  low_long : length (zeroed lower memory) ≡ length memory
  low_long = length-zeroed lower memory in_lower

  pub length-seen : length (seen lower upper memory) ≡ length memory
  length-seen = length-zeroed upper (zeroed lower memory) under ∙ low_long

  pub bytes_at-seen : (at n : ℕ) → at + n ≤ length memory → bytes_at (seen lower upper memory) at n
      ≡ seen (part_at at n lower) (part_at at n upper) (bytes_at memory at n)
  bytes_at-seen at n fits =
      bytes_at-zeroed upper (zeroed lower memory) at n under (omega (arith, fits, low_long))
      ∙ ap (zeroed (part_at at n upper)) (bytes_at-zeroed lower memory at n in_lower fits)

  pub seen-overwritten : (at : ℕ) (bytes : List ℕ) → at + length bytes ≤ length memory
      → Misses at (at + length bytes) lower → Misses at (at + length bytes) upper
      → seen lower upper (overwritten memory at bytes) ≡ overwritten (seen lower upper memory) at bytes
  seen-overwritten at bytes within miss_lower miss_upper =
      ap (zeroed upper) (zeroed-overwritten lower memory at bytes in_lower within miss_lower)
      ∙ zeroed-overwritten upper (zeroed lower memory) at bytes under (omega (arith, within, low_long))
      miss_upper
