-- Writing the numbers of a first line, one after another: the line has room for them.
use Rattle.std.specs.Prelude.{◌≡◌, ℕ, ◌+◌, ◌*◌, ◌^◌, ◌<◌, ◌≤◌, List, [], ◌∷◌, ◌++◌, codes, flat_map, length, slice_index, take}
use Rattle.std.proofs.Common.{arith, ap, ◌∙◌, inl, inr, append-nil}
use Rattle.std.proofs.Math.Nat.{mul-le-mul_left, mul-le-mul_right}
use Rattle.std.proofs.lemmas.Bool.{cases_lt}
use Rattle.std.proofs.lemmas.Fmt.{length-decimal-le}
use Rattle.std.proofs.lemmas.Grind.{flat_map-append}
use Rattle.std.proofs.lemmas.List.{take_more}
use Rattle.std.specs.Fmt.{decimal}
use Rattle.size_class.proofs.ClassLaws.{power_rises}
use Rattle.dump_stream.specs.Heads.{room_of, volume_text}

-- the number of objects
pub few_digits : (count : ℕ) → count ≤ 65536 → length (decimal count) ≤ 5
few_digits count few = length-decimal-le 5 count (omega arith) (omega (arith, few)) (omega (arith, few))

-- the number of class c, with its blank
pub few_volume_digits : (count c v : ℕ) → count ≤ 65536 → c < 32 → v ≤ count * 2 ^ (c + 1)
    → room_of c + 1 + length (decimal v) ≤ room_of (c + 1)
few_volume_digits count c v few low small = elim (cases_lt c 17) [
  | inl under ↦
      let power : 2 ^ (c + 1) ≤ 2 ^ 17 = power_rises (c + 1) 17 (omega (arith, under)) in
      let most : v ≤ 2 ^ 33 =
      omega (arith, small, mul-le-mul_left count power, mul-le-mul_right (2 ^ 17) few) in
      omega (arith, under, length-decimal-le 11 v (omega arith) (omega (arith, most)) (omega (arith, most)))
  | inr above ↦
      let power : 2 ^ (c + 1) ≤ 2 ^ 32 = power_rises (c + 1) 32 (omega (arith, low)) in
      let most : v ≤ 2 ^ 48 =
      omega (arith, small, mul-le-mul_left count power, mul-le-mul_right (2 ^ 32) few) in
      omega (arith, above, length-decimal-le 15 v (omega arith) (omega (arith, most)) (omega (arith, most)))
]

pub room_in : (c : ℕ) → c ≤ 32 → room_of c ≤ 454
room_in c few = omega (arith, few)

-- one more volume
pub volumes_one : (c : ℕ) (volumes : List ℕ) → c < length volumes
    → flat_map volume_text (take (c + 1) volumes)
    ≡ flat_map volume_text (take c volumes) ++ (codes " " ++ decimal (slice_index volumes c))
volumes_one c volumes low =
    ap (flat_map volume_text) (take_more volumes c 0 low)
    ∙ flat_map-append volume_text (take c volumes) (slice_index volumes c ∷ [])
    ∙ ap (λ xs. flat_map volume_text (take c volumes) ++ xs) (append-nil (volume_text
    (slice_index volumes c)))
