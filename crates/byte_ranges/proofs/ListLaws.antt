-- Laws of small words on lists and numbers.
use Rattle.std.proofs.Common.{arith, ap, sym, ◌∙◌}
use Rattle.std.proofs.lemmas.List.{length-map, map-id}
use Rattle.std.specs.Prelude.{◌<◌, List, length, ◌≡◌, refl, slice_index, replicate, ℕ, zero, suc, ◌+◌, map}
use Rattle.byte_ranges.specs.Lists.{counting_from, below}

-- zeros alone read as 0
pub zeros_at : (n i : ℕ) → slice_index (replicate n 0) i ≡ 0
zeros_at zero i = refl
zeros_at (suc n) zero = refl
zeros_at (suc n) (suc i) = zeros_at n i

length-counting : (first n : ℕ) → length (counting_from first n) ≡ n
length-counting first zero = refl
length-counting first (suc n) = ap suc (length-counting (first + 1) n)

counting-index : (f : ℕ → ℕ) (first n i : ℕ) → i < n
    → slice_index (map f (counting_from first n)) i ≡ f (first + i)
counting-index f first zero i h = absurd (omega (arith, h))
counting-index f first (suc n) zero h = let e : first ≡ first + 0 = omega arith in ap f e
counting-index f first (suc n) (suc i) h =
    let e : first + 1 + i ≡ first + suc i = omega arith in
    counting-index f (first + 1) n i (omega (arith, h)) ∙ ap f e

-- what a function makes of the numbers below n
pub length-map_below : (f : ℕ → ℕ) (n : ℕ) → length (map f (below n)) ≡ n
unfolding below
length-map_below f n = length-map (counting_from 0 n) f ∙ length-counting 0 n

pub map_below-index : (f : ℕ → ℕ) (n i : ℕ) → i < n → slice_index (map f (below n)) i ≡ f i
unfolding below
map_below-index f n i h = counting-index f 0 n i h ∙ (let e : 0 + i ≡ i = omega arith in ap f e)

-- the numbers below n themselves
pub length-below : (n : ℕ) → length (below n) ≡ n
unfolding below
length-below n = length-counting 0 n

pub below_at : (n i : ℕ) → i < n → slice_index (below n) i ≡ i
below_at n i h = sym (ap (λ (xs : List ℕ). slice_index xs i) (map-id (below n)))
    ∙ map_below-index (λ x. x) n i h
