-- Laws of byte strings by position: what is written is read, and nothing else changes.
use Rattle.std.specs.Prelude.{◌≡◌, ℕ, ◌+◌, ◌-◌, ◌<◌, ◌≤◌, List, ◌++◌, length, take, drop, slice_index, refl}
use Rattle.std.proofs.Common.{length-append, append_assoc, arith, sym, ◌∙◌, ap, length-drop, rules}
use Rattle.std.proofs.lemmas.List.{get_or-take, get_or-drop, places, length-take-le, take_at, drop_at, drop-take, take-take, drop-drop}
use Rattle.std.proofs.Math.Seq.{take-add}
use Rattle.std.proofs.lemmas.Grind.{same_number_lists}
use Rattle.byte_ranges.specs.Ranges.{bytes_at, overwritten, resized, SameWithin, SameFrom, SameOutside}

pub SameOutside-refl : (at n : ℕ) (a : List ℕ) → SameOutside at n a a
SameOutside-refl at n a = record { same_length = refl; below = λ i h. refl; above = λ i h. refl }

pub SameOutside-trans : (at n : ℕ) (a b c : List ℕ) → SameOutside at n a b → SameOutside at n b c
    → SameOutside at n a c
SameOutside-trans at n a b c ab bc = record {
  same_length = ab.same_length ∙ bc.same_length;
  below = λ i h. ab.below i h ∙ bc.below i h;
  above = λ i h. ab.above i h ∙ bc.above i h;
}

-- a change within a part of a range is a change within the range
pub SameOutside-wider : (at n at' n' : ℕ) (a b : List ℕ) → at' ≤ at → at + n ≤ at' + n' → SameOutside at n a b
    → SameOutside at' n' a b
SameOutside-wider at n at' n' a b low high same = record {
  same_length = same.same_length;
  below = λ i h. same.below i (omega (arith, h, low));
  above = λ i h. same.above i (omega (arith, h, high));
}

-- the length after a write within the file
pub length-overwritten : (file : List ℕ) (at : ℕ) (bytes : List ℕ) → at + length bytes ≤ length file
    → length (overwritten file at bytes) ≡ length file
length-overwritten file at bytes within = search (rules, places)

-- what a write leaves outside its range
pub overwritten-below : (file : List ℕ) (at : ℕ) (bytes : List ℕ) (i : ℕ) → at + length bytes ≤ length file
    → i < at → slice_index (overwritten file at bytes) i ≡ slice_index file i
overwritten-below file at bytes i within low = search (rules, places)

pub overwritten-above : (file : List ℕ) (at : ℕ) (bytes : List ℕ) (i : ℕ) → at + length bytes ≤ length file
    → at + length bytes ≤ i → slice_index (overwritten file at bytes) i ≡ slice_index file i
overwritten-above file at bytes i within high = search (rules, places)

-- what a write puts into its range
pub overwritten-inside : (file : List ℕ) (at : ℕ) (bytes : List ℕ) (i : ℕ) → at + length bytes ≤ length file
    → i < length bytes → slice_index (overwritten file at bytes) (at + i) ≡ slice_index bytes i
overwritten-inside file at bytes i within high = search (rules, places)

pub overwritten-outside : (file : List ℕ) (at : ℕ) (bytes : List ℕ) → at + length bytes ≤ length file
    → SameOutside at (length bytes) file (overwritten file at bytes)
overwritten-outside file at bytes within = record {
  same_length = sym (length-overwritten file at bytes within);
  below = λ i h. sym (overwritten-below file at bytes i within h);
  above = λ i h. sym (overwritten-above file at bytes i within h);
}

pub length-bytes_at : (file : List ℕ) (at n : ℕ) → at + n ≤ length file → length (bytes_at file at n) ≡ n
length-bytes_at file at n within = search (rules, places)

pub bytes_at-index : (file : List ℕ) (at n i : ℕ) → i < n
    → slice_index (bytes_at file at n) i ≡ slice_index file (at + i)
bytes_at-index file at n i h = get_or-take n (drop at file) i 0 h ∙ get_or-drop at file i 0

-- files that are alike within a range give the same bytes there
pub bytes_at-same : (a b : List ℕ) (at n : ℕ) → at + n ≤ length a → at + n ≤ length b
    → SameWithin at (at + n) a b → bytes_at a at n ≡ bytes_at b at n
bytes_at-same a b at n in_a in_b same =
    same_number_lists _ _ (length-bytes_at a at n in_a ∙ sym (length-bytes_at b at n in_b)) (λ k h.
    let k_low : k < n = omega (arith, h, length-bytes_at a at n in_a) in
    bytes_at-index a at n k k_low ∙ same (at + k) (omega arith) (omega (arith, k_low))
    ∙ sym (bytes_at-index b at n k k_low))

-- what was written is what is read
pub bytes_at-overwritten : (file : List ℕ) (at : ℕ) (bytes : List ℕ) → at + length bytes ≤ length file
    → bytes_at (overwritten file at bytes) at (length bytes) ≡ bytes
bytes_at-overwritten file at bytes within =
    same_number_lists _ _ (length-bytes_at _ at _
    (omega (arith, within, length-overwritten file at bytes within))) (λ k h.
    let k_low : k < length bytes = omega (
      arith,
      h,
      length-bytes_at (overwritten file at bytes) at (length bytes)
          (omega (arith, within, length-overwritten file at bytes within)),
    ) in
    bytes_at-index _ at _ k k_low ∙ overwritten-inside file at bytes k within k_low)

-- a range below or above a change is as it was
pub within_below : (at n low high : ℕ) (a b : List ℕ) → SameOutside at n a b → high ≤ at
    → SameWithin low high a b
within_below at n low high a b same apart = λ i l h. same.below i (omega (arith, h, apart))

pub within_above : (at n low high : ℕ) (a b : List ℕ) → SameOutside at n a b → at + n ≤ low
    → SameWithin low high a b
within_above at n low high a b same apart = λ i l h. same.above i (omega (arith, l, apart))

-- growing is not seen by reads below the old end, nor past it
pub length-resized : (file : List ℕ) (n : ℕ) → length (resized file n) ≡ n
length-resized file n = search (rules, places)

pub resized-index : (file : List ℕ) (n i : ℕ) → i < n → i < length file
    → slice_index (resized file n) i ≡ slice_index file i
resized-index file n i h k = search (rules, places)

-- files that are alike from a position on give the same bytes there
pub bytes_at-from : (start : ℕ) (a b : List ℕ) (at n : ℕ) → SameFrom start a b → start ≤ at
    → bytes_at b at n ≡ bytes_at a at n
bytes_at-from start a b at n same low =
    let rests : drop at b ≡ drop at a =
    same_number_lists _ _ (length-drop at b ∙ ap (λ x. x - at) (sym same.same_length)
    ∙ sym (length-drop at a)) (λ k h.
    get_or-drop at b k 0 ∙ sym (same.bytes (at + k) (omega (arith, low))) ∙ sym (get_or-drop at a k 0))
    in ap (take n) rests

-- alike is alike both ways, and from one to the next
pub SameWithin-sym : (low high : ℕ) (a b : List ℕ) → SameWithin low high a b → SameWithin low high b a
SameWithin-sym low high a b same = λ i l h. sym (same i l h)

pub SameWithin-trans : (low high : ℕ) (a b c : List ℕ) → SameWithin low high a b → SameWithin low high b c
    → SameWithin low high a c
SameWithin-trans low high a b c ab bc = λ i l h. ab i l h ∙ bc i l h

-- a part of what stands at a position is what stands there in the file
pub bytes_at-within : (file : List ℕ) (at n i m : ℕ) → i + m ≤ n
    → bytes_at (bytes_at file at n) i m ≡ bytes_at file (at + i) m
bytes_at-within file at n i m within =
    let split : n ≡ i + (n - i) = omega (arith, within) in
    let short : m ≤ n - i = omega (arith, within) in
    ap (λ (x : ℕ). take m (drop i (take x (drop at file)))) split
    ∙ ap (take m) (drop-take i (n - i) (drop at file))
    ∙ take-take m (n - i) (drop i (drop at file)) short
    ∙ ap (take m) (drop-drop i at file)

-- two pieces beside each other
pub bytes_at-append : (file : List ℕ) (at m n : ℕ)
    → bytes_at file at (m + n) ≡ bytes_at file at m ++ bytes_at file (at + m) n
bytes_at-append file at m n = take-add m n (drop at file)
    ∙ ap (λ (xs : List ℕ). take m (drop at file) ++ take n xs) (drop-drop m at file)

-- two writes beside each other are one
pub overwritten-pieces : (file : List ℕ) (at : ℕ) (xs ys : List ℕ) → at + length xs + length ys ≤ length file
    → overwritten (overwritten file at xs) (at + length xs) ys ≡ overwritten file at (xs ++ ys)
overwritten-pieces file at xs ys within =
    let after : List ℕ = overwritten file at xs in
    let front_len : length (take at file ++ xs)
    ≡ at + length xs = omega (
      arith,
      length-append (take at file) xs,
      length-take-le at file (omega (arith, within)),
    ) in
    let front : take (at + length xs) after ≡ take at file
    ++ xs = take_at (take at file ++ xs) (drop (at + length xs) file) (at + length xs) front_len in
    let rest : drop (at + length xs) after
    ≡ drop (at + length xs) file = drop_at (take at file ++ xs) (drop (at + length xs) file)
    (at + length xs) front_len in
    let back : drop (at + length xs + length ys) after
    ≡ drop (at + length (xs ++ ys)) file = sym (drop-drop (length ys) (at + length xs) after)
    ∙ ap (drop (length ys)) rest ∙ drop-drop (length ys) (at + length xs) file
    ∙ ap (λ n. drop n file) (omega (arith, length-append xs ys)) in
    rw (front, back) (ap (λ (zs : List ℕ). zs ++ drop (at + length (xs ++ ys)) file)
    (append_assoc (take at file) xs ys))
