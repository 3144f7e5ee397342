-- Byte strings by position. A file is a list of bytes; past its end `slice_index` gives 0.
use Rattle.std.specs.Prelude.{◌≡◌, ℕ, ◌+◌, ◌-◌, ◌<◌, ◌≤◌, List, ◌++◌, length, take, drop, replicate, slice_index}

-- the n bytes of a file that begin at a position
abbrev pub bytes_at : List ℕ → ℕ → ℕ → List ℕ
bytes_at file at n = take n (drop at file)

-- a file after a write of bytes at a position
abbrev pub overwritten : List ℕ → ℕ → List ℕ → List ℕ
overwritten file at bytes = take at file ++ bytes ++ drop (at + length bytes) file

-- a file cut or grown to a length; grown bytes are 0
abbrev pub resized : List ℕ → ℕ → List ℕ
resized file n = take n file ++ replicate (n - length file) 0

-- two files have the same bytes from low up to high
abbrev pub SameWithin : ℕ → ℕ → List ℕ → List ℕ → Type 0
SameWithin low high a b = (i : ℕ) → low ≤ i → i < high → slice_index a i ≡ slice_index b i

-- two files have the same bytes below a position
abbrev pub SameBelow : ℕ → List ℕ → List ℕ → Type 0
SameBelow end a b = (i : ℕ) → i < end → slice_index a i ≡ slice_index b i

-- two files have one length, and the same bytes from a position on
pub record SameFrom (start : ℕ) (a b : List ℕ) : Type 0 where
  pub same_length : length a ≡ length b
  pub bytes : (i : ℕ) → start ≤ i → slice_index a i ≡ slice_index b i

-- two files have one length, and the same bytes outside n bytes at a position
pub record SameOutside (at n : ℕ) (a b : List ℕ) : Type 0 where
  pub same_length : length a ≡ length b
  pub below : (i : ℕ) → i < at → slice_index a i ≡ slice_index b i
  pub above : (i : ℕ) → at + n ≤ i → slice_index a i ≡ slice_index b i
