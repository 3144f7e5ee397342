-- Rings by session.
use Rattle.std.specs.Prelude.{◌≡◌, ℕ, zero, suc, ◌<◌, List, [], ◌∷◌, length, map, slice_index_or, slice_set, refl}
use Rattle.std.proofs.Common.{arith, ap, sym, subst}
use Rattle.std.specs.List.{AllByRecursion}
use Rattle.circular_buffer.specs.Buffer.{Buffer}

-- the bytes of each ring
abbrev bytes_of : List (Buffer ℕ) → List (List ℕ)
bytes_of rings = map (λ b. b.items) rings

-- those of one
pub bytes_at : (rings : List (Buffer ℕ)) (s : ℕ) (b : Buffer ℕ) → s < length rings
    → b ≡ slice_index_or rings s b → slice_index_or (bytes_of rings) s [] ≡ b.items
bytes_at [] s b within is = absurd (omega arith)
bytes_at (x ∷ xs) zero b within is = ap (λ (y : Buffer ℕ). y.items) (sym is)
bytes_at (x ∷ xs) (suc s) b within is = bytes_at xs s b (omega arith) is

-- those of rings of which one was set
pub bytes_set : (rings : List (Buffer ℕ)) (s : ℕ) (b : Buffer ℕ)
    → bytes_of (slice_set rings s b) ≡ slice_set (bytes_of rings) s b.items
bytes_set [] s b = refl
bytes_set (x ∷ xs) zero b = refl
bytes_set (x ∷ xs) (suc s) b = ap (λ ys. x.items ∷ ys) (bytes_set xs s b)

pub length-bytes : (rings : List (Buffer ℕ)) → length (bytes_of rings) ≡ length rings
length-bytes [] = refl
length-bytes (x ∷ xs) = ap suc (length-bytes xs)

-- what holds of all holds of one, and of all of which one was set
pub one_of_all : (P : Buffer ℕ → Type 0) (rings : List (Buffer ℕ)) (s : ℕ) (b : Buffer ℕ) → s < length rings
    → b ≡ slice_index_or rings s b → AllByRecursion P rings → P b
one_of_all P [] s b within is all = absurd (omega arith)
one_of_all P (x ∷ xs) zero b within is all = subst P (sym is) all.0
one_of_all P (x ∷ xs) (suc s) b within is all = one_of_all P xs s b (omega arith) is all.1

pub all_of_set : (P : Buffer ℕ → Type 0) (rings : List (Buffer ℕ)) (s : ℕ) (b : Buffer ℕ) → P b
    → AllByRecursion P rings → AllByRecursion P (slice_set rings s b)
all_of_set P [] s b its all = tt
all_of_set P (x ∷ xs) zero b its all = (its, all.1)
all_of_set P (x ∷ xs) (suc s) b its all = (all.0, all_of_set P xs s b its all.1)
