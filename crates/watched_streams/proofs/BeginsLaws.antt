-- Bytes that are given together are read as those given one after another.
use Rattle.std.proofs.Common.{◌≡◌, ◌<◌, ◌≤◌, ℕ, ◌+◌, ◌-◌, ◌++◌, List, [], ◌∷◌, length, take, drop, ap, refl, subst, arith, rules, true, false}
use Rattle.std.proofs.Math.Seq.{take-add}
use Rattle.std.proofs.lemmas.List.{length-drop, take_all}
use Rattle.watched_streams.specs.Begins.{Reads, ReadsAll}
use Rattle.watched_streams.specs.declared.begun.Begun.{Begun}

-- what follows bytes that are no request changes nothing
pub reads_none : (bytes : List ℕ) (b : Begun) → b.is_none ≡ true → ReadsAll bytes b b
reads_none [] b none = refl
reads_none (byte ∷ rest) b none = (b, step, reads_none rest b none)
  where
    step : Reads byte b b
    step = search rules

-- bytes of an object, all but its newline
pub reads_object : (bytes : List ℕ) (b : Begun) → b.is_none ≡ false → length bytes < b.due
    → ReadsAll bytes b (record b { due = b.due - length bytes })
reads_object [] b may due = ap (λ n. record b { due = n }) none
  where
    none : b.due - 0 ≡ b.due
    none = omega arith
reads_object (byte ∷ rest) b may due = (
  next,
  step,
  subst (λ n. ReadsAll rest next (record b { due = n })) less
      (reads_object rest next may (omega (arith, due))),
)
  where
    next : Begun
    next = record b { due = b.due - 1 }

    step : Reads byte b next
    step = search rules

    less : b.due - 1 - length rest ≡ b.due - length (byte ∷ rest)
    less = omega (arith, due)

-- bytes in two parts
pub reads_both : (xs ys : List ℕ) (old mid new : Begun) → ReadsAll xs old mid → ReadsAll ys mid new
    → ReadsAll (xs ++ ys) old new
reads_both [] ys old mid new is rest = subst (λ b. ReadsAll ys b new) is rest
reads_both (x ∷ xs) ys old mid new (next, step, more) rest =
    (next, step, reads_both xs ys next mid new more rest)

-- the front of a list, so far and so many more of the rest
pub reads_on : (bytes : List ℕ) (at n : ℕ) (old mid new : Begun) → ReadsAll (take at bytes) old mid
    → ReadsAll (take n (take (length bytes - at) (drop at bytes))) mid new
    → ReadsAll (take (at + n) bytes) old new
reads_on bytes at n old mid new front more =
    rw (take-add at n bytes) (reads_both (take at bytes) (take n (drop at bytes)) old mid new front
    (subst (λ rest. ReadsAll (take n rest) mid new) whole more))
  where
    whole : take (length bytes - at) (drop at bytes) ≡ drop at bytes
    whole = take_all (length bytes - at) (drop at bytes) (omega (arith, length-drop at bytes))

-- so many bytes of an object in front
pub reads_some : (bytes : List ℕ) (n : ℕ) (b : Begun) → n ≤ length bytes → b.is_none ≡ false → n < b.due
    → ReadsAll (take n bytes) b (record b { due = b.due - n })
reads_some bytes n b within may due =
    subst (λ m. ReadsAll (take n bytes) b (record b { due = b.due - m })) long
    (reads_object (take n bytes) b may (rw long due))
  where
    long : length (take n bytes) ≡ n
    long = search rules
