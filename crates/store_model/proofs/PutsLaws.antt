-- Bytes that are put one after another.
use Rattle.std.specs.Prelude.{◌≡◌, ℕ, ◌+◌, ◌-◌, ◌≤◌, List, ◌++◌, length, take, Result, Ok, Err}
use Rattle.std.proofs.Common.{arith, ap, sym, ◌∙◌, append_assoc, length-append, subst}
use Rattle.std.proofs.lemmas.List.{take-append-le}
use Rattle.std.proofs.Math.Seq.{take-append-add}
use Rattle.byte_ranges.specs.Ranges.{bytes_at}
use Rattle.byte_ranges.proofs.RangeLaws.{bytes_at-append}
use Rattle.disk_face.specs.Streams.{Puts}

-- bytes that are put behind others
pub puts_after : {T E : Type 0} (xs ys a b c : List ℕ) (result : Result T E) → b ≡ a ++ xs
    → Puts b c ys result → Puts a c (xs ++ ys) result
puts_after xs ys a b c (Ok x) first then = record {
  all = then.all ∙ ap (λ (zs : List ℕ). zs ++ ys) first ∙ append_assoc a xs ys;
  front = tt;
}
puts_after xs ys a b c (Err e) first then =
    let f = then.front in
    record {
      all = tt;
      front = (
        length xs + f.0,
        omega (arith, f.1, length-append xs ys),
        f.2
            ∙ ap (λ (zs : List ℕ). zs ++ take f.0 ys) first
            ∙ append_assoc a xs (take f.0 ys)
            ∙ ap (λ (zs : List ℕ). a ++ zs) (sym (take-append-add xs ys f.0)),
      );
    }

-- a front of some bytes is a front of more
pub puts_cut : {T U E F : Type 0} (xs ys a b : List ℕ) (e : E) (f : F) → Puts {T = T} a b xs (Err e)
    → Puts {T = U} a b (xs ++ ys) (Err f)
puts_cut xs ys a b e f puts =
    let front = puts.front in
    record {
      all = tt;
      front = (
        front.0,
        omega (arith, front.1, length-append xs ys),
        front.2 ∙ ap (λ (zs : List ℕ). a ++ zs) (sym (take-append-le front.0 xs ys front.1)),
      );
    }

pub puts_as : {T E : Type 0} (xs ys a b : List ℕ) (result : Result T E) → xs ≡ ys → Puts a b xs result
    → Puts a b ys result
puts_as xs ys a b result same puts = subst (λ (zs : List ℕ). Puts a b zs result) same puts

-- a head and the bytes of a file behind it, in two parts
pub parts_behind : (head file : List ℕ) (at n size : ℕ) → n ≤ size
    → head ++ bytes_at file at n ++ bytes_at file (at + n) (size - n) ≡ head ++ bytes_at file at size
parts_behind head file at n size few =
    let whole : n + (size - n) ≡ size = omega (arith, few) in
    append_assoc head (bytes_at file at n) (bytes_at file (at + n) (size - n))
    ∙ ap (λ (zs : List ℕ). head ++ zs) (sym (bytes_at-append file at n (size - n))
    ∙ ap (bytes_at file at) whole)
