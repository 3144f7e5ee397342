-- What was read of an input, piece by piece.
use Rattle.std.specs.Prelude.{◌≡◌, ℕ, ◌+◌, ◌-◌, ◌≤◌, List, ◌++◌, length, take, drop, refl}
use Rattle.std.proofs.Common.{arith, ap, sym, ◌∙◌, append_assoc, length-drop}
use Rattle.std.proofs.Math.Seq.{length-take-le, take-append-add}
use Rattle.std.proofs.lemmas.List.{take_all}
use Rattle.std.proofs.lemmas.Slice.{take-put_mid}
use borrow.Rule.Slice.PartMut.{put_mid, same_len_mid}

-- a part was written to its end
pub put_end : (xs ys : List ℕ) (a : ℕ) → a ≤ length xs → length ys ≡ length xs - a
    → put_mid a (length xs - a) xs ys ≡ take a xs ++ ys
put_end xs ys a within same =
    let long : length (put_mid a (length xs - a) xs ys) ≡ length xs =
    same_len_mid a (length xs - a) xs ys (omega (
      arith,
      same,
      length-take-le (length xs - a) (drop a xs) (omega (arith, length-drop a xs)),
    )) in
    sym (take_all (a + length ys) (put_mid a (length xs - a) xs ys) (omega (arith, long, same, within)))
    ∙ take-put_mid a (length xs - a) xs ys (a + length ys) refl within

-- one piece more
pub piece_more : (left text mid out rest : List ℕ) (filled n : ℕ) → filled ≤ length text
    → left ≡ take filled text ++ mid → mid ≡ take n out ++ rest
    → left ≡ take (filled + n) (take filled text ++ out) ++ rest
piece_more left text mid out rest filled n within whole taken =
    whole ∙ ap (λ r. take filled text ++ r) taken ∙ sym (append_assoc (take filled text) (take n out) rest)
    ∙ ap (λ r. r ++ rest) (sym (take-append-add (take filled text) out n)
    ∙ ap (λ k. take (k + n) (take filled text ++ out)) (length-take-le filled text within))
