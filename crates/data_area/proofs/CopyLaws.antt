-- A range of a file that is copied in pieces to another that shares no byte with it.
use Rattle.std.specs.Prelude.{◌≡◌, ◌⊎◌, ℕ, ◌+◌, ◌≤◌, List, ◌++◌, length, take, drop}
use Rattle.std.proofs.Common.{arith, sym, ◌∙◌, ap, subst, inl, inr}
use Rattle.std.proofs.lemmas.List.{append-nil, take-append-drop}
use Rattle.byte_ranges.specs.Ranges.{SameOutside, bytes_at, overwritten}
use Rattle.byte_ranges.proofs.RangeLaws.{bytes_at-append, bytes_at-same, length-bytes_at, overwritten-outside, overwritten-pieces, within_above, within_below}

-- nothing is copied at first
pub copied_none : (a : List ℕ) (from to : ℕ) → a ≡ overwritten a to (bytes_at a from 0)
copied_none a from to = sym (take-append-drop to a)
    ∙ (let e : to ≡ to + 0 = omega arith in λ i. sym (append-nil (take to a)) i ++ drop (e i) a)

-- one piece more
pub copied_more : (a b c : List ℕ) (from to size done n : ℕ) → (from + size ≤ to) ⊎ (to + size ≤ from)
    → from + size ≤ length a → to + size ≤ length a → done + n ≤ size
    → b ≡ overwritten a to (bytes_at a from done) → c ≡ overwritten b (to + done) (bytes_at b (from + done) n)
    → c ≡ overwritten a to (bytes_at a from (done + n))
copied_more a b c from to size done n apart in_from in_to upto was more =
    let xs = bytes_at a from done in
    let ys = bytes_at a (from + done) n in
    let xs_len : length xs ≡ done = length-bytes_at a from done (omega (arith, in_from, upto)) in
    let ys_len : length ys ≡ n = length-bytes_at a (from + done) n (omega (arith, in_from, upto)) in
    let same : SameOutside to done a b =
    subst (λ x. SameOutside to done a x) (sym was)
    (subst (λ x. SameOutside to x a (overwritten a to xs)) xs_len
    (overwritten-outside a to xs (omega (arith, xs_len, in_to, upto)))) in
    let source : bytes_at b (from + done) n ≡ ys =
    sym (bytes_at-same a b (from + done) n (omega (arith, in_from, upto))
    (omega (arith, in_from, upto, same.same_length))
    (elim apart [
      | inl low ↦ within_below to done (from + done) (from + done + n) a b same (omega (arith, low, upto))
      | inr high ↦ within_above to done (from + done) (from + done + n) a b same (omega (arith, high, upto))
    ]))
    in
    more
    ∙ (λ i. overwritten (was i) (to + sym xs_len i) (source i))
    ∙ overwritten-pieces a to xs ys (omega (arith, xs_len, ys_len, in_to, upto))
    ∙ ap (overwritten a to) (sym (bytes_at-append a from done n))
