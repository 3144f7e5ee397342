-- Bytes read ahead, of which the first are taken.
use Rattle.std.proofs.Common.{◌≡◌, ℕ, ◌+◌, ◌-◌, ◌≤◌, List, ◌++◌, length, take, drop, length-drop, ap, sym, ◌∙◌, arith}
use Rattle.std.proofs.Math.Seq.{take-add}
use Rattle.std.proofs.lemmas.List.{drop-drop, drop_at, length-take-le, take_at}

-- what stands between two places
abbrev pub between : List ℕ → ℕ → ℕ → List ℕ
between bytes from to = take (to - from) (drop from bytes)

pub between_cut : (bytes : List ℕ) (from to n : ℕ) → from + n ≤ to
    → between bytes from to ≡ take n (drop from bytes) ++ between bytes (from + n) to
between_cut bytes from to n within =
    let split : to - from ≡ n + (to - (from + n)) = omega (arith, within) in
    ap (λ (m : ℕ). take m (drop from bytes)) split ∙ take-add n (to - (from + n)) (drop from bytes)
    ∙ ap (λ (xs : List ℕ). take n (drop from bytes) ++ take (to - (from + n)) xs) (drop-drop n from bytes)

pub between_later : (bytes : List ℕ) (from to n : ℕ) → from + n ≤ to → to ≤ length bytes
    → between bytes (from + n) to ≡ drop n (between bytes from to)
between_later bytes from to n within room =
    let long : n ≤ length (drop from bytes) = omega (arith, length-drop from bytes, within, room) in
    sym (ap (drop n) (between_cut bytes from to n within)
    ∙ drop_at (take n (drop from bytes)) (between bytes (from + n) to) n (length-take-le n
    (drop from bytes) long))

-- the first bytes were copied into the front of a slice
pub given_front : (bytes front out : List ℕ) (from to n : ℕ) → from + n ≤ to → to ≤ length bytes
    → front ≡ take n (drop from bytes)
    → between bytes from to ≡ take n (front ++ drop n out) ++ between bytes (from + n) to
given_front bytes front out from to n within room is =
    let long : n ≤ length (drop from bytes) = omega (arith, length-drop from bytes, within, room) in
    let count : length front ≡ n = ap length is ∙ length-take-le n (drop from bytes) long in
    between_cut bytes from to n within
    ∙ ap (λ (xs : List ℕ). xs ++ between bytes (from + n) to) (sym is
    ∙ sym (take_at front (drop n out) n count))
