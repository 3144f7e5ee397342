-- A piece that is taken from the front of what is left.
use Rattle.std.proofs.Common.{◌≡◌, ◌+◌, ◌-◌, ◌≤◌, ℕ, List, ◌++◌, length, take, drop, arith, ap, sym, ◌∙◌}
use Rattle.std.proofs.lemmas.List.{take_at, drop-drop, take-append-drop, length-take-le}

pub piece_first : (left bytes read part rest : List ℕ) (at n : ℕ) → left ≡ drop at bytes → read ≡ bytes
    → part ≡ take (at + n - at) (drop at read) → n ≤ length (drop at bytes)
    → left ≡ take n (part ++ rest) ++ drop (at + n) bytes
piece_first left bytes read part rest at n is_left is_read is_part within =
    let same : at + n - at ≡ n = omega arith in
    let whole : part ≡ take n (drop at bytes) = is_part ∙ ap (λ m. take m (drop at read)) same
    ∙ ap (λ (xs : List ℕ). take n (drop at xs)) is_read in
    let len : length part ≡ n = ap length whole ∙ length-take-le n (drop at bytes) within in
    let front : take n (part ++ rest) ≡ part = take_at part rest n len in
    let back : drop (at + n) bytes ≡ drop n (drop at bytes) = sym (drop-drop n at bytes) in
    let joined : take n (drop at bytes)
    ++ drop n (drop at bytes) ≡ drop at bytes = take-append-drop n (drop at bytes) in
    cc
