-- One more piece of what is passed on.
use Rattle.std.proofs.Common.{◌≡◌, ℕ, ◌+◌, ◌-◌, ◌≤◌, Option, List, ◌++◌, length, take, drop, arith, sym, ap, ◌∙◌, subst, drop_at, take_at, length-take-le, length-drop}
use Rattle.std.proofs.lemmas.List.{take_rest}
use Rattle.std.proofs.Math.Seq.{take-add}
use lib.Seq.{take-append-le}
use borrow.Rule.Slice.PartMut.{put_mid, post_of}
use Rattle.std.specs.Io.KnownBytes.{Appends}
use Rattle.std.proofs.KnownBytes.{Appends-trans}
use Rattle.byte_ranges.specs.Ranges.{bytes_at, overwritten}
use Rattle.byte_ranges.proofs.RangeLaws.{bytes_at-append, overwritten-pieces, length-overwritten}

-- what is left of the bytes from a place on
abbrev pub rest_of : List ℕ → ℕ → List ℕ
rest_of bytes done = take (length bytes - done) (drop done bytes)

pub length-rest_of : (bytes : List ℕ) (done : ℕ) → length (rest_of bytes done) ≡ length bytes - done
length-rest_of bytes done = ap length (take_rest bytes done) ∙ length-drop done bytes

-- a front of the rest goes on a front of the bytes
pub front_more : (bytes : List ℕ) (done n : ℕ)
    → take (done + n) bytes ≡ take done bytes ++ take n (rest_of bytes done)
front_more bytes done n = take-add done n bytes
    ∙ ap (λ xs. take done bytes ++ take n xs) (sym (take_rest bytes done))

pub Appends-more : (a b c : Option (List ℕ)) (bytes : List ℕ) (done n : ℕ) → Appends a b (take done bytes)
    → Appends b c (take n (rest_of bytes done)) → Appends a c (take (done + n) bytes)
Appends-more a b c bytes done n was next =
    subst (Appends a c) (sym (front_more bytes done n)) (Appends-trans a b c _ _ was next)

-- a piece that was read into the rest
pub filled_more : (file out new : List ℕ) (pos at done n : ℕ) → at ≡ pos + done → done ≤ length out
    → n ≤ length new → take done out ≡ bytes_at file pos done → take n new ≡ bytes_at file at n
    → take (done + n) (put_mid done (length out - done) out new) ≡ bytes_at file pos (done + n)
filled_more file out new pos at done n is within fits was next =
    let after = post_of done (length out - done) out in
    let whole : List ℕ = take done out ++ (new ++ after) in
    let here : length (take done out) ≡ done = length-take-le done out within in
    take-add done n whole
    ∙ ap (λ (xs : List ℕ). xs ++ take n (drop done whole)) (take_at (take done out) (new ++ after) done here)
    ∙ ap (λ (xs : List ℕ). take done out ++ take n xs) (drop_at (take done out) (new ++ after) done here)
    ∙ ap (λ (xs : List ℕ). take done out ++ xs) (take-append-le n new after fits)
    ∙ ap (λ (xs : List ℕ). xs ++ take n new) was
    ∙ ap (λ (xs : List ℕ). bytes_at file pos done ++ xs) (next ∙ ap (λ (p : ℕ). bytes_at file p n) is)
    ∙ sym (bytes_at-append file pos done n)

-- the rest lies within the file still
pub rest_fits : (file before bytes : List ℕ) (pos at done : ℕ) → at ≡ pos + done → done ≤ length bytes
    → pos + length bytes ≤ length file → before ≡ overwritten file pos (take done bytes)
    → at + length (rest_of bytes done) ≤ length before
rest_fits file before bytes pos at done is within inside was =
    let front_len : length (take done bytes) ≡ done = length-take-le done bytes within in
    let kept : length before ≡ length file = ap length was
    ∙ length-overwritten file pos (take done bytes) (omega (arith, front_len, within, inside)) in
    omega (arith, is, kept, length-rest_of bytes done, within, inside)

-- a piece of the rest that was written
pub written_more : (file before after bytes : List ℕ) (pos at done n : ℕ) → at ≡ pos + done
    → done ≤ length bytes → n ≤ length (rest_of bytes done) → pos + length bytes ≤ length file
    → before ≡ overwritten file pos (take done bytes)
    → (at + length (rest_of bytes done) ≤ length before
    → after ≡ overwritten before at (take n (rest_of bytes done)))
    → after ≡ overwritten file pos (take (done + n) bytes)
written_more file before after bytes pos at done n is within fits inside was next =
    let front : List ℕ = take done bytes in
    let piece : List ℕ = take n (rest_of bytes done) in
    let front_len : length front ≡ done = length-take-le done bytes within in
    let piece_len : length piece ≡ n = length-take-le n (rest_of bytes done) fits in
    next (rest_fits file before bytes pos at done is within inside was)
    ∙ ap (λ (p : ℕ). overwritten before p piece) (is ∙ ap (λ (k : ℕ). pos + k) (sym front_len))
    ∙ ap (λ (xs : List ℕ). overwritten xs (pos + length front) piece) was
    ∙ overwritten-pieces file pos front piece
    (omega (arith, front_len, piece_len, fits, length-rest_of bytes done, within, inside))
    ∙ ap (overwritten file pos) (sym (front_more bytes done n))
