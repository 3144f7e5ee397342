-- A piece that is filled part by part.
use Rattle.std.specs.Prelude.{◌≡◌, ℕ, ◌+◌, ◌-◌, ◌≤◌, List, ◌++◌, length, take, drop}
use Rattle.std.proofs.Common.{ap, sym, ◌∙◌, append_assoc, length-drop}
use Rattle.std.proofs.Math.Seq.{take-add}
use Rattle.std.proofs.lemmas.List.{drop_at, length-take-le, take_at, take_rest}
use lib.Seq.{take-append-le}
use borrow.Rule.Slice.PartMut.{put_mid, post_of}

-- what is left of a piece from a place on
pub length-rest : (piece : List ℕ) (done : ℕ) → length (take (length piece - done) (drop done piece))
    ≡ length piece - done
length-rest piece done = ap length (take_rest piece done) ∙ length-drop done piece

-- some more bytes were taken behind the first
pub fill_more : (start piece part now rest : List ℕ) (done n : ℕ) → done ≤ length piece → n ≤ length part
    → start ≡ take done piece ++ now → now ≡ take n part ++ rest
    → start ≡ take (done + n) (put_mid done (length piece - done) piece part) ++ rest
fill_more start piece part now rest done n within fits so_far is =
    let after = post_of done (length piece - done) piece in
    let whole : List ℕ = take done piece ++ (part ++ after) in
    let here : length (take done piece) ≡ done = length-take-le done piece within in
    let more : take (done + n) whole ≡ take done piece ++ take n part =
    take-add done n whole
    ∙ ap (λ (xs : List ℕ). xs ++ take n (drop done whole))
    (take_at (take done piece) (part ++ after) done here)
    ∙ ap (λ (xs : List ℕ). take done piece ++ take n xs) (drop_at (take done piece) (part ++ after) done here)
    ∙ ap (λ (xs : List ℕ). take done piece ++ xs) (take-append-le n part after fits) in
    so_far ∙ ap (λ (xs : List ℕ). take done piece ++ xs) is
    ∙ sym (append_assoc (take done piece) (take n part) rest)
    ∙ ap (λ (xs : List ℕ). xs ++ rest) (sym more)
