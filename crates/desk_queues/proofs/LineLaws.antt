-- The line that stands in front of bytes.
use Rattle.std.specs.Prelude.{◌≡◌, ℕ, ◌<◌, ◌≤◌, List, [], ◌∷◌, ◌++◌, length, drop, slice_get, Some, None}
use Rattle.std.proofs.Common.{arith, ap, sym, ◌∙◌, append_assoc, length-append}
use Rattle.std.proofs.lemmas.List.{append-nil}
use Rattle.ask_text.proofs.Cuts.{cut_once, lacks-append}
use Rattle.desk_queues.specs.Taken.{BeginsLine, Lacks}

-- a front without a byte is no longer than what stands before the first such byte
front_short : (c : ℕ) (xs ys line rest : List ℕ) → Lacks c xs → xs ++ ys ≡ line ++ c ∷ rest
    → length xs ≤ length line
front_short c [] ys line rest lacks is = omega arith
front_short c (x ∷ xs) ys [] rest lacks is = let same : x ≡ c = cc in absurd (lacks.0 same)
front_short c (x ∷ xs) ys (y ∷ line) rest lacks is =
    let behind : xs ++ ys ≡ line ++ c ∷ rest = cc in
    omega (arith, front_short c xs ys line rest lacks.1 behind)

-- bytes begin with their first one
first_is : (xs : List ℕ) (b : ℕ) → slice_get xs 0 ≡ Some b → xs ≡ b ∷ drop 1 xs
first_is [] b is = absurd (cc)
first_is (x ∷ xs) b is = let same : x ≡ b = cc in ap (λ y. y ∷ xs) same

-- no more than 269 bytes of a line were taken where another one stands in front
pub line_room : (line left first : List ℕ) (b : ℕ) → BeginsLine first → Lacks 10 line → (b ≡ 10 → ⊥)
    → slice_get left 0 ≡ Some b → line ++ left ≡ first → length line < 270
line_room line left first b begins lacks other is whole =
    let longer : Lacks 10 (line ++ b ∷ []) = lacks-append 10 line (b ∷ []) lacks (other, tt) in
    let split : (line ++ b ∷ []) ++ drop 1 left ≡ begins.0 ++ 10 ∷ begins.1 =
    append_assoc line (b ∷ []) (drop 1 left) ∙ ap (λ xs. line ++ xs) (sym (first_is left b is)) ∙ whole
    ∙ begins.4 in
    omega (
      arith,
      front_short 10 (line ++ b ∷ []) (drop 1 left) begins.0 begins.1 longer split,
      begins.3,
      length-append line (b ∷ []),
    )

-- at the newline what was taken is the line
pub line_whole : (line left first other rest : List ℕ) → Lacks 10 line → slice_get left 0 ≡ Some 10
    → line ++ left ≡ first → Lacks 10 other → first ≡ other ++ 10 ∷ rest
    → (line ≡ other) × (drop 1 left ≡ rest)
line_whole line left first other rest lacks is whole lacks_too begins =
    cut_once 10 line other (drop 1 left) rest lacks lacks_too
    (ap (λ xs. line ++ xs) (sym (first_is left 10 is)) ∙ whole ∙ begins)

-- before the newline some byte is left
pub line_goes_on : (line left first other rest : List ℕ) → Lacks 10 line → slice_get left 0 ≡ None
    → line ++ left ≡ first → first ≡ other ++ 10 ∷ rest → ⊥
line_goes_on line [] first other rest lacks none whole begins = omega (
  arith,
  front_short 10 line [] other rest lacks (whole ∙ begins),
  ap length (sym (append-nil line) ∙ whole ∙ begins),
  length-append other (10 ∷ rest),
)
line_goes_on line (b ∷ left) first other rest lacks none whole begins = cc
