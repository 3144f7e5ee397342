-- What begins with no request: no line is found in front of it, or one that asks for nothing.
use Rattle.std.proofs.Common.{◌≡◌, ◌⊎◌, inl, inr, ℕ, ◌≤◌, ◌<◌, List, [], ◌∷◌, ◌++◌, length, length-append, append_assoc, refl, ap, sym, ◌∙◌, arith}
use Rattle.std.specs.Prelude.{codes}
use Rattle.map_model.specs.Requests.{Request}
use Rattle.ask_text.specs.Asks.{AsksForNothing, ask_of, line_of}
use Rattle.ask_text.specs.Inputs.{BeginsNone, body_of, request_text}
use Rattle.ask_text.proofs.AskLaws.{lacks-line, line_short}
use Rattle.ask_text.proofs.Cuts.{cut_once}
use Rattle.ask_lines.specs.Lines.{Lacks}
use Rattle.ask_text.proofs.InputLaws.{text_is}

-- no newline stands within bytes that lack it
pub no_front : (xs ys front rest : List ℕ) → Lacks 10 xs → length front < length xs
    → xs ++ ys ≡ front ++ 10 ∷ rest → ⊥
no_front [] ys front rest lacks low h = omega (arith, low)
no_front (x ∷ xs) ys [] rest lacks low h = let e : x ≡ 10 = cc in lacks.0 e
no_front (x ∷ xs) ys (f ∷ front) rest lacks low h =
    no_front xs ys front rest lacks.1 (omega (arith, low)) (let e : xs ++ ys ≡ front ++ 10 ∷ rest = cc in e)

-- there is no newline among the first bytes
pub no_line : (input line now : List ℕ) → Lacks 10 line → input ≡ line ++ now
    → (271 ≤ length line) ⊎ (now ≡ [])
    → BeginsNone input
no_line input line now lacks is far r rest text h =
    let whole : line ++ now ≡ line_of (ask_of r) ++ 10 ∷ (body_of r ++ rest) = sym is ∙ h ∙ text_is r rest in
    no_front line now (line_of (ask_of r)) (body_of r ++ rest) lacks (short far whole) whole
  where
    short : (271 ≤ length line) ⊎ (now ≡ []) → line ++ now ≡ line_of (ask_of r) ++ 10 ∷ (body_of r ++ rest)
        → length (line_of (ask_of r)) < length line
    short (inl long) w = omega (arith, long, line_short (ask_of r) text)
    short (inr none) w = omega (
      arith,
      ap length w,
      length-append line now,
      ap length none,
      length-append (line_of (ask_of r)) (10 ∷ (body_of r ++ rest)),
    )

-- the line asks for nothing
pub no_ask : (input line now : List ℕ) → Lacks 10 line → input ≡ line ++ 10 ∷ now → AsksForNothing line
    → BeginsNone input
no_ask input line now lacks is none r rest text h =
    let cut = cut_once 10 line (line_of (ask_of r)) now (body_of r ++ rest) lacks (lacks-line (ask_of r) text)
    (sym is ∙ h ∙ text_is r rest) in
    none (ask_of r) (cut.0, text)

-- something stands in front
pub not_empty : (input line now : List ℕ) → input ≡ line ++ 10 ∷ now → input ≡ [] → ⊥
not_empty input line now is none = omega (arith, ap length is, ap length none, length-append line (10 ∷ now))

pub line_not_empty : (input line now : List ℕ) → input ≡ line ++ now → (line ≡ [] → ⊥) → input ≡ [] → ⊥
line_not_empty input [] now is some none = some refl
line_not_empty input (x ∷ line) now is some none = omega (arith, ap length is, ap length none)
