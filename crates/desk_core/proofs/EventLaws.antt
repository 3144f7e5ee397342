-- What begins with no event: no line is found in front of it, or one that is that of none.
use Rattle.std.proofs.Common.{◌≡◌, ◌⊎◌, inl, inr, ℕ, ◌+◌, ◌≤◌, ◌<◌, List, [], ◌∷◌, ◌++◌, length, length-append, append_assoc, refl, ap, sym, ◌∙◌, subst, arith}
use Rattle.std.specs.Prelude.{codes}
use Rattle.std.specs.Fmt.{decimal}
use Rattle.std.proofs.lemmas.Fmt.{decimal_digit}
use Rattle.ask_text.specs.Inputs.{BeginsNone, request_text}
use Rattle.ask_text.proofs.Cuts.{cut_once}
use Rattle.ask_lines.specs.Lines.{Lacks}
use Rattle.ask_lines.proofs.LineLaws.{no_front}
use Rattle.desk_model.specs.Events as event
use Rattle.desk_model.specs.Events.{BeginsNoEvent, Event, IsEvent, event_text, sessions}
use Rattle.desk_core.specs.declared.event.EventLine.{EventLine}
use Rattle.desk_core.specs.declared.event.EventLine.TheVariants as line
use Rattle.desk_core.specs.Lines.{IsEventLine, words_of}

-- ---- the text of an event begins with its line

abbrev pub line_in : Event → EventLine
line_in (event.say s r) = line.Say s
line_in (event.serve s) = line.Serve s
line_in event.step = line.Step

-- what stands behind it
abbrev pub behind : Event → List ℕ
behind (event.say s r) = request_text r
behind (event.serve s) = []
behind event.step = []

pub text_begins : (e : Event) (rest : List ℕ) → event_text e ++ rest
    ≡ words_of (line_in e) ++ 10 ∷ (behind e ++ rest)
text_begins (event.say s r) rest =
    append_assoc (event.line_for (codes "say") s) (request_text r) rest
    ∙ append_assoc (codes "say " ++ decimal s) (codes "\n") (request_text r ++ rest)
text_begins (event.serve s) rest = append_assoc (codes "serve " ++ decimal s) (codes "\n") rest
text_begins event.step rest = refl

pub line_is_one : (e : Event) → IsEvent e → IsEventLine (line_in e)
line_is_one (event.say s r) is = is.0
line_is_one (event.serve s) is = is
line_is_one event.step is = tt

-- ---- their bytes

abbrev lacks_newline : List ℕ → Type 0
lacks_newline xs = Lacks 10 xs

digit_lacks : (s : ℕ) → s < 8 → Lacks 10 (decimal s)
digit_lacks s low = subst lacks_newline (sym (decimal_digit s (omega (arith, low))))
    ((λ e. omega (arith, e)), tt)

pub lacks_words : (e : EventLine) → IsEventLine e → Lacks 10 (words_of e)
lacks_words (line.Say s) low =
    ((λ e. absurd (cc)), ((λ e. absurd (cc)), ((λ e. absurd (cc)), ((λ e. absurd (cc)), digit_lacks s low))))
lacks_words (line.Serve s) low = (
  (λ e. absurd (cc)),
  (
    (λ e. absurd (cc)),
    (
      (λ e. absurd (cc)),
      (
        (λ e. absurd (cc)),
        (
          (λ e. absurd (cc)),
          ((λ e. absurd (cc)), digit_lacks s low),
        ),
      ),
    ),
  ),
)
lacks_words line.Step low =
    ((λ e. absurd (cc)), ((λ e. absurd (cc)), ((λ e. absurd (cc)), ((λ e. absurd (cc)), tt))))

words_short : (e : EventLine) → IsEventLine e → length (words_of e) < 9
words_short (line.Say s) low = omega (arith, ap length (decimal_digit s (omega (arith, low))))
words_short (line.Serve s) low = omega (arith, ap length (decimal_digit s (omega (arith, low))))
words_short line.Step low = omega arith

-- ---- what begins with none

-- there is no newline among the first bytes
pub no_line : (input line now : List ℕ) → Lacks 10 line → input ≡ line ++ now
    → (9 ≤ length line) ⊎ (now ≡ []) → BeginsNoEvent input
no_line input line now lacks is far e rest one h =
    let words = words_of (line_in e) in
    let whole : line ++ now ≡ words ++ 10 ∷ (behind e ++ rest) = sym is ∙ h ∙ text_begins e rest in
    no_front line now words (behind e ++ rest) lacks (short far whole) whole
  where
    short : (9 ≤ length line) ⊎ (now ≡ []) → line ++ now ≡ words_of (line_in e) ++ 10 ∷ (behind e ++ rest)
        → length (words_of (line_in e)) < length line
    short (inl long) w = omega (arith, long, words_short (line_in e) (line_is_one e one))
    short (inr none) w = omega (
      arith,
      ap length w,
      length-append line now,
      ap length none,
      length-append (words_of (line_in e)) (10 ∷ (behind e ++ rest)),
    )

-- the line is that of no event
pub no_words : (input line now : List ℕ) → Lacks 10 line → input ≡ line ++ 10 ∷ now
    → ((e : EventLine) → IsEventLine e → line ≡ words_of e → ⊥) → BeginsNoEvent input
no_words input line now lacks is none e rest one h =
    let at = line_is_one e one in
    let cut = cut_once 10 line (words_of (line_in e)) now (behind e ++ rest) lacks
    (lacks_words (line_in e) at) (sym is ∙ h ∙ text_begins e rest) in
    none (line_in e) at cut.0

abbrev second : List ℕ → ℕ
second [] = 0
second (x ∷ []) = 0
second (x ∷ y ∷ xs) = y

-- no request stands behind the line
pub no_request : (input mid : List ℕ) (s : ℕ) → s < sessions → input ≡ words_of (line.Say s) ++ 10 ∷ mid
    → BeginsNone mid → BeginsNoEvent input
no_request input mid s low is none e rest one h =
    let cut = cut_once 10 (words_of (line.Say s)) (words_of (line_in e)) mid (behind e ++ rest)
    (lacks_words (line.Say s) low) (lacks_words (line_in e) (line_is_one e one))
    (sym is ∙ h ∙ text_begins e rest) in
    by e one cut.0 cut.1
  where
    by : (f : Event) → IsEvent f → words_of (line.Say s) ≡ words_of (line_in f) → mid ≡ behind f ++ rest → ⊥
    by (event.say t r) text words at = none r rest text.1 at
    by (event.serve t) text words at = absurd (omega (arith, ap second words))
    by event.step text words at = absurd (omega (arith, ap second words))

-- ---- lines that are put

pub line_added : (xs word : List ℕ) (s n : ℕ) → s < sessions → n ≡ 48 + s
    → (xs ++ word) ++ (32 ∷ n ∷ 10 ∷ []) ≡ xs ++ event.line_for word s
line_added xs word s n low is =
    append_assoc xs word (32 ∷ n ∷ 10 ∷ [])
    ∙ ap (λ (ys : List ℕ). xs ++ ys) (ap (λ (m : ℕ). word ++ (32 ∷ m ∷ 10 ∷ [])) is
    ∙ ap (λ (ds : List ℕ). word ++ (32 ∷ (ds ++ 10 ∷ []))) (sym (decimal_digit s (omega (arith, low))))
    ∙ sym (append_assoc word (codes " ") (decimal s ++ codes "\n"))
    ∙ sym (append_assoc (word ++ codes " ") (decimal s) (codes "\n")))
