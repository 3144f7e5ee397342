-- An input is the texts of one list of events, and then of what begins with none.
use Rattle.std.proofs.Common.{◌≡◌, ℕ, ◌+◌, ◌<◌, List, ◌∷◌, [], ◌++◌, append_assoc, get_or, refl, sym, ap, ◌∙◌, arith}
use Rattle.std.proofs.lemmas.Fmt.{decimal_digit}
use Rattle.std.specs.List.{AllByRecursion, flat_map}
use Rattle.std.specs.Prelude.{codes}
use Rattle.map_model.specs.Requests.{Request}
use Rattle.ask_text.specs.Inputs.{HasText, request_text}
use Rattle.ask_text.proofs.InputLaws.{text_one}
use Rattle.desk_model.specs.Events as event
use Rattle.desk_model.specs.Events.{BeginsNoEvent, Event, IsEvent, IsScript, event_text, sessions}

-- the text of an event begins with a word, and a digit where it is of a session
say_is : (s : ℕ) (r : Request) (rest : List ℕ) → s < sessions
    → event_text (event.say s r) ++ rest ≡ codes "say " ++ (48 + s) ∷ 10 ∷ (request_text r ++ rest)
say_is s r rest few = rw (decimal_digit s (omega arith)) refl

serve_is : (s : ℕ) (rest : List ℕ) → s < sessions
    → event_text (event.serve s) ++ rest ≡ codes "serve " ++ (48 + s) ∷ 10 ∷ rest
serve_is s rest few = rw (decimal_digit s (omega arith)) refl

-- the second byte, or 0
abbrev second : List ℕ → ℕ
second xs = get_or xs 1 0

say_one : (s t : ℕ) (r q : Request) (x y : List ℕ) → HasText r → HasText q
    → codes "say " ++ (48 + s) ∷ 10 ∷ (request_text r ++ x)
    ≡ codes "say " ++ (48 + t) ∷ 10 ∷ (request_text q ++ y)
    → (event.say s r ≡ event.say t q) × (x ≡ y)
say_one s t r q x y a b h =
    let digit : 48 + s ≡ 48 + t = ap (λ xs. get_or xs 4 0) h in
    let session : s ≡ t = omega (arith, digit) in
    let behind : request_text r ++ x ≡ request_text q ++ y = cc in
    let one = text_one r q x y a b behind in
    ((λ i. event.say (session i) (one.0 i)), one.1)

serve_one : (s t : ℕ) (x y : List ℕ)
    → codes "serve " ++ (48 + s) ∷ 10 ∷ x ≡ codes "serve " ++ (48 + t) ∷ 10 ∷ y
    → (event.serve s ≡ event.serve t) × (x ≡ y)
serve_one s t x y h =
    let digit : 48 + s ≡ 48 + t = ap (λ xs. get_or xs 6 0) h in
    let session : s ≡ t = omega (arith, digit) in
    let behind : x ≡ y = cc in
    (ap event.serve session, behind)

-- two texts of events in front of one list are one
pub event_one : (e f : Event) (x y : List ℕ) → IsEvent e → IsEvent f
    → event_text e ++ x ≡ event_text f ++ y → (e ≡ f) × (x ≡ y)
event_one (event.say s r) (event.say t q) x y a b h =
    say_one s t r q x y a.1 b.1 (sym (say_is s r x a.0) ∙ h ∙ say_is t q y b.0)
event_one (event.serve s) (event.serve t) x y a b h =
    serve_one s t x y (sym (serve_is s x a) ∙ h ∙ serve_is t y b)
event_one event.step event.step x y a b h = let behind : x ≡ y = cc in (refl, behind)
event_one _ _ x y a b h = absurd (omega (arith, ap second h))

-- the texts of a list begin with that of its first
texts_is : (e : Event) (es : List Event) (end : List ℕ)
    → flat_map event_text (e ∷ es) ++ end ≡ event_text e ++ (flat_map event_text es ++ end)
texts_is e es end = append_assoc (event_text e) (flat_map event_text es) end

many_one : (es fs : List Event) (x y : List ℕ) → AllByRecursion IsEvent es
    → AllByRecursion IsEvent fs → BeginsNoEvent x → BeginsNoEvent y
    → flat_map event_text es ++ x ≡ flat_map event_text fs ++ y → (es ≡ fs) × (x ≡ y)
many_one [] [] x y a b n m h = (refl, h)
many_one [] (f ∷ fs) x y a b n m h =
    absurd (n f (flat_map event_text fs ++ y) b.0 (h ∙ texts_is f fs y))
many_one (e ∷ es) [] x y a b n m h =
    absurd (m e (flat_map event_text es ++ x) a.0 (sym h ∙ texts_is e es x))
many_one (e ∷ es) (f ∷ fs) x y a b n m h =
    let one = event_one e f (flat_map event_text es ++ x) (flat_map event_text fs ++ y) a.0 b.0
    (sym (texts_is e es x) ∙ h ∙ texts_is f fs y)
    in
    let rest = many_one es fs x y a.1 b.1 n m one.1 in
    ((λ i. one.0 i ∷ rest.0 i), rest.1)

pub script_one : (input : List ℕ) (es fs : List Event) (x y : List ℕ) → IsScript input es x
    → IsScript input fs y → (es ≡ fs) × (x ≡ y)
script_one input es fs x y a b =
    many_one es fs x y a.each b.each a.ended b.ended (sym a.whole ∙ b.whole)
