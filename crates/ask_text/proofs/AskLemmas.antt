-- Lines that ask for a put, or don't.
use Rattle.std.proofs.Common.{◌≡◌, ℕ, ◌+◌, ◌<◌, List, ◌∷◌, ◌++◌, [], length, length-append, length-drop, append_assoc, ◌-◌, take, drop, get_or, sym, ap, subst, ◌∙◌, arith, Some, None}
use Rattle.std.proofs.lemmas.Bool.{eqb-true}
use Rattle.std.proofs.lemmas.Grind.{common_steps}
use Rattle.std.proofs.lemmas.List.{append_cancel_left, drop_at, take_at, take_all, take-append-drop, drop_more}
use Rattle.std.proofs.lemmas.List.Quantifiers.{position-Some}
use Rattle.std.specs.Fmt.{decimal}
use Rattle.std.specs.List.{position}
use Rattle.std.specs.Prelude.{codes, nat_eq}
use Rattle.ask_text.proofs.Cuts.{lacks-word, position-cut}
use Rattle.ask_text.specs.Asks.{AsksForNothing, line_of}
use Rattle.ask_text.specs.Words.{IsWord}
use Rattle.ask_text.specs.declared.ask.Ask.TheVariants as ask

-- the first byte, or 0
abbrev first : List ℕ → ℕ
first xs = get_or xs 0 0

-- the words of no put
abbrev pub IsNoPut : List ℕ → Type 0
IsNoPut words = (name : List ℕ) (size : ℕ) → IsWord name → size < 4294967296
    → words ≡ name ++ 32 ∷ decimal size → ⊥

-- the line of a put is `put `, the name, a blank, and the size
pub put_line : (name : List ℕ) (size : ℕ)
    → line_of (ask.Put name size) ≡ codes "put " ++ (name ++ 32 ∷ decimal size)
put_line name size = ap (λ xs. codes "put " ++ xs) (append_assoc name (32 ∷ []) (decimal size))

pub asks_no_put : (words : List ℕ) → IsNoPut words → AsksForNothing (codes "put " ++ words)
asks_no_put words none (ask.Put name size) h =
    none name size h.1.0 h.1.1 (append_cancel_left (codes "put ") words (name ++ 32 ∷ decimal size)
    (h.0 ∙ put_line name size))
asks_no_put words none (ask.Get name) h = absurd (omega (arith, ap first h.0))
asks_no_put words none (ask.Old name) h = absurd (omega (arith, ap first h.0))
asks_no_put words none (ask.Del name) h = absurd (omega (arith, ap first h.0))
asks_no_put words none ask.Keep h = absurd (omega (arith, ap first h.0))
asks_no_put words none ask.Back h = absurd (omega (arith, ap first h.0))
asks_no_put words none ask.List h = absurd (omega (arith, ap first h.0))
asks_no_put words none ask.Stat h = absurd (omega (arith, ap first h.0))

-- the first blank stands behind the name
pub blank_behind : (words name : List ℕ) (size : ℕ) → IsWord name → words ≡ name ++ 32 ∷ decimal size
    → position (nat_eq 32) words ≡ Some (length name)
blank_behind words name size word is =
    ap (position (nat_eq 32)) is ∙ position-cut 32 name (decimal size) (lacks-word 32 (omega arith) name word)

pub no_blank : (words : List ℕ) → position (nat_eq 32) words ≡ None → IsNoPut words
no_blank words none name size word fits is = let found = blank_behind words name size word is in cc

-- the name stands in front of the first blank, and the size behind it
parts : (words : List ℕ) (at : ℕ) (name : List ℕ) (size : ℕ) → position (nat_eq 32) words ≡ Some at
    → IsWord name → words ≡ name ++ 32 ∷ decimal size
    → (take at words ≡ name) × (drop (at + 1) words ≡ decimal size)
parts words at name size found word is =
    let end = blank_behind words name size word is in
    let here : length name ≡ at = cc in
    let whole : words ≡ (name ++ 32 ∷ []) ++ decimal size = grind (arith, common_steps, is) in
    let long : length (name ++ 32 ∷ []) ≡ at + 1 = omega (arith, length-append name (32 ∷ [])) in (
      ap (take at) is ∙ take_at name (32 ∷ decimal size) at here,
      ap (drop (at + 1)) whole ∙ drop_at (name ++ 32 ∷ []) (decimal size) (at + 1) long,
    )

pub no_name : (words : List ℕ) (at : ℕ) → position (nat_eq 32) words ≡ Some at → (IsWord (take at words) → ⊥)
    → IsNoPut words
no_name words at found bad name size word fits is =
    bad (subst IsWord (sym (parts words at name size found word is).0) word)

-- the bytes from a place on, as the program cuts them
abbrev pub from_on : ℕ → List ℕ → List ℕ
from_on at words = take (length words - at) (drop at words)

from_on-drop : (at : ℕ) (words : List ℕ) → from_on at words ≡ drop at words
from_on-drop at words = take_all (length words - at) (drop at words) (omega (arith, length-drop at words))

pub no_size : (words : List ℕ) (at : ℕ) → position (nat_eq 32) words ≡ Some at
    → ((n : ℕ) → n < 4294967296 → from_on (at + 1) words ≡ decimal n → ⊥) → IsNoPut words
no_size words at found bad name size word fits is =
    bad size fits (from_on-drop (at + 1) words ∙ (parts words at name size found word is).1)

-- words are their front, the blank, and what stands behind it
joined : (words : List ℕ) (at : ℕ) → position (nat_eq 32) words ≡ Some at
    → words ≡ take at words ++ 32 ∷ drop (at + 1) words
joined words at found =
    let here = position-Some (nat_eq 32) words at 0 found in
    let blank : 32 ≡ get_or words at 0 = eqb-true 32 (get_or words at 0) here.1 in
    let cut : drop at words ≡ 32 ∷ drop (at + 1) words =
    drop_more words at 0 here.0 ∙ ap (λ b. b ∷ drop (at + 1) words) (sym blank)
    in
    sym (take-append-drop at words) ∙ ap (λ xs. take at words ++ xs) cut

-- the line of a put is read
pub is_put : (words : List ℕ) (at : ℕ) (name : List ℕ) (size : ℕ) → position (nat_eq 32) words ≡ Some at
    → name ≡ take at words → from_on (at + 1) words ≡ decimal size
    → codes "put " ++ words ≡ line_of (ask.Put name size)
is_put words at name size found front rest =
    let size_is : drop (at + 1) words ≡ decimal size = sym (from_on-drop (at + 1) words) ∙ rest in
    let whole : words ≡ name ++ 32 ∷ decimal size =
    joined words at found ∙ ap (λ xs. xs ++ 32 ∷ drop (at + 1) words) (sym front)
    ∙ ap (λ xs. name ++ 32 ∷ xs) size_is
    in
    ap (λ xs. codes "put " ++ xs) whole ∙ sym (put_line name size)
