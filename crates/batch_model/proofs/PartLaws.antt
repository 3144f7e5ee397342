-- The change that stands at the front of a text, by its line and its object.
use Rattle.std.proofs.Common.{◌≡◌, ℕ, ◌+◌, ◌-◌, ◌≤◌, List, ◌∷◌, ◌++◌, length, length-drop, take, drop, get_or, append_assoc, refl, sym, ap, subst, ◌∙◌, arith, Option, Some, None}
use Rattle.std.proofs.lemmas.Bool.{eqb-true}
use Rattle.std.proofs.lemmas.List.{drop_more, take-append-drop, take_all, take_at}
use Rattle.std.proofs.lemmas.List.Quantifiers.{position-Some}
use Rattle.std.specs.List.{position}
use Rattle.std.specs.Prelude.{IfSome, codes, nat_eq}
use Rattle.size_class.specs.declared.TheConstants.{SIZE_MAX}
use Rattle.slot_codec.specs.Names.{IsName}
use Rattle.map_model.specs.Requests as request
use Rattle.map_model.specs.Requests.{Change, Request}
use Rattle.ask_text.specs.Asks.{AsksFor, AsksForNothing, IsAsk, ask_of, change_ask, line_of}
use Rattle.ask_text.specs.Inputs.{BeginsNone, HasText, body_of, change_body, request_text}
use Rattle.ask_text.specs.declared.ask.Ask.{Ask}
use Rattle.ask_text.specs.declared.ask.Ask.TheVariants as ask
use Rattle.ask_text.proofs.AskLaws.{lacks-line, line_one}
use Rattle.ask_text.proofs.Cuts.{Lacks, cut_once, position-cut}
use Rattle.batch_model.specs.Parts.{CanStand, IsNoPart}
use Rattle.ask_text.proofs.InputLaws.{named_word, text_is}

pub no_newline : (text : List ℕ) → position (nat_eq 10) text ≡ None → BeginsNone text
no_newline text none r rest has is =
    let found = ap (position (nat_eq 10)) (is ∙ text_is r rest)
    ∙ position-cut 10 (line_of (ask_of r)) (body_of r ++ rest) (lacks-line (ask_of r) has) in
    absurd (let bad : None ≡ Some (length (line_of (ask_of r))) = sym none ∙ found in cc)

-- the text is its first line, the newline, and what stands behind it
pub joined : (text : List ℕ) (end : ℕ) → position (nat_eq 10) text ≡ Some end
    → text ≡ take end text ++ 10 ∷ drop (end + 1) text
joined text end found =
    let here = position-Some (nat_eq 10) text end 0 found in
    let newline : 10 ≡ get_or text end 0 = eqb-true 10 (get_or text end 0) here.1 in
    let cut : drop end text ≡ 10 ∷ drop (end + 1) text =
    drop_more text end 0 here.0 ∙ ap (λ b. b ∷ drop (end + 1) text) (sym newline) in
    sym (take-append-drop end text) ∙ ap (λ xs. take end text ++ xs) cut

pub line_stands : (text : List ℕ) (end : ℕ) (a : Ask) → position (nat_eq 10) text ≡ Some end
    → AsksFor (take end text) a
    → text ≡ line_of a ++ 10 ∷ take (length text - (end + 1)) (drop (end + 1) text)
line_stands text end a found asks = joined text end found
    ∙ ap (λ (l : List ℕ). l ++ 10 ∷ drop (end + 1) text) asks.0
    ∙ ap (λ (xs : List ℕ). line_of a ++ 10 ∷ xs) (sym (take_all (length text - (end + 1))
    (drop (end + 1) text) (omega (arith, length-drop (end + 1) text))))

-- the first line of a text that is a line
line_cut : (text line behind : List ℕ) (end : ℕ) → position (nat_eq 10) text ≡ Some end → Lacks 10 line
    → text ≡ line ++ 10 ∷ behind → take end text ≡ line
line_cut text line behind end found lacks is =
    let place = ap (position (nat_eq 10)) is ∙ position-cut 10 line behind lacks in
    let here : length line ≡ end = cc in
    ap (take end) is ∙ take_at line (10 ∷ behind) end here

pub no_ask : (text : List ℕ) (end : ℕ) → position (nat_eq 10) text ≡ Some end
    → AsksForNothing (take end text) → BeginsNone text
no_ask text end found none r rest has is = none (ask_of r) (
  line_cut text (line_of (ask_of r)) (body_of r ++ rest) end found (lacks-line (ask_of r) has)
      (is ∙ text_is r rest),
  has,
)

-- ---- changes

pub can_text : (c : Change) → CanStand c → HasText (request.change c)
can_text c can = by c.object can.small
  where
    by : (object : Option (List ℕ)) → IfSome object (λ o. length o ≤ SIZE_MAX)
        → IsAsk (change_ask c.name object)
    by None small = named_word c.name can.named
    by (Some object) small = (named_word c.name can.named, omega arith)

pub none_begins : (text : List ℕ) → BeginsNone text → IsNoPart text
none_begins text begins c rest can is = begins (request.change c) rest (can_text c can) is

-- what stands in front asks for what the line does
asks_as : (text mid : List ℕ) (a : Ask) → IsAsk a → text ≡ line_of a ++ 10 ∷ mid → (c : Change)
    → (rest : List ℕ) → CanStand c → text ≡ request_text (request.change c) ++ rest
    → (change_ask c.name c.object ≡ a) × (mid ≡ change_body c.object ++ rest)
asks_as text mid a has is c rest can same =
    let cut = cut_once 10 (line_of a) (line_of (change_ask c.name c.object)) mid
    (change_body c.object ++ rest) (lacks-line a has) (lacks-line (change_ask c.name c.object)
    (can_text c can))
    (sym is ∙ same ∙ text_is (request.change c) rest) in
    (sym (line_one a (change_ask c.name c.object) has (can_text c can) cut.0), cut.1)

del_name : (n : List ℕ) (o : Option (List ℕ)) (name : List ℕ) → change_ask n o ≡ ask.Del name → n ≡ name
del_name n None name is = cc
del_name n (Some object) name is = absurd (cc)

put_name : (n : List ℕ) (o : Option (List ℕ)) (name : List ℕ) (size : ℕ)
    → change_ask n o ≡ ask.Put name size
    → (n ≡ name) × ((object : List ℕ) × (o ≡ Some object) × (length object ≡ size))
put_name n None name size is = absurd (cc)
put_name n (Some object) name size is =
    let same : n ≡ name = cc in
    let long : length object ≡ size = cc in
    (same, (object, refl, long))

pub no_del : (text mid name : List ℕ) → IsAsk (ask.Del name) → text ≡ line_of (ask.Del name) ++ 10 ∷ mid
    → (IsName name → ⊥) → IsNoPart text
no_del text mid name has is none c rest can same =
    let asks = asks_as text mid (ask.Del name) has is c rest can same in
    none (subst IsName (del_name c.name c.object name asks.0) can.named)

pub no_put : (text mid name : List ℕ) (size : ℕ) → IsAsk (ask.Put name size)
    → text ≡ line_of (ask.Put name size) ++ 10 ∷ mid → (IsName name → ⊥) → IsNoPart text
no_put text mid name size has is none c rest can same =
    let asks = asks_as text mid (ask.Put name size) has is c rest can same in
    none (subst IsName (put_name c.name c.object name size asks.0).0 can.named)

pub no_object : (text mid name : List ℕ) (size : ℕ) → IsAsk (ask.Put name size)
    → text ≡ line_of (ask.Put name size) ++ 10 ∷ mid
    → ((object rest : List ℕ) → length object ≡ size → size ≤ SIZE_MAX → mid ≡ object ++ 10 ∷ rest → ⊥)
    → IsNoPart text
no_object text mid name size has is none c rest can same =
    let asks = asks_as text mid (ask.Put name size) has is c rest can same in
    let put = put_name c.name c.object name size asks.0 in
    let object = put.1.0 in
    let here : c.object ≡ Some object = put.1.1 in
    let long : length object ≡ size = put.1.2 in
    let small : length object ≤ SIZE_MAX =
    subst (λ (o : Option (List ℕ)). IfSome o (λ x. length x ≤ SIZE_MAX)) here can.small in
    none object rest long (omega (arith, long, small))
    (asks.1 ∙ ap (λ (o : Option (List ℕ)). change_body o ++ rest) here
    ∙ append_assoc object (codes "\n") rest)
