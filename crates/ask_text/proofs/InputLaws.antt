-- An input is the texts of one list of requests, and then of what begins with none.
use Rattle.std.proofs.Common.{◌≡◌, ℕ, List, ◌∷◌, [], ◌++◌, length, append_assoc, refl, sym, ap, ◌∙◌, arith, Option, Some, None, length-append}
use Rattle.std.proofs.lemmas.List.{append_cancel_left}
use Rattle.std.specs.List.{AllByRecursion, flat_map, list_all}
use Rattle.std.specs.Prelude.{codes, nat_le, nat_lt, ◌&&◌, ◌≤◌}
use Rattle.map_model.specs.Requests.{Change, Request}
use Rattle.map_model.specs.Requests as request
use Rattle.ask_text.proofs.AskLaws.{lacks-line, line_one}
use Rattle.ask_text.proofs.Cuts.{cut_once}
use Rattle.ask_text.specs.Asks.{ask_of, change_ask, line_of}
use Rattle.ask_text.specs.Inputs.{Asks, BeginsNone, HasText, body_of, change_body, request_text}
use Rattle.ask_text.specs.declared.ask.Ask.{Ask}
use Rattle.ask_text.specs.declared.ask.Ask.TheVariants as ask
use Rattle.slot_codec.specs.Names.{IsName, is_name_byte}
use Rattle.ask_text.specs.Words.{IsWord}
use Rattle.std.proofs.lemmas.Bool.{and_from, and_parts, le-leb, leb-true}

-- a text is a line, a newline, and a body
pub text_is : (r : Request) (rest : List ℕ)
    → request_text r ++ rest ≡ line_of (ask_of r) ++ 10 ∷ (body_of r ++ rest)
text_is r rest =
    append_assoc (line_of (ask_of r) ++ codes "\n") (body_of r) rest
    ∙ append_assoc (line_of (ask_of r)) (codes "\n") (body_of r ++ rest)

-- two objects of one size in front of two lists that are one
object_one : (o p x y : List ℕ) → length o ≡ length p → o ++ x ≡ p ++ y → (o ≡ p) × (x ≡ y)
object_one [] [] x y same h = (refl, h)
object_one [] (b ∷ p) x y same h = absurd (omega (arith, same))
object_one (a ∷ o) [] x y same h = absurd (omega (arith, same))
object_one (a ∷ o) (b ∷ p) x y same h =
    let e : a ≡ b = cc in
    let f : o ++ x ≡ p ++ y = cc in
    let r = object_one o p x y (omega (arith, same)) f in
    let objects : o ≡ p = r.0 in
    (cc, r.1)

-- a put or a del is one
change_one : (n m : List ℕ) (o p : Option (List ℕ)) (x y : List ℕ) → change_ask n o ≡ change_ask m p
    → change_body o ++ x ≡ change_body p ++ y → (n ≡ m) × ((o ≡ p) × (x ≡ y))
change_one n m None None x y a b = (cc, (refl, b))
change_one n m (Some o) (Some p) x y a b =
    let size : length o ≡ length p = cc in
    let r = object_one o p (codes "\n" ++ x) (codes "\n" ++ y) size
    (sym (append_assoc o (codes "\n") x) ∙ b ∙ append_assoc p (codes "\n") y)
    in
    (cc, (ap Some r.0, append_cancel_left (codes "\n") x y r.1))
change_one n m None (Some p) x y a b = absurd cc
change_one n m (Some o) None x y a b = absurd cc

-- a number for each kind of request: a put and a del are of one kind
abbrev kind : Ask → ℕ
kind (ask.Put n k) = 0
kind (ask.Del n) = 0
kind (ask.Get n) = 1
kind (ask.Old n) = 2
kind ask.Keep = 3
kind ask.Back = 4
kind ask.List = 5
kind ask.Stat = 6

abbrev kind_number : Request → ℕ
kind_number (request.change c) = 0
kind_number (request.get n) = 1
kind_number (request.old n) = 2
kind_number request.keep = 3
kind_number request.back = 4
kind_number request.list = 5
kind_number request.stat = 6

change_kind : (n : List ℕ) (o : Option (List ℕ)) → kind (change_ask n o) ≡ 0
change_kind n None = refl
change_kind n (Some o) = refl

kind_of : (r : Request) → kind (ask_of r) ≡ kind_number r
kind_of (request.change c) = change_kind c.name c.object
kind_of (request.get n) = refl
kind_of (request.old n) = refl
kind_of request.keep = refl
kind_of request.back = refl
kind_of request.list = refl
kind_of request.stat = refl

body_one : (r s : Request) (x y : List ℕ) → ask_of r ≡ ask_of s
    → body_of r ++ x ≡ body_of s ++ y → (r ≡ s) × (x ≡ y)
body_one (request.change c) (request.change d) x y a b =
    let p = change_one c.name d.name c.object d.object x y a b in
    let name : c.name ≡ d.name = p.0 in
    let object : c.object ≡ d.object = p.1.0 in
    let same : c ≡ d = λ i. record { name = name i; object = object i } in
    (ap request.change same, p.1.1)
body_one (request.get n) (request.get m) x y a b = let e : n ≡ m = cc in (ap request.get e, b)
body_one (request.old n) (request.old m) x y a b = let e : n ≡ m = cc in (ap request.old e, b)
body_one request.keep request.keep x y a b = (refl, b)
body_one request.back request.back x y a b = (refl, b)
body_one request.list request.list x y a b = (refl, b)
body_one request.stat request.stat x y a b = (refl, b)
body_one r s x y a b = absurd (omega (arith, sym (kind_of r) ∙ ap kind a ∙ kind_of s))

-- two texts of requests in front of one list are one
pub text_one : (r s : Request) (x y : List ℕ) → HasText r → HasText s
    → request_text r ++ x ≡ request_text s ++ y → (r ≡ s) × (x ≡ y)
text_one r s x y a b h =
    let cut = cut_once 10 (line_of (ask_of r)) (line_of (ask_of s)) (body_of r ++ x) (body_of s ++ y)
    (lacks-line (ask_of r) a) (lacks-line (ask_of s) b) (sym (text_is r x) ∙ h ∙ text_is s y)
    in
    body_one r s x y (line_one (ask_of r) (ask_of s) a b cut.0) cut.1

-- the texts of a list begin with that of its first
texts_is : (r : Request) (rs : List Request) (e : List ℕ)
    → flat_map request_text (r ∷ rs) ++ e ≡ request_text r ++ (flat_map request_text rs ++ e)
texts_is r rs e = append_assoc (request_text r) (flat_map request_text rs) e

many_one : (rs ss : List Request) (e f : List ℕ) → AllByRecursion HasText rs
    → AllByRecursion HasText ss → BeginsNone e → BeginsNone f
    → flat_map request_text rs ++ e ≡ flat_map request_text ss ++ f → (rs ≡ ss) × (e ≡ f)
many_one [] [] e f a b n m h = (refl, h)
many_one [] (s ∷ ss) e f a b n m h =
    absurd (n s (flat_map request_text ss ++ f) b.0 (h ∙ texts_is s ss f))
many_one (r ∷ rs) [] e f a b n m h =
    absurd (m r (flat_map request_text rs ++ e) a.0 (sym h ∙ texts_is r rs e))
many_one (r ∷ rs) (s ∷ ss) e f a b n m h =
    let one = text_one r s (flat_map request_text rs ++ e) (flat_map request_text ss ++ f) a.0 b.0
    (sym (texts_is r rs e) ∙ h ∙ texts_is s ss f)
    in
    let rest = many_one rs ss e f a.1 b.1 n m one.1 in
    let same : r ≡ s = one.0 in
    let others : rs ≡ ss = rest.0 in
    (cc, rest.1)

pub input_one : (input : List ℕ) (rs ss : List Request) (e f : List ℕ) → Asks input rs e → Asks input ss f
    → (rs ≡ ss) × (e ≡ f)
input_one input rs ss e f a b = many_one rs ss e f a.each b.each a.ended b.ended (sym a.whole ∙ b.whole)

-- a name is a word
pub named_word : (name : List ℕ) → IsName name → IsWord name
named_word name h =
    let parts = and_parts (nat_lt 0 (length name) && nat_le (length name) 63)
    (list_all is_name_byte name) h in
    let sizes = and_parts (nat_lt 0 (length name)) (nat_le (length name) 63) parts.0 in
    and_from (nat_lt 0 (length name) && nat_le (length name) 255) (list_all is_name_byte name)
    (and_from (nat_lt 0 (length name)) (nat_le (length name) 255) sizes.0
    (le-leb (length name) 255 (omega (arith, leb-true (length name) 63 sizes.1)))) parts.1

-- no text is empty
pub text_some : (r : Request) → 1 ≤ length (request_text r)
text_some r = omega (
  arith,
  length-append (line_of (ask_of r) ++ codes "\n") (body_of r),
  length-append (line_of (ask_of r)) (codes "\n"),
)
