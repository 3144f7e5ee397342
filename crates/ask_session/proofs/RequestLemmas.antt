-- The request that stands in front of an input, by its line and its object.
use Rattle.std.proofs.Common.{◌≡◌, ℕ, ◌≤◌, List, [], ◌∷◌, ◌++◌, length, take, append_assoc, ap, sym, ◌∙◌, subst, refl, Option, Some, None}
use Rattle.std.specs.Prelude.{codes}
use Rattle.size_class.specs.declared.TheConstants.{SIZE_MAX}
use Rattle.map_model.specs.Requests.{Change, Request}
use Rattle.map_model.specs.Requests as request
use Rattle.ask_text.specs.Asks.{IsAsk, ask_of, line_of}
use Rattle.ask_text.specs.Inputs.{BeginsNone, HasText, body_of}
use Rattle.ask_text.specs.declared.ask.Ask.{Ask}
use Rattle.ask_text.specs.declared.ask.Ask.TheVariants as ask
use Rattle.ask_text.proofs.AskLaws.{lacks-line, line_one}
use Rattle.ask_text.proofs.Cuts.{cut_once}
use Rattle.ask_session.specs.Inputs.{BeginsRequest, HasBody, HoldsObject, LacksObject, size_asked}
use Rattle.ask_text.proofs.InputLaws.{text_is}

-- a request without an object is its line
bare : (told : Type 0) (input rest body : List ℕ) (r : Request) → HasText r → HasBody body r → body_of r ≡ []
    → (told → input ≡ line_of (ask_of r) ++ 10 ∷ rest) → BeginsRequest told input rest (ask_of r) body
bare told input rest body r text has none is = record {
  request = r;
  text = text;
  asked = refl;
  object = has;
  whole = λ t. is t
      ∙ ap (λ (xs : List ℕ). line_of (ask_of r) ++ 10 ∷ (xs ++ rest)) (sym none)
      ∙ sym (text_is r rest);
}

pub read_bare : (told : Type 0) (input rest body : List ℕ) (a : Ask) → IsAsk a → size_asked a ≡ None
    → (told → input ≡ line_of a ++ 10 ∷ rest) → BeginsRequest told input rest a body
read_bare told input rest body (ask.Put name size) text none is = absurd (cc)
read_bare told input rest body (ask.Get name) text none is = bare told input rest body
    (request.get name) text tt refl is
read_bare told input rest body (ask.Old name) text none is = bare told input rest body
    (request.old name) text tt refl is
read_bare told input rest body (ask.Del name) text none is =
    bare told input rest body (request.change (record { name = name; object = None })) text tt refl is
read_bare told input rest body ask.Keep text none is = bare told input rest body request.keep text tt refl is
read_bare told input rest body ask.Back text none is = bare told input rest body request.back text tt refl is
read_bare told input rest body ask.List text none is = bare told input rest body request.list text tt refl is
read_bare told input rest body ask.Stat text none is = bare told input rest body request.stat text tt refl is

put_request : List ℕ → List ℕ → Request
put_request name object = request.change (record { name = name; object = Some object })

-- a request with an object
read_put : (told : Type 0) (input mid rest body name : List ℕ) (size : ℕ) → IsAsk (ask.Put name size)
    → (told → input ≡ line_of (ask.Put name size) ++ 10 ∷ mid) → HoldsObject told mid (10 ∷ rest) size body
    → BeginsRequest told input rest (ask.Put name size) body
unfolding put_request
read_put told input mid rest body name size text is h =
    let same : ask_of (put_request name h.object) ≡ ask.Put name size = ap (ask.Put name) h.long in
    record {
      request = put_request name h.object;
      text = subst IsAsk (sym same) text;
      asked = same;
      object = λ small. ap (λ (n : ℕ). take n body) h.long
          ∙ h.held (subst (λ (n : ℕ). n ≤ SIZE_MAX) h.long small);
      whole = λ t. is t
          ∙ ap (λ (xs : List ℕ). line_of (ask.Put name size) ++ 10 ∷ xs)
          (h.whole t ∙ sym (append_assoc h.object (codes "\n") rest))
          ∙ ap (λ (a : Ask). line_of a ++ 10 ∷ (body_of (put_request name h.object) ++ rest)) (sym same)
          ∙ sym (text_is (put_request name h.object) rest);
    }

pub read_sized : (told : Type 0) (input mid rest body : List ℕ) (a : Ask) (size : ℕ) → IsAsk a
    → Some size ≡ size_asked a
    → (told → input ≡ line_of a ++ 10 ∷ mid) → HoldsObject told mid (10 ∷ rest) size body
    → BeginsRequest told input rest a body
read_sized told input mid rest body (ask.Put name n) size text some is h =
    let same : size ≡ n = (cc) in
    read_put told input mid rest body name n text is
    (subst (λ (m : ℕ). HoldsObject told mid (10 ∷ rest) m body) same h)
read_sized told input mid rest body (ask.Get name) size text some is h = absurd (cc)
read_sized told input mid rest body (ask.Old name) size text some is h = absurd (cc)
read_sized told input mid rest body (ask.Del name) size text some is h = absurd (cc)
read_sized told input mid rest body ask.Keep size text some is h = absurd (cc)
read_sized told input mid rest body ask.Back size text some is h = absurd (cc)
read_sized told input mid rest body ask.List size text some is h = absurd (cc)
read_sized told input mid rest body ask.Stat size text some is h = absurd (cc)

-- a request whose object is missing
no_body : (r : Request) (size : ℕ) (mid rest : List ℕ) → LacksObject size mid
    → Some size ≡ size_asked (ask_of r)
    → mid ≡ body_of r ++ rest → ⊥
no_body (request.change c) size mid rest lacks some is = of c.object refl
  where
    of : (o : Option (List ℕ)) → c.object ≡ o → ⊥
    of None e = let n : Some size ≡ None = some
        ∙ ap (λ (x : Option (List ℕ)). size_asked (ask_of (request.change
        (record { name = c.name; object = x })))) e in absurd (cc)
    of (Some object) e =
        let n : Some size ≡ Some (length object) = some
        ∙ ap (λ (x : Option (List ℕ)). size_asked (ask_of (request.change
        (record { name = c.name; object = x })))) e in
        let m : length object ≡ size = (cc) in
        lacks object rest m (is
        ∙ ap (λ (x : Option (List ℕ)). body_of (request.change (record { name = c.name; object = x }))
        ++ rest) e
        ∙ append_assoc object (codes "\n") rest)
no_body (request.get name) size mid rest lacks some is = absurd (cc)
no_body (request.old name) size mid rest lacks some is = absurd (cc)
no_body request.keep size mid rest lacks some is = absurd (cc)
no_body request.back size mid rest lacks some is = absurd (cc)
no_body request.list size mid rest lacks some is = absurd (cc)
no_body request.stat size mid rest lacks some is = absurd (cc)

pub no_object : (input mid : List ℕ) (a : Ask) (size : ℕ) → IsAsk a → Some size ≡ size_asked a
    → input ≡ line_of a ++ 10 ∷ mid → LacksObject size mid → BeginsNone input
no_object input mid a size text some is lacks r rest r_text h =
    let cut = cut_once 10 (line_of a) (line_of (ask_of r)) mid (body_of r ++ rest) (lacks-line a text)
    (lacks-line (ask_of r) r_text) (sym is ∙ h ∙ text_is r rest) in
    let same : a ≡ ask_of r = line_one a (ask_of r) text r_text cut.0 in
    no_body r size mid rest lacks (some ∙ ap size_asked same) cut.1
