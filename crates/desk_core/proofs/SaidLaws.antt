-- The text of a request, by its line and its object.
use Rattle.std.proofs.Common.{◌≡◌, ℕ, ◌+◌, ◌-◌, ◌≤◌, ◌<◌, List, [], ◌∷◌, ◌++◌, length, length-append, take, drop, append-nil, append_assoc, ap, sym, ◌∙◌, subst, arith, Option, Some, None}
use Rattle.std.specs.Prelude.{codes, replicate, IfSome, OnOk, Result, Ok, Err}
use Rattle.std.proofs.Math.Seq.{take-add}
use Rattle.std.proofs.lemmas.List.{take-append-drop, take_all}
use Rattle.byte_ranges.specs.Ranges.{resized}
use Rattle.byte_ranges.proofs.RangeLaws.{length-resized}
use Rattle.ask_text.specs.declared.ends.End.{End}
use Rattle.size_class.specs.declared.TheConstants.{SIZE_MAX}
use Rattle.map_model.specs.Requests.{Change, Request}
use Rattle.map_model.specs.Requests as request
use Rattle.ask_text.specs.Asks.{IsAsk, ask_of, change_ask, line_of}
use Rattle.ask_text.specs.Inputs.{change_body, request_text}
use Rattle.ask_text.specs.declared.ask.Ask.{Ask}
use Rattle.ask_session.specs.Inputs.{BeginsRequest, HasBody, HoldsObject, size_asked}
use Rattle.ask_session.proofs.RequestLemmas.{read_bare, read_sized}
use Rattle.desk_core.specs.Hearing.{DropsObject, Hears}

-- ---- texts of changes

bare_change : (name : List ℕ) (o : Option (List ℕ)) → size_asked (change_ask name o) ≡ None
    → line_of (change_ask name o) ++ codes "\n" ++ change_body o ≡ line_of (change_ask name o) ++ 10 ∷ []
bare_change name None none = append-nil (line_of (change_ask name None) ++ codes "\n")
bare_change name (Some object) none = absurd (cc)

sized_change : (name : List ℕ) (o : Option (List ℕ)) (size : ℕ) (body : List ℕ)
    → Some size ≡ size_asked (change_ask name o)
    → HasBody body (request.change (record { name = name; object = o })) → size ≤ SIZE_MAX
    → line_of (change_ask name o) ++ codes "\n" ++ change_body o
    ≡ (line_of (change_ask name o) ++ 10 ∷ []) ++ (take size body ++ 10 ∷ [])
sized_change name None size body some has small = absurd (cc)
sized_change name (Some object) size body some has small =
    let same : size ≡ length object = (cc) in
    let held : take (length object) body ≡ object = has (subst (λ (n : ℕ). n ≤ SIZE_MAX) same small) in
    let line = line_of (change_ask name (Some object)) in
    ap (λ (xs : List ℕ). (line ++ 10 ∷ []) ++ (xs ++ 10 ∷ []))
    (sym held ∙ ap (λ (n : ℕ). take n body) (sym same))

long_change : (name : List ℕ) (o : Option (List ℕ)) (size : ℕ)
    → Some size ≡ size_asked (change_ask name o)
    → length (line_of (change_ask name o) ++ codes "\n" ++ change_body o)
    ≡ length (line_of (change_ask name o)) + 1 + (size + 1)
long_change name None size some = absurd (cc)
long_change name (Some object) size some =
    let same : size ≡ length object = (cc) in
    omega (
      arith,
      same,
      length-append (line_of (change_ask name (Some object)) ++ 10 ∷ []) (object ++ 10 ∷ []),
      length-append (line_of (change_ask name (Some object))) (10 ∷ []),
      length-append object (10 ∷ []),
    )

-- ---- texts of requests

bare_text : (r : Request) → size_asked (ask_of r) ≡ None → request_text r ≡ line_of (ask_of r) ++ 10 ∷ []
bare_text (request.change c) none = bare_change c.name c.object none
bare_text (request.get name) none = append-nil (line_of (ask_of (request.get name)) ++ codes "\n")
bare_text (request.old name) none = append-nil (line_of (ask_of (request.old name)) ++ codes "\n")
bare_text request.keep none = append-nil (line_of (ask_of request.keep) ++ codes "\n")
bare_text request.back none = append-nil (line_of (ask_of request.back) ++ codes "\n")
bare_text request.list none = append-nil (line_of (ask_of request.list) ++ codes "\n")
bare_text request.stat none = append-nil (line_of (ask_of request.stat) ++ codes "\n")

sized_text : (r : Request) (size : ℕ) (body : List ℕ) → Some size ≡ size_asked (ask_of r) → HasBody body r
    → size ≤ SIZE_MAX
    → request_text r ≡ (line_of (ask_of r) ++ 10 ∷ []) ++ (take size body ++ 10 ∷ [])
sized_text (request.change c) size body some has small = sized_change c.name c.object size body some has small
sized_text (request.get name) size body some has small = absurd (cc)
sized_text (request.old name) size body some has small = absurd (cc)
sized_text request.keep size body some has small = absurd (cc)
sized_text request.back size body some has small = absurd (cc)
sized_text request.list size body some has small = absurd (cc)
sized_text request.stat size body some has small = absurd (cc)

pub long_text : (r : Request) (size : ℕ) → Some size ≡ size_asked (ask_of r)
    → length (request_text r) ≡ length (line_of (ask_of r)) + 1 + (size + 1)
long_text (request.change c) size some = long_change c.name c.object size some
long_text (request.get name) size some = absurd (cc)
long_text (request.old name) size some = absurd (cc)
long_text request.keep size some = absurd (cc)
long_text request.back size some = absurd (cc)
long_text request.list size some = absurd (cc)
long_text request.stat size some = absurd (cc)

-- ---- what was heard

if_some_with : {A : Type 0} {P Q : A → Type 0} (o : Option A) → ((x : A) → P x → Q x) → IfSome o P → IfSome
    o Q
if_some_with None f p = tt
if_some_with (Some x) f p = f x p

module _ (told : Type 0) (input rest : List ℕ) (room : ℕ) (text : List ℕ) (a : Ask) (is : IsAsk a) where
  -- a request that is its line
  pub hears_bare : (kept : Option ℕ) → size_asked a ≡ None → (told → input ≡ line_of a ++ 10 ∷ rest)
      → IfSome kept (λ n. (n ≡ length (line_of a) + 1) × (n ≤ room) × (take n text ≡ line_of a ++ 10 ∷ []))
      → (kept ≡ None → room < length (line_of a) + 1) → Hears told input rest room text kept
  hears_bare kept none whole some longer =
      let r : BeginsRequest told input rest a [] = read_bare told input rest [] a is none whole in
      let same : request_text r.request ≡ line_of a ++ 10 ∷ [] =
      bare_text r.request (ap size_asked r.asked ∙ none)
      ∙ ap (λ (b : Ask). line_of b ++ 10 ∷ []) r.asked in
      record {
        request = r.request;
        has_text = r.text;
        whole = r.whole;
        within = if_some_with kept (λ n h. h.1) some;
        held = if_some_with kept (λ n h. h.2 ∙ sym same) some;
        longer = λ is. omega (arith, longer is, ap length same, length-append (line_of a) (10 ∷ []));
      }

  -- a request with an object that has room
  pub hears_kept : (mid body : List ℕ) (size n : ℕ) → Some size ≡ size_asked a
      → (told → input ≡ line_of a ++ 10 ∷ mid) → HoldsObject told mid (10 ∷ rest) size body
      → size ≤ SIZE_MAX → n ≤ room
      → take n text ≡ (line_of a ++ 10 ∷ []) ++ (take size body ++ 10 ∷ [])
      → Hears told input rest room text (Some n)
  hears_kept mid body size n some whole h small within held =
      let r : BeginsRequest told input rest a body = read_sized told input mid rest body a size is some
      whole h
      in record {
        request = r.request;
        has_text = r.text;
        whole = r.whole;
        within = within;
        held = held ∙ ap (λ (b : Ask). (line_of b ++ 10 ∷ []) ++ (take size body ++ 10 ∷ [])) (sym r.asked)
            ∙ sym (sized_text r.request size body (some ∙ ap size_asked (sym r.asked)) r.object small);
        longer = λ is. absurd (cc);
      }

  -- a request with an object that has none
  pub hears_dropped : (mid : List ℕ) (size : ℕ) → Some size ≡ size_asked a
      → (told → input ≡ line_of a ++ 10 ∷ mid) → DropsObject told mid (10 ∷ rest) size
      → room < length (line_of a) + 1 + (size + 1) → Hears told input rest room text None
  hears_dropped mid size some whole d long =
      let h : HoldsObject told mid (10 ∷ rest) size d.object = record {
        object = d.object;
        long = d.long;
        held = λ small. take_all size d.object (omega (arith, d.long));
        whole = d.whole;
      } in
      let r : BeginsRequest told input rest a d.object =
      read_sized told input mid rest d.object a size is some whole h in
      record {
        request = r.request;
        has_text = r.text;
        whole = r.whole;
        within = tt;
        held = tt;
        longer = λ is. omega (
          arith,
          long,
          long_text r.request size (some ∙ ap size_asked (sym r.asked)),
          ap (λ (b : Ask). length (line_of b)) r.asked,
        );
      }

-- an object that was dropped, and the newline behind it
pub drops : (told : Type 0) (input mid rest : List ℕ) (size : ℕ) (result : Result (Unit {0}) End)
    → (told → (size ≤ length input) × (mid ≡ drop size input))
    → (told → OnOk result (mid ≡ 10 ∷ rest)) → OnOk result (DropsObject told input (10 ∷ rest) size)
drops told input mid rest size (Err end) is newline = tt
drops told input mid rest size (Ok x) is newline = record {
  object = resized input size;
  long = length-resized input size;
  whole = λ t. sym (take-append-drop size input)
      ∙ ap (λ (xs : List ℕ). take size input ++ xs) (sym (is t).1 ∙ newline t)
      ∙ ap (λ (xs : List ℕ). xs ++ 10 ∷ rest) (sym (all_there input size (is t).0));
}
  where
    all_there : (xs : List ℕ) (n : ℕ) → n ≤ length xs → resized xs n ≡ take n xs
    all_there xs n within =
        let none : n - length xs ≡ 0 = omega (arith, within) in
        ap (λ (m : ℕ). take n xs ++ replicate m 0) none ∙ append-nil (take n xs)

-- a line, an object behind it, and a newline
pub kept_front : (n size : ℕ) (text mid front : List ℕ)
    → take (n + size + 1) text ≡ take (n + size) mid ++ 10 ∷ [] → take n mid ≡ front
    → take (n + size + 1) text ≡ front ++ (take size (drop n mid) ++ 10 ∷ [])
kept_front n size text mid front last is =
    last ∙ ap (λ (xs : List ℕ). xs ++ 10 ∷ []) (take-add n size mid)
    ∙ append_assoc (take n mid) (take size (drop n mid)) (10 ∷ [])
    ∙ ap (λ (xs : List ℕ). xs ++ (take size (drop n mid) ++ 10 ∷ [])) is
