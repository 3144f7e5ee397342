-- A text is one batch at most.
use Rattle.std.specs.Prelude.{◌≡◌, ℕ, ◌<◌, ◌≤◌, nat_le, nat_lt, ◌&&◌, List, [], ◌∷◌, ◌++◌, length, Option, Some, None, IfSome, refl}
use Rattle.std.proofs.Common.{arith, ap, sym, ◌∙◌, append-nil, length-append}
use Rattle.std.proofs.lemmas.Bool.{and_from, and_parts, le-leb, leb-true}
use Rattle.std.specs.List.{AllByRecursion, list_all}
use Rattle.size_class.specs.declared.TheConstants.{SIZE_MAX}
use Rattle.slot_codec.specs.Names.{IsName, is_name_byte}
use Rattle.map_model.specs.Requests as ask
use Rattle.map_model.specs.Requests.{Change, Request}
use Rattle.ask_text.specs.Asks.{IsAsk, change_ask}
use Rattle.ask_text.specs.Inputs.{HasText, request_text}
use Rattle.ask_text.specs.Words.{IsWord}
use Rattle.ask_text.proofs.InputLaws.{text_one, named_word}
use Rattle.batch_model.specs.Batches.{IsBatch, IsPart, batch_text}

-- a change that may stand in a batch has a text
pub part_text : (c : Change) → IsPart c → HasText (ask.change c)
part_text c p = by c.object p.small
  where
    by : (object : Option (List ℕ)) → IfSome object (λ o. length o ≤ SIZE_MAX)
        → IsAsk (change_ask c.name object)
    by None small = named_word c.name p.named
    by (Some object) small = (named_word c.name p.named, omega arith)

-- a text of a request isn't empty
pub text_some : (c : Change) (rest : List ℕ) → request_text (ask.change c) ++ rest ≡ [] → ⊥
text_some c rest h = omega (
  arith,
  ap length h,
  length-append (request_text
      (ask.change c)) rest,
  some c.object,
)
  where
    some : (object : Option (List ℕ))
        → 0 < length (request_text (ask.change (record { name = c.name; object = object })))
    some None = omega arith
    some (Some object) = omega arith

-- two lists of changes whose texts make one text are one
pub changes_one : (a b : List Change) → AllByRecursion IsPart a → AllByRecursion IsPart b
    → batch_text a ≡ batch_text b → a ≡ b
changes_one [] [] p q h = refl
changes_one [] (d ∷ b) p q h = absurd (text_some d (batch_text b) (sym h))
changes_one (c ∷ a) [] p q h = absurd (text_some c (batch_text a) h)
changes_one (c ∷ a) (d ∷ b) p q h =
    let one = text_one (ask.change c) (ask.change d) (batch_text a) (batch_text b) (part_text c p.0)
    (part_text d q.0) h in
    let same : c ≡ d = let e : ask.change c ≡ ask.change d = one.0 in cc in
    let rest : a ≡ b = changes_one a b p.1 q.1 one.1 in
    λ i. same i ∷ rest i

pub batch_one : (text : List ℕ) (a b : List Change) → IsBatch text a → IsBatch text b → a ≡ b
batch_one text a b x y = changes_one a b x.parts y.parts
    (sym (append-nil (batch_text a)) ∙ sym x.whole ∙ y.whole ∙ append-nil (batch_text b))
