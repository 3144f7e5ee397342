-- What stands in front of an input, by its line: the text of an object, or none.
use Rattle.std.specs.Prelude.{◌≡◌, ℕ, ◌<◌, List, ◌∷◌, ◌++◌, codes, length}
use Rattle.std.proofs.Common.{ap, sym, ◌∙◌, append_assoc}
use Rattle.slot_codec.specs.Names.{IsName}
use Rattle.map_model.specs.Weights.{Entry}
use Rattle.ask_text.specs.declared.ask.Ask.{Ask}
use Rattle.ask_text.specs.declared.ask.Ask.TheVariants as ask
use Rattle.ask_text.specs.Asks.{IsAsk, line_of}
use Rattle.ask_text.specs.Inputs.{BeginsNone}
use Rattle.ask_text.proofs.AskLaws.{lacks-line, line_one}
use Rattle.ask_text.proofs.Cuts.{cut_once}
use Rattle.dump_stream.specs.Dumps.{object_text, put_of}
use Rattle.load_stream.specs.Steps.{HasNoObject}
use Rattle.ask_text.proofs.InputLaws.{named_word, text_is}

-- the put of an object is its line, and then its bytes and a newline
pub put_text : (e : Entry) (behind : List ℕ) → object_text e ++ behind
    ≡ line_of (ask.Put e.0 (length e.1)) ++ 10 ∷ (e.1 ++ 10 ∷ behind)
put_text e behind = text_is (put_of e) behind
    ∙ ap (λ (s : List ℕ). line_of (ask.Put e.0 (length e.1)) ++ 10 ∷ s) (append_assoc e.1 (codes "\n") behind)

-- an object's text that stands where a line was read has this line
pub put_one : (a : Ask) (input now : List ℕ) → IsAsk a → input ≡ line_of a ++ 10 ∷ now → (e : Entry)
    (behind : List ℕ) → IsName e.0 → length e.1 < 4294967296 → input ≡ object_text e ++ behind
    → (a ≡ ask.Put e.0 (length e.1)) × (now ≡ e.1 ++ 10 ∷ behind)
put_one a input now asks is e behind named small h =
    let put : Ask = ask.Put e.0 (length e.1) in
    let can : IsAsk put = (named_word e.0 named, small) in
    let cut = cut_once 10 (line_of a) (line_of put) now (e.1 ++ 10 ∷ behind) (lacks-line a asks)
    (lacks-line put can) (sym is ∙ h ∙ put_text e behind) in
    (line_one a put asks can cut.0, cut.1)

-- no object stands in front, where the line puts no name
pub no_put : (a : Ask) (input now : List ℕ) → IsAsk a → input ≡ line_of a ++ 10 ∷ now
    → ((name : List ℕ) (size : ℕ) → IsName name → a ≡ ask.Put name size → ⊥) → HasNoObject input
no_put a input now asks is none e behind named small h =
    none e.0 (length e.1) named (put_one a input now asks is e behind named small h).0

-- nor where no request does
pub no_request : (input : List ℕ) → BeginsNone input → HasNoObject input
no_request input none e behind named small h = none (put_of e) behind (named_word e.0 named, small) h
