-- A line without an object is a whole text with its newline.
use Rattle.std.proofs.Common.{◌≡◌, ◌∙◌, ℕ, List, [], ◌++◌, ap, sym, refl, None}
use Rattle.std.proofs.lemmas.List.{append-nil}
use Rattle.std.specs.Prelude.{codes}
use Rattle.map_model.specs.Requests as request
use Rattle.ask_text.specs.Asks.{AsksFor}
use Rattle.ask_text.specs.declared.ask.Ask.{Ask}
use Rattle.ask_text.specs.declared.ask.Ask.TheVariants as ask
use Rattle.desk_queues.specs.Queues.{IsText}
use Rattle.layer_rows.proofs.waiting.is_bare.Goals as goal

whole : (line of_ask : List ℕ) → line ≡ of_ask → line ++ codes "\n" ≡ of_ask ++ codes "\n" ++ []
whole line of_ask is = ap (λ xs. xs ++ codes "\n") is ∙ sym (append-nil (of_ask ++ codes "\n"))

bare_text : (line : List ℕ) (a : Ask) → AsksFor line a → ((name : List ℕ) (size : ℕ) → a
    ≡ ask.Put name size → ⊥)
    → IsText (line ++ codes "\n")
bare_text line (ask.Put name size) asks none = absurd (none name size refl)
bare_text line (ask.Get name) asks none = (request.get name, asks.1, whole line _ asks.0)
bare_text line (ask.Old name) asks none = (request.old name, asks.1, whole line _ asks.0)
bare_text line (ask.Del name) asks none =
    (request.change (record { name = name; object = None }), asks.1, whole line _ asks.0)
bare_text line ask.Keep asks none = (request.keep, tt, whole line _ asks.0)
bare_text line ask.Back asks none = (request.back, tt, whole line _ asks.0)
bare_text line ask.List asks none = (request.list, tt, whole line _ asks.0)
bare_text line ask.Stat asks none = (request.stat, tt, whole line _ asks.0)

pub returns-in_default-ask : goal.returns-in_default-ask
returns-in_default-ask c = λ is. bare_text c.args.line.now c.in-Ok.ask c.in-Ok.ensures.read
    c.in_default-ask.not-Put
