-- A number that isn't below 2^32 is the only one that these bytes spell.
use Rattle.std.proofs.Common.{◌≡◌, ◌∙◌, sym, arith}
use Rattle.std.proofs.lemmas.Fmt.{decimal_injective}
use Rattle.ask_text.proofs.ask.size.Goals as goal

pub returns-then-n : goal.returns-then-n
returns-then-n c = λ m fits is.
    let same : m ≡ c.in-Some.n = decimal_injective m c.in-Some.n (omega arith) (omega arith)
    (sym is ∙ c.in-Some.ensures) in
    absurd (omega (arith, same))
