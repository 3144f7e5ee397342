-- A number that isn't below 8 is the only one that these bytes spell.
use Rattle.std.proofs.Common.{◌≡◌, ◌∙◌, sym, arith}
use Rattle.std.proofs.lemmas.Fmt.{decimal_injective}
use Rattle.desk_core.proofs.event.session_of.Goals as goal

pub returns-then-n-ge8 : goal.returns-then-n-ge8
returns-then-n-ge8 c = λ m fits is.
    let same : m ≡ c.in-Some.n = decimal_injective m c.in-Some.n (omega arith) (omega arith)
    (sym is ∙ c.in-Some.ensures) in
    absurd (omega (arith, same))
