use Rattle.std.proofs.Common.{arith, ap, ◌∙◌, drop, List, ℕ}
use Rattle.ask_lines.proofs.AheadLemmas.{between_later}
use Rattle.ask_lines.proofs.ahead.Ahead.forget.Goals as goal

pub returns-clause-rest : goal.returns-clause-rest
returns-clause-rest c =
    between_later c.self.inside.bytes c.self.inside.from c.self.inside.to c.min-n.result (omega arith)
    (omega arith) ∙ ap (λ (xs : List ℕ). drop c.min-n.result xs) c.self.view_is
