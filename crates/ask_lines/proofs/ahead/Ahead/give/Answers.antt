use Rattle.std.proofs.Common.{◌-◌, ◌+◌, ◌≡◌, arith, ap, sym, ◌∙◌, drop, take, ℕ}
use Rattle.ask_lines.proofs.AheadLemmas.{given_front}
use Rattle.ask_lines.proofs.ahead.Ahead.give.Goals as goal

pub returns-clause-given : goal.returns-clause-given
returns-clause-given c =
    let n : c.self.inside.from + c.min-n.result - c.self.inside.from ≡ c.min-n.result = omega arith in
    sym c.self.view_is
    ∙ given_front c.self.inside.bytes c.copy_from_slice.new.self c.args.out.now c.self.inside.from
    c.self.inside.to c.min-n.result (omega arith) (omega arith)
    (c.copy_from_slice.ensures.after ∙ ap (λ (m : ℕ). take m (drop c.self.inside.from c.self.inside.bytes)) n)
