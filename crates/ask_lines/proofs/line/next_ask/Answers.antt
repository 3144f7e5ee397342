use Rattle.std.proofs.Common.{◌≡◌, ◌++◌, ◌∷◌, true, false, Bool, Ok, IsTrue, arith, ap, subst, ◌∙◌}
use Rattle.ask_text.specs.Asks.{AsksForNothing}
use Rattle.ask_lines.specs.Lines.{newline_if}
use Rattle.ask_lines.proofs.LineLaws.{no_ask, no_line}
use Rattle.ask_lines.proofs.line.next_ask.Goals as goal

pub returns-then-not-found-clause-none : goal.returns-then-not-found-clause-none
returns-then-not-found-clause-none g c told is =
    let none : c.in_ok-found.found ≡ false = grind arith in
    let front = c.in_ok-found.ensures.whole told ∙ ap (λ (b : Bool). c.read_line.new.line.items
    ++ (newline_if b ++ (c.read_line.new.ahead ++ (g.I.Source.state c.read_line.new.input).left))) none in
    no_line (c.args.ahead.now ++ (g.I.Source.state c.args.input.now).left) c.read_line.new.line.items
    (c.read_line.new.ahead ++ (g.I.Source.state c.read_line.new.input).left) c.in_ok-found.ensures.lacks
    front (c.in_ok-found.ensures.long told (ap (λ (b : Bool). Ok b) none))

pub returns-in-Err-clause-none : goal.returns-in-Err-clause-none
returns-in-Err-clause-none g c told is =
    let one : c.in_ok-found.found ≡ true = grind arith in
    let front = c.in_ok-found.ensures.whole told ∙ ap (λ (b : Bool). c.read_line.new.line.items
    ++ (newline_if b ++ (c.read_line.new.ahead ++ (g.I.Source.state c.read_line.new.input).left))) one in
    no_ask (c.args.ahead.now ++ (g.I.Source.state c.args.input.now).left) c.read_line.new.line.items
    (c.read_line.new.ahead ++ (g.I.Source.state c.read_line.new.input).left) c.in_ok-found.ensures.lacks
    front (subst AsksForNothing c.as_slice.ensures.value c.in-Err.ensures.fault)
