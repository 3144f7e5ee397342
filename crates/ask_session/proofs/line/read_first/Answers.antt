use Rattle.std.proofs.Common.{◌≡◌, ◌++◌, ◌∷◌, true, Bool, false, Ok, IsTrue, arith, ap, subst, ◌∙◌, length}
use Rattle.std.proofs.lemmas.Grind.{common_steps}
use Rattle.ask_text.specs.Asks.{AsksForNothing}
use Rattle.ask_lines.specs.Lines.{newline_if}
use Rattle.ask_lines.proofs.LineLaws.{line_not_empty, no_ask, no_line, not_empty}
use Rattle.ask_session.proofs.line.read_first.Goals as goal

-- no newline was found
found_none : (g : _) (c : goal.In-Ok-false-2 g) → c.in-Ok-false.field-0 ≡ false
found_none g c = grind arith

-- so what was read stands before the rest of the input
front : (g : _) (c : goal.In-Ok-false-2 g) → IsTrue (g.I.Source.state c.args.input.now).tells
    → c.args.ahead.now ++ (g.I.Source.state c.args.input.now).left
    ≡ c.read_line.new.line.items ++ (c.read_line.new.ahead ++ (g.I.Source.state c.read_line.new.input).left)
front g c told = c.in-Ok-false.ensures.whole told ∙ ap (λ (b : Bool). c.read_line.new.line.items
    ++ (newline_if b ++ (c.read_line.new.ahead ++ (g.I.Source.state c.read_line.new.input).left)))
    (found_none g c)

pub returns-in-Ok-false-2-clause-none : goal.returns-in-Ok-false-2-clause-none
returns-in-Ok-false-2-clause-none g c told is =
    no_line (c.args.ahead.now ++ (g.I.Source.state c.args.input.now).left) c.read_line.new.line.items
    (c.read_line.new.ahead ++ (g.I.Source.state c.read_line.new.input).left) c.in-Ok-false.ensures.lacks
    (front g c told) (c.in-Ok-false.ensures.long told (ap (λ (b : Bool). Ok b) (found_none g c)))

pub returns-in-Ok-false-2-clause-some : goal.returns-in-Ok-false-2-clause-some
returns-in-Ok-false-2-clause-some g c told is =
    line_not_empty (c.args.ahead.now ++ (g.I.Source.state c.args.input.now).left) c.read_line.new.line.items
    (c.read_line.new.ahead ++ (g.I.Source.state c.read_line.new.input).left) (front g c told)
    (λ none. absurd (grind (arith, ap length none)))

-- a newline was found
found_one : (g : _) (c : goal.In-Err-read_ask g) → c.in-Ok-true.field-0 ≡ true
found_one g c = grind arith

line_front : (g : _) (c : goal.In-Err-read_ask g) → IsTrue (g.I.Source.state c.args.input.now).tells
    → c.args.ahead.now ++ (g.I.Source.state c.args.input.now).left
    ≡ c.read_line.new.line.items ++ 10 ∷ (c.read_line.new.ahead
    ++ (g.I.Source.state c.read_line.new.input).left)
line_front g c told = c.in-Ok-true.ensures.whole told ∙ ap (λ (b : Bool). c.read_line.new.line.items
    ++ (newline_if b ++ (c.read_line.new.ahead ++ (g.I.Source.state c.read_line.new.input).left)))
    (found_one g c)

pub returns-in-Err-read_ask-clause-none : goal.returns-in-Err-read_ask-clause-none
returns-in-Err-read_ask-clause-none g c told is =
    no_ask (c.args.ahead.now ++ (g.I.Source.state c.args.input.now).left) c.read_line.new.line.items
    (c.read_line.new.ahead ++ (g.I.Source.state c.read_line.new.input).left) c.in-Ok-true.ensures.lacks
    (line_front g c told) (subst AsksForNothing c.as_slice.ensures.value c.in-Err-read_ask.ensures.fault)

pub returns-in-Err-read_ask-clause-some : goal.returns-in-Err-read_ask-clause-some
returns-in-Err-read_ask-clause-some g c told is =
    not_empty (c.args.ahead.now ++ (g.I.Source.state c.args.input.now).left) c.read_line.new.line.items
    (c.read_line.new.ahead ++ (g.I.Source.state c.read_line.new.input).left) (line_front g c told)

pub returns-in-Err : goal.returns-in-Err
returns-in-Err g c = grind (arith, common_steps)

pub returns-in-Ok : goal.returns-in-Ok
returns-in-Ok g c = grind (arith, common_steps)

pub returns-in-Ok-false : goal.returns-in-Ok-false
returns-in-Ok-false g c = grind (arith, common_steps)
