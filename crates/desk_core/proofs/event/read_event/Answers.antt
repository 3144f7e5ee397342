use Rattle.std.proofs.Common.{◌≡◌, ◌++◌, ◌∷◌, true, Bool, false, Ok, IsTrue, arith, ap, refl, ◌∙◌, length}
use Rattle.ask_lines.specs.Lines.{newline_if}
use Rattle.ask_lines.proofs.LineLaws.{line_not_empty, not_empty}
use Rattle.desk_core.proofs.EventLaws.{no_line, no_words}
use Rattle.desk_core.proofs.event.read_event.Goals as goal

-- no newline was found
found_none : (g : _) (c : goal.In-Ok-false-2 g) → c.in-Ok-false.field-0 ≡ false
found_none g c = grind arith

-- so what was read stands before the rest of the input
front : (g : _) (c : goal.In-Ok-false-2 g) → IsTrue (g.I.Source.state c.args.input.now).tells
    → c.args.ahead.now ++ (g.I.Source.state c.args.input.now).left
    ≡ c.read_line.new.line.items ++ (c.read_line.new.ahead ++ (g.I.Source.state c.read_line.new.input).left)
front g c told = c.in-Ok-false.ensures.whole told ∙ ap (λ (b : Bool). c.read_line.new.line.items
    ++ (newline_if b ++ (c.read_line.new.ahead ++ (g.I.Source.state c.read_line.new.input).left)))
    (found_none g c)

pub returns-in-Ok-false-2-clause-none : goal.returns-in-Ok-false-2-clause-none
returns-in-Ok-false-2-clause-none g c told is =
    no_line (c.args.ahead.now ++ (g.I.Source.state c.args.input.now).left) c.read_line.new.line.items
    (c.read_line.new.ahead ++ (g.I.Source.state c.read_line.new.input).left) c.in-Ok-false.ensures.lacks
    (front g c told) (c.in-Ok-false.ensures.long told (ap (λ (b : Bool). Ok b) (found_none g c)))

pub returns-in-Ok-false-2-clause-some : goal.returns-in-Ok-false-2-clause-some
returns-in-Ok-false-2-clause-some g c told is =
    line_not_empty (c.args.ahead.now ++ (g.I.Source.state c.args.input.now).left) c.read_line.new.line.items
    (c.read_line.new.ahead ++ (g.I.Source.state c.read_line.new.input).left) (front g c told)
    (λ none. absurd (grind (arith, ap length none)))

-- a newline was found
line_front : (g : _) (c : goal.In-None g) → IsTrue (g.I.Source.state c.args.input.now).tells
    → c.args.ahead.now ++ (g.I.Source.state c.args.input.now).left
    ≡ c.read_line.new.line.items ++ 10 ∷ (c.read_line.new.ahead
    ++ (g.I.Source.state c.read_line.new.input).left)
line_front g c told =
    let found : c.in-Ok-true.field-0 ≡ true = grind arith in
    c.in-Ok-true.ensures.whole told ∙ ap (λ (b : Bool). c.read_line.new.line.items
    ++ (newline_if b ++ (c.read_line.new.ahead ++ (g.I.Source.state c.read_line.new.input).left))) found

pub returns-in-None-clause-none : goal.returns-in-None-clause-none
returns-in-None-clause-none g c told is =
    no_words (c.args.ahead.now ++ (g.I.Source.state c.args.input.now).left) c.read_line.new.line.items
    (c.read_line.new.ahead ++ (g.I.Source.state c.read_line.new.input).left) c.in-Ok-true.ensures.lacks
    (line_front g c told) (λ e one words. c.in-None.ensures.none refl e one
    (c.as_slice.ensures.value ∙ words))

pub returns-in-None-clause-some : goal.returns-in-None-clause-some
returns-in-None-clause-some g c told is =
    not_empty (c.args.ahead.now ++ (g.I.Source.state c.args.input.now).left) c.read_line.new.line.items
    (c.read_line.new.ahead ++ (g.I.Source.state c.read_line.new.input).left) (line_front g c told)
