use Rattle.std.proofs.Common.{◌+◌, ◌++◌, ◌∷◌, [], ℕ, List, IsTrue, arith, ap, ◌∙◌, drop, length}
use Rattle.ask_text.specs.Asks.{line_of}
use Rattle.ask_session.proofs.RequestLemmas.{no_object}
use Rattle.desk_core.proofs.SaidLaws.{hears_bare, hears_dropped, hears_kept, kept_front}
use Rattle.desk_core.proofs.said.read_behind.Goals as goal

pub returns-in_default-clause-hears : goal.returns-in_default-clause-hears
returns-in_default-clause-hears g c input is =
    let line = c.requires.line in
    hears_bare (IsTrue (g.I.Source.state c.args.input.now).tells) input
    (c.args.ahead.now ++ (g.I.Source.state c.args.input.now).left) c.args.room c.put_head.new.text
    c.args.ask.now c.requires.asks c.put_head.result (grind arith) is
    (rw line at c.put_head.ensures.some) (rw line at c.put_head.ensures.none)

pub returns-in-Ok-clause-hears : goal.returns-in-Ok-clause-hears
returns-in-Ok-clause-hears g c input is =
    hears_dropped (IsTrue (g.I.Source.state c.args.input.now).tells) input
    (c.drop_object.new.ahead ++ (g.I.Source.state c.drop_object.new.input).left) c.args.room
    c.args.text.now c.args.ask.now c.requires.asks
    (c.args.ahead.now ++ (g.I.Source.state c.args.input.now).left) c.in-Some.size c.in-Some.ensures is
    c.in-Ok.ensures.object (omega (arith, ap length c.requires.line))

pub returns-in-Err-clause-none : goal.returns-in-Err-clause-none
returns-in-Err-clause-none g c input is told line =
    no_object input (c.args.ahead.now ++ (g.I.Source.state c.args.input.now).left) c.args.ask.now
    c.in-Some.size c.requires.asks c.in-Some.ensures is (c.in-Err.ensures.none told (grind arith))

pub returns-in-Ok-read_object-clause-hears : goal.returns-in-Ok-read_object-clause-hears
returns-in-Ok-read_object-clause-hears g c input is =
    hears_kept (IsTrue (g.I.Source.state c.args.input.now).tells) input
    (c.read_object.new.ahead ++ (g.I.Source.state c.read_object.new.input).left) c.args.room
    c.put_newline.new.text c.args.ask.now c.requires.asks
    (c.args.ahead.now ++ (g.I.Source.state c.args.input.now).left)
    (drop (length c.args.line.now + 1) c.read_object.new.text) c.in-Some.size
    (length c.args.line.now + 1 + c.in-Some.size + 1) c.in-Some.ensures is
    c.in-Ok-read_object.ensures.object (omega arith) (omega arith)
    (kept_front (length c.args.line.now + 1) c.in-Some.size c.put_newline.new.text c.read_object.new.text
    (line_of c.args.ask.now ++ 10 ∷ []) c.put_newline.ensures.front
    (c.in-Ok-read_object.ensures.front ∙ c.put_line.ensures.front
    ∙ ap (λ (xs : List ℕ). xs ++ 10 ∷ []) c.requires.line))

pub returns-in-Err-read_object-clause-none : goal.returns-in-Err-read_object-clause-none
returns-in-Err-read_object-clause-none g c input is told line =
    no_object input (c.args.ahead.now ++ (g.I.Source.state c.args.input.now).left) c.args.ask.now
    c.in-Some.size c.requires.asks c.in-Some.ensures is (c.in-Err-read_object.ensures.none told (grind arith))
