use Rattle.std.proofs.Common.{◌++◌, Bool, Ok, IsTrue, ap, subst, sym}
use Rattle.desk_core.proofs.SaidLaws.{drops}
use Rattle.desk_core.proofs.said.drop_object.Goals as goal

pub returns-in-Ok-true-clause-object : goal.returns-in-Ok-true-clause-object
returns-in-Ok-true-clause-object g c =
    let still = c.in-Ok-true.ensures.told in
    drops (IsTrue (g.I.Source.state c.args.input.now).tells)
    (c.args.ahead.now ++ (g.I.Source.state c.args.input.now).left)
    (c.skip.new.ahead ++ (g.I.Source.state c.skip.new.input).left)
    (c.take_newline.new.ahead ++ (g.I.Source.state c.take_newline.new.input).left) c.args.size
    c.take_newline.result
    (λ told. c.in-Ok-true.ensures.dropped told (ap (λ (b : Bool). Ok b) c.in-Ok-true.field-0-test))
    (λ told. c.take_newline.ensures.taken (subst IsTrue (sym still) told))
