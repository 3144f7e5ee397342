use Rattle.std.proofs.Common.{◌≡◌, ◌++◌, Ok, true, IsTrue, rules, subst, sym}
use Rattle.load_stream.proofs.BodyLaws.{body_without}
use Rattle.load_stream.proofs.object.write_text.Goals as goal

pub returns-clause-none : goal.returns-clause-none
returns-clause-none g c told is object behind long h =
    let whole : Ok c.in_ok-whole.whole ≡ Ok true = search rules in
    let here : IsTrue (g.I.Source.state c.write_body.new.input).tells =
    subst IsTrue (sym c.in_ok-whole.ensures.causes.source_cause.told) told in
    body_without (IsTrue (g.I.Source.state c.args.input.now).tells) c.args.at c.args.size
    (c.args.ahead.now ++ (g.I.Source.state c.args.input.now).left)
    (c.write_body.new.ahead ++ (g.I.Source.state c.write_body.new.input).left)
    (g.D.Disk.state c.args.disk.now) (g.D.Disk.state c.write_body.new.disk) told
    (c.in_ok-whole.ensures.object whole) (c.ends_line.ensures.none here (search rules)) object behind long h
