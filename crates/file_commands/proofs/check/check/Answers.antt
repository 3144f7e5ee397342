use Rattle.std.proofs.Common.{refl, rules}
use Rattle.file_commands.specs.Texts.{IsChecked}
use Rattle.file_commands.proofs.AnswerLaws.{stopped}
use Rattle.file_commands.proofs.check.check.Goals as goal

pub returns-in_err-line-clause-answers : goal.returns-in_err-line-clause-answers
returns-in_err-line-clause-answers g c = λ told.
    let output = g.O.Sink.state c.args.output.now in
    let all = stopped (IsChecked (g.D.Disk.state c.args.disk.now).file) output output
    c.in_err-line.field-0.0 refl
    c.in_err-line.ensures.looks.only.0 (c.in_err-line.ensures.stopped told) in
    search rules
