use Rattle.std.proofs.Common.{◌≡◌, Some, IsTrue, arith, refl, rules, subst, sym}
use Rattle.byte_ranges.specs.Ranges.{bytes_at}
use Rattle.file_commands.specs.Getting.{IsObject, checked}
use Rattle.file_commands.proofs.AnswerLaws.{answers_more, stopped, stopped_for_memory}
use Rattle.file_commands.proofs.get.get.Goals as goal

pub returns-in_err-found-clause-answers : goal.returns-in_err-found-clause-answers
returns-in_err-found-clause-answers g c = λ told.
    let output = g.O.Sink.state c.args.output.now in
    let all = stopped (IsObject c.args.name.now (g.D.Disk.state c.args.disk.now).file) output output
    c.in_err-found.field-0.0 refl c.in_err-found.ensures.looks.only.0 (c.in_err-found.ensures.stopped told) in
    search rules

pub returns-in_err-piece-clause-answers : goal.returns-in_err-piece-clause-answers
returns-in_err-piece-clause-answers g c = λ told.
    let all = stopped_for_memory (IsObject c.args.name.now (g.D.Disk.state c.args.disk.now).file)
    (g.O.Sink.state c.args.output.now) c.in_err-piece.field-0.0 c.in_err-piece.ensures.refused in
    search rules

pub returns-clause-answers : goal.returns-clause-answers
returns-clause-answers g c = λ told.
    let file = (g.D.Disk.state c.args.disk.now).file in
    let before = g.D.Disk.state c.locate.new.disk in
    let frame = c.in_ok-found.ensures.looks.frame in
    let here : IsTrue before.tells = grind (arith, frame.stays.told) in
    let same = frame.same_file told in
    let some : c.in_ok-found.found.digest ≡ Some c.in-Some.digest = cc in
    let is = c.in_ok-found.ensures.found told in
    let put = c.put_checked.ensures.answers here in
    answers_more
    (λ answer. answer ≡ checked (Some c.in-Some.digest)
    (Some (bytes_at file c.in_ok-found.found.at c.in_ok-found.found.size)))
    (IsObject c.args.name.now file)
    (λ answer that. subst (IsObject c.args.name.now file) (sym that) (rw some at is))
    (g.O.Sink.state c.args.output.now) (g.O.Sink.state c.put_checked.new.output) c.put_checked.result
    (rw same at put)
