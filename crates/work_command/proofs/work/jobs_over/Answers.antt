-- What the jobs left and put, and the line of their end after it.
use Rattle.std.proofs.Common.{◌≡◌, ap, false, subst, sym}
use Rattle.command_face.specs.declared.status.TheConstants.{DISK_FAILED, NO_FILE}
use Rattle.command_face.specs.Mounting.{IsMounted}
use Rattle.command_face.specs.Refusing.{IsRefused}
use Rattle.command_face.specs.Outcomes.{status_at}
use Rattle.work_command.specs.Asked.{jobs_numbered}
use Rattle.work_command.specs.Working.{JobsAlways, JobsHold}
use Rattle.command_face.specs.declared.outcome.Outcome.{Outcome}
use Rattle.disk_face.specs.Devices.{devices}
use Rattle.served_file.specs.Served.{found_with}
use Rattle.work_command.proofs.StepsLaws.{refused_work, whole}
use Rattle.work_command.proofs.SummaryLaws.{keeps_line, line_only, summary_of}
use Rattle.command_face.proofs.EndedLaws.{ended_by_line}
use Rattle.work_command.proofs.RefusalLaws.{never_worked}
use Rattle.work_command.proofs.WorkingLaws.{works}
use Rattle.work_command.proofs.work.jobs_over.Goals as goal

pub returns-clause-works : goal.returns-clause-works
returns-clause-works g c = λ told t m b opens.
    let old = g.B.Disk.state c.args.bay.now in
    let new = g.B.Disk.state c.work_over-end.new.bay in
    let out = g.O.Sink.state c.args.output.now in
    let put = g.O.Sink.state c.work_over-end.new.output in
    let after = g.O.Sink.state c.finish.new.output in
    let status : c.finish.result.status ≡ status_at c.work_over-end.result =
    ap (λ (x : Outcome). x.status) c.finish.ensures.status in
    subst (λ n. JobsHold (found_with t.chosen.block t m b)
    (jobs_numbered c.args.number c.args.count c.args.entries) n (devices old out) (devices new after))
    (sym status)
    (works t m b old (g.met.B.Disk.lawful c.args.bay.now) told opens g.B.Disk.state
    (jobs_numbered c.args.number c.args.count c.args.entries) new out put after
    c.args.file.now c.work_over-end.result c.work_over-end.ensures
    c.finish.ensures.line)

pub returns-clause-refused : goal.returns-clause-refused
returns-clause-refused g c = λ told never.
    let old = g.B.Disk.state c.args.bay.now in
    let new = g.B.Disk.state c.work_over-end.new.bay in
    let out = g.O.Sink.state c.args.output.now in
    let put = g.O.Sink.state c.work_over-end.new.output in
    let after = g.O.Sink.state c.finish.new.output in
    let status : c.finish.result.status ≡ status_at c.work_over-end.result =
    ap (λ (x : Outcome). x.status) c.finish.ensures.status in
    let refused = refused_work g.B.Disk.state c.args.file.now
    (jobs_numbered c.args.number c.args.count c.args.entries) old new out put
    c.work_over-end.result told
    never c.work_over-end.ensures in
    ended_by_line (IsRefused old.file) out put after c.work_over-end.result c.finish.result.status
    status
    refused.0
    refused.1 c.finish.ensures.line

pub returns-clause-mounted : goal.returns-clause-mounted
returns-clause-mounted g c =
    let old = g.B.Disk.state c.args.bay.now in
    let new = g.B.Disk.state c.work_over-end.new.bay in
    let out = g.O.Sink.state c.args.output.now in
    let put = g.O.Sink.state c.work_over-end.new.output in
    let status : c.finish.result.status ≡ status_at c.work_over-end.result =
    ap (λ (x : Outcome). x.status) c.finish.ensures.status in
    subst (λ n. IsMounted c.args.file.now false new.last_mount (n ≡ DISK_FAILED) (n ≡ NO_FILE))
    (sym status)
    (whole g.B.Disk.state c.args.file.now
    (jobs_numbered c.args.number c.args.count c.args.entries) old new out put c.work_over-end.result
    c.work_over-end.ensures).mounted

pub returns-clause-keeps : goal.returns-clause-keeps
returns-clause-keeps g c =
    let old = g.B.Disk.state c.args.bay.now in
    let new = g.B.Disk.state c.work_over-end.new.bay in
    let out = g.O.Sink.state c.args.output.now in
    let put = g.O.Sink.state c.work_over-end.new.output in
    let after = g.O.Sink.state c.finish.new.output in
    let end = c.work_over-end.result in
    let status : c.finish.result.status ≡ status_at end = ap (λ (x : Outcome). x.status)
    c.finish.ensures.status in
    let w = whole g.B.Disk.state c.args.file.now
    (jobs_numbered c.args.number c.args.count c.args.entries) old new out put end
    c.work_over-end.ensures in
    subst (λ n. JobsAlways c.args.count c.args.entries n (devices old out) (devices new after)) (sym status)
    (record {
      known = w.known;
      keeps = keeps_line old new out put after end w.keeps c.finish.ensures.later c.finish.ensures.calm
          c.finish.ensures.told;
      untouched = w.untouched;
      refused = λ told four. never_worked g.B.Disk.state c.args.file.now
          (jobs_numbered c.args.number c.args.count c.args.entries) old new out put end told four
          c.work_over-end.ensures;
      summed = summary_of g.B.Disk.state
          (jobs_numbered c.args.number c.args.count c.args.entries) new out put after end
          c.finish.ensures.line c.work_over-end.ensures;
      line_alone = λ told none. line_only out put after end none (w.nothing none) told c.finish.ensures.line;
    })
