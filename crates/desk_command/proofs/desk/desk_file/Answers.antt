-- What the desk left and put, and the line of its end after it.
use Rattle.std.proofs.Common.{◌≡◌, ap, subst, sym}
use Rattle.std.specs.Prelude.{false}
use Rattle.command_face.specs.Mounting.{IsMounted}
use Rattle.command_face.specs.Refusing.{IsRefused}
use Rattle.command_face.specs.declared.outcome.Outcome.{Outcome}
use Rattle.command_face.specs.declared.status.TheConstants.{DISK_FAILED, NO_FILE}
use Rattle.command_face.proofs.EndedLaws.{ended_by_line}
use Rattle.disk_face.specs.Devices.{devices}
use Rattle.served_file.specs.Served.{found_with}
use Rattle.served_file.proofs.StepsLaws.{never_served}
use Rattle.desk_command.specs.Doing.{IsDesking}
use Rattle.desk_command.specs.Promise.{DeskHolds}
use Rattle.desk_command.proofs.AlwaysLaws.{desk_always, desk_whole}
use Rattle.desk_command.proofs.HoldsLaws.{desk_holds}
use Rattle.desk_command.proofs.AlwaysLaws.{desk_reads}
use Rattle.desk_command.proofs.desk.desk_file.Goals as goal

pub returns-clause-refused : goal.returns-clause-refused
returns-clause-refused g c = λ told never.
    let old = g.B.Disk.state c.args.bay.now in
    let new = g.B.Disk.state c.desk_over-end.new.bay in
    let from = g.I.Source.state c.args.input.now in
    let rest = g.I.Source.state c.desk_over-end.new.input in
    let out = g.O.Sink.state c.args.output.now in
    let put = g.O.Sink.state c.desk_over-end.new.output in
    let after = g.O.Sink.state c.finish.new.output in
    let end = c.desk_over-end.result in
    let refused = never_served g.B.Disk.state c.args.file.now (IsDesking from rest)
    (devices old out) (devices new put) end told never c.desk_over-end.ensures.steps in
    ended_by_line (IsRefused old.file) out put after end c.finish.result.status
    (ap (λ (x : Outcome). x.status) c.finish.ensures.status) refused.0 refused.1 c.finish.ensures.line

pub returns-clause-mounted : goal.returns-clause-mounted
returns-clause-mounted g c =
    let old = g.B.Disk.state c.args.bay.now in
    let new = g.B.Disk.state c.desk_over-end.new.bay in
    let from = g.I.Source.state c.args.input.now in
    let rest = g.I.Source.state c.desk_over-end.new.input in
    let out = g.O.Sink.state c.args.output.now in
    let put = g.O.Sink.state c.desk_over-end.new.output in
    let after = g.O.Sink.state c.finish.new.output in
    subst (λ n. IsMounted c.args.file.now false new.last_mount (n ≡ DISK_FAILED) (n ≡ NO_FILE))
    (sym (ap (λ (x : Outcome). x.status) c.finish.ensures.status))
    (desk_whole g.B.Disk.state c.args.file.now from rest old new out put after c.desk_over-end.result
    c.desk_over-end.ensures.steps).mount

pub returns-clause-keeps : goal.returns-clause-keeps
returns-clause-keeps g c =
    let old = g.B.Disk.state c.args.bay.now in
    let new = g.B.Disk.state c.desk_over-end.new.bay in
    let from = g.I.Source.state c.args.input.now in
    let rest = g.I.Source.state c.desk_over-end.new.input in
    let out = g.O.Sink.state c.args.output.now in
    let put = g.O.Sink.state c.desk_over-end.new.output in
    let after = g.O.Sink.state c.finish.new.output in
    desk_always g.B.Disk.state c.args.file.now from rest old new out put after c.desk_over-end.result
    c.desk_over-end.ensures.steps c.finish.result.status
    (ap (λ (x : Outcome). x.status) c.finish.ensures.status) c.finish.ensures.line c.finish.ensures.later
    c.finish.ensures.calm c.finish.ensures.told

pub returns-clause-reads : goal.returns-clause-reads
returns-clause-reads g c = desk_reads (g.I.Source.state c.args.input.now)
    (g.I.Source.state c.desk_over-end.new.input) _ c.desk_over-end.result c.finish.result.status
    (ap (λ (x : Outcome). x.status) c.finish.ensures.status) c.desk_over-end.ensures.source

pub returns-clause-desks : goal.returns-clause-desks
returns-clause-desks g c = λ told input_told t m b events behind opens script.
    let old = g.B.Disk.state c.args.bay.now in
    let new = g.B.Disk.state c.desk_over-end.new.bay in
    let from = g.I.Source.state c.args.input.now in
    let rest = g.I.Source.state c.desk_over-end.new.input in
    let out = g.O.Sink.state c.args.output.now in
    let put = g.O.Sink.state c.desk_over-end.new.output in
    let after = g.O.Sink.state c.finish.new.output in
    let end = c.desk_over-end.result in
    let steps = c.desk_over-end.ensures.steps in
    let whole = desk_whole g.B.Disk.state c.args.file.now from rest old new out put after end steps in
    subst (λ n. DeskHolds (found_with t.chosen.block t m b) events behind n (devices old out)
    (devices new after))
    (sym (ap (λ (x : Outcome). x.status) c.finish.ensures.status))
    (desk_holds t m b old (g.met.B.Disk.lawful c.args.bay.now) told opens new
    (g.met.B.Disk.lawful c.desk_over-end.new.bay) whole.keeps.no_turn_back from rest input_told events behind
    script out put after end c.finish.ensures.line whole.keeps.causes.sink_told
    whole.keeps.causes.sink_later g.B.Disk.state c.args.file.now steps)
