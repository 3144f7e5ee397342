-- What the upgrade left and put, and the line of its end after it.
use Rattle.std.proofs.Common.{◌≡◌, ap, false, subst, sym}
use Rattle.command_face.specs.Mounting.{IsMounted}
use Rattle.command_face.specs.Refusing.{IsRefused}
use Rattle.command_face.specs.declared.outcome.Outcome.{Outcome}
use Rattle.command_face.specs.declared.status.TheConstants.{DISK_FAILED, NO_FILE}
use Rattle.command_face.proofs.EndedLaws.{ended_by_line}
use Rattle.disk_face.specs.Devices.{devices}
use Rattle.served_file.specs.Served.{found_with}
use Rattle.served_file.proofs.StepsLaws.{never_served}
use Rattle.upgrade_command.specs.Doing.{IsUpgrade}
use Rattle.upgrade_command.specs.Upgrading.{UpgradeHolds}
use Rattle.upgrade_command.proofs.AlwaysLaws.{upgrade_always, upgrade_whole}
use Rattle.upgrade_command.proofs.HoldsLaws.{upgrade_holds}
use Rattle.upgrade_command.proofs.upgrade.upgrade_file.Goals as goal

pub returns-clause-upgrades : goal.returns-clause-upgrades
returns-clause-upgrades g c = λ told t m b opens.
    let old = g.B.Disk.state c.args.bay.now in
    let new = g.B.Disk.state c.upgrade_over-end.new.bay in
    let out = g.O.Sink.state c.args.output.now in
    let put = g.O.Sink.state c.upgrade_over-end.new.output in
    let after = g.O.Sink.state c.finish.new.output in
    let end = c.upgrade_over-end.result in
    let steps = c.upgrade_over-end.ensures in
    let whole = upgrade_whole g.B.Disk.state c.args.file.now old new out put after end steps in
    subst (λ n. UpgradeHolds (found_with t.chosen.block t m b) n (devices old out) (devices new after))
    (sym (ap (λ (x : Outcome). x.status) c.finish.ensures.status))
    (upgrade_holds t m b old (g.met.B.Disk.lawful c.args.bay.now) told opens new out put after end
    c.finish.ensures.line whole.keeps.causes.sink_told whole.keeps.causes.sink_later g.B.Disk.state
    c.args.file.now steps)

pub returns-clause-refused : goal.returns-clause-refused
returns-clause-refused g c = λ told never.
    let old = g.B.Disk.state c.args.bay.now in
    let new = g.B.Disk.state c.upgrade_over-end.new.bay in
    let out = g.O.Sink.state c.args.output.now in
    let put = g.O.Sink.state c.upgrade_over-end.new.output in
    let after = g.O.Sink.state c.finish.new.output in
    let end = c.upgrade_over-end.result in
    let refused = never_served g.B.Disk.state c.args.file.now IsUpgrade (devices old out) (devices new put)
    end told never c.upgrade_over-end.ensures in
    ended_by_line (IsRefused old.file) out put after end c.finish.result.status
    (ap (λ (x : Outcome). x.status) c.finish.ensures.status) refused.0 refused.1 c.finish.ensures.line

pub returns-clause-mounted : goal.returns-clause-mounted
returns-clause-mounted g c =
    let old = g.B.Disk.state c.args.bay.now in
    let new = g.B.Disk.state c.upgrade_over-end.new.bay in
    let out = g.O.Sink.state c.args.output.now in
    let put = g.O.Sink.state c.upgrade_over-end.new.output in
    let after = g.O.Sink.state c.finish.new.output in
    subst (λ n. IsMounted c.args.file.now false new.last_mount (n ≡ DISK_FAILED) (n ≡ NO_FILE))
    (sym (ap (λ (x : Outcome). x.status) c.finish.ensures.status))
    (upgrade_whole g.B.Disk.state c.args.file.now old new out put after c.upgrade_over-end.result
    c.upgrade_over-end.ensures).mount

pub returns-clause-keeps : goal.returns-clause-keeps
returns-clause-keeps g c =
    let old = g.B.Disk.state c.args.bay.now in
    let new = g.B.Disk.state c.upgrade_over-end.new.bay in
    let out = g.O.Sink.state c.args.output.now in
    let put = g.O.Sink.state c.upgrade_over-end.new.output in
    let after = g.O.Sink.state c.finish.new.output in
    upgrade_always g.B.Disk.state c.args.file.now old new out put after c.upgrade_over-end.result
    c.upgrade_over-end.ensures c.finish.result.status
    (ap (λ (x : Outcome). x.status) c.finish.ensures.status) c.finish.ensures.line c.finish.ensures.later
    c.finish.ensures.calm c.finish.ensures.told
