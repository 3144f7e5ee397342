use Rattle.std.proofs.Common.{◌≡◌, Err, rules}
use Rattle.file_commands.proofs.DumpedLaws.{dumps_unmounted}
use Rattle.file_commands.proofs.command.dump_from.Goals as goal

pub returns-in_err-mount_there-clause-dumps : goal.returns-in_err-mount_there-clause-dumps
returns-in_err-mount_there-clause-dumps g c = λ told.
    let why = c.in_err-mount_there.field-0.0 in
    let is : c.from_residual.result ≡ Err why = search rules in
    rw is (dumps_unmounted c.args.file.now (g.B.Disk.state c.args.bay.now)
    (g.B.Disk.state c.mount_there.new.bay) (g.B.Disk.state c.args.bay.now).file
    (g.O.Sink.state c.args.output.now) why c.in_err-mount_there.ensures.absent)
