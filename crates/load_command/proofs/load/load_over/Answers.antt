-- Where the file is mounted the dump is loaded, and else nothing is read or put.
use Rattle.std.proofs.Common.{◌≡◌, refl}
use Rattle.command_face.proofs.UnopenedLaws.{mount_untouched}
use Rattle.load_command.proofs.StepLaws.{loading_failed, loading_later}
use Rattle.load_command.proofs.load.load_over.Goals as goal

pub returns-in-Err-clause-loads : goal.returns-in-Err-clause-loads
returns-in-Err-clause-loads g c =
    let b = g.B.Disk.state in
    loading_failed c.args.k c.args.names (b c.args.bay.now) (b c.mount.new.self)
    (mount_untouched (b c.args.bay.now) (b c.mount.new.self) c.mount.ensures.frame
    c.mount.ensures.cause.later)
    (g.O.Sink.state c.args.output.now) (g.I.Source.state c.args.input.now) _ refl c.in-Err.ensures.cause.rose

pub returns-in-Ok-There-clause-loads : goal.returns-in-Ok-There-clause-loads
returns-in-Ok-There-clause-loads g c =
    let b = g.B.Disk.state in
    let i = g.I.Source.state in
    let o = g.O.Sink.state in
    loading_later c.args.k c.args.names (b c.args.bay.now) (b c.mount.new.self)
    (mount_untouched (b c.args.bay.now) (b c.mount.new.self) c.mount.ensures.frame
    c.mount.ensures.cause.later)
    (b c.load_mounted.new.disk) (o c.args.output.now) (o c.load_mounted.new.output) (i c.args.input.now)
    (i c.load_mounted.new.input) (c.load_mounted.new.input ≡ c.args.input.now) c.load_mounted.result
    c.in-Ok-There.ensures.cause.calm c.load_mounted.ensures.loads
