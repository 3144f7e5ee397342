-- Where the file is empty the dump is loaded.
use Rattle.std.proofs.Common.{◌≡◌}
use Rattle.load_command.proofs.StepLaws.{loading_later}
use Rattle.load_command.proofs.load.load_mounted.Goals as goal
use Rattle.disk_face.proofs.FrameLaws.{untouched}

pub returns-clause-loads : goal.returns-clause-loads
returns-clause-loads g c =
    let s = g.D.Disk.state in
    let i = g.I.Source.state in
    let o = g.O.Sink.state in
    loading_later c.args.k c.args.names (s c.args.disk.now) (s c.length_of.new.disk)
    (untouched c.length_of.ensures.frame) (s c.load_empty.new.disk) (o c.args.output.now)
    (o c.load_empty.new.output) (i c.args.input.now) (i c.load_empty.new.input)
    (c.load_empty.new.input ≡ c.args.input.now) c.load_empty.result c.in-Ok.ensures.cause.calm
    c.load_empty.ensures.loads
