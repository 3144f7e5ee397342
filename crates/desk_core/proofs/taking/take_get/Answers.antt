use Rattle.std.proofs.Common.{Ok, Err}
use Rattle.map_model.specs.Requests as ask
use Rattle.desk_core.proofs.ReadLaws.{cut_take, gives_take, reading_get}
use Rattle.desk_core.proofs.taking.take_get.Goals as goal

pub returns-in-Ok-serve_get : goal.returns-in-Ok-serve_get
returns-in-Ok-serve_get g c =
    gives_take c.args.session (ask.get c.args.name.now) (reading_get c.args.name.now)
    c.args.served.now.store c.args.served.now.session
    (g.D.Disk.state c.args.disk.now) c.requires.over c.requires.whole
    (g.D.Disk.state c.serve_get.new.disk) (g.O.Sink.state c.args.output.now)
    (g.O.Sink.state c.put_for.new.output) (g.O.Sink.state c.serve_get.new.output)
    c.serve_get.new.store (Ok c.in-Ok-serve_get.field-0)
    (g.met.D.Disk.lawful c.args.disk.now) c.in-Ok.ensures c.in-Ok-serve_get.ensures

pub returns-in-Err-serve_get : goal.returns-in-Err-serve_get
returns-in-Err-serve_get g c =
    gives_take c.args.session (ask.get c.args.name.now) (reading_get c.args.name.now)
    c.args.served.now.store c.args.served.now.session
    (g.D.Disk.state c.args.disk.now) c.requires.over c.requires.whole
    (g.D.Disk.state c.serve_get.new.disk) (g.O.Sink.state c.args.output.now)
    (g.O.Sink.state c.put_for.new.output) (g.O.Sink.state c.serve_get.new.output)
    c.serve_get.new.store (Err c.in-Err-serve_get.end)
    (g.met.D.Disk.lawful c.args.disk.now) c.in-Ok.ensures c.in-Err-serve_get.ensures

pub returns-in-Err : goal.returns-in-Err
returns-in-Err g c =
    cut_take c.args.session (ask.get c.args.name.now) (reading_get c.args.name.now) c.args.served.now.store
    c.args.served.now.session
    (g.D.Disk.state c.args.disk.now) c.requires.over c.requires.whole (g.O.Sink.state c.args.output.now)
    (g.O.Sink.state c.put_for.new.output) c.in-Err.end c.in-Err.ensures c.requires.ready
