use Rattle.ask_session.proofs.ReadReplyLaws.{cut_list, listed_gives}
use Rattle.ask_session.proofs.reads.serve_list.Goals as goal

pub returns-in-Ok : goal.returns-in-Ok
returns-in-Ok g c =
    listed_gives c.args.store.now (g.D.Disk.state c.args.disk.now)
    c.can_read.ensures
    c.live.result c.live.ensures (g.O.Sink.state c.args.output.now)
    (g.O.Sink.state c.say.new.output)
    (g.O.Sink.state c.put_list.new.output) c.say.result c.put_list.result c.in-Ok.is
    c.say.ensures.put c.say.ensures.cause c.put_list.ensures.kept c.put_list.ensures.puts
    c.put_list.ensures.only
    c.put_list.ensures.cause

pub returns-in-Err : goal.returns-in-Err
returns-in-Err g c =
    cut_list c.args.store.now (g.D.Disk.state c.args.disk.now)
    c.can_read.ensures
    c.live.result c.live.ensures (g.O.Sink.state c.args.output.now)
    (g.O.Sink.state c.say.new.output)
    c.in-Err.end c.in-Err.ensures.only c.in-Err.ensures.put c.in-Err.ensures.cause
