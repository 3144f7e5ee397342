use Rattle.std.proofs.Common.{sym, subst}
use Rattle.disk_face.specs.Devices.{devices}
use Rattle.store_model.specs.Answers.{refused_by, size_at}
use Rattle.store_model.specs.Connection.{StoreValue, state_of}
use Rattle.store_model.specs.Readings.{asks_for, is_damaged_read, object_read, spot_read}
use Rattle.ask_session.specs.Serving.{GivesReply}
use Rattle.store_model.proofs.AnsweredLaws.{number_refused, number_served}
use Rattle.ask_session.proofs.ReadReplyLaws.{found_gives, object_long, object_served, refused_gives}
use Rattle.ask_session.proofs.reads.serve_object.Goals as goal

pub returns-in-Ok : goal.returns-in-Ok
returns-in-Ok g c =
    let s = c.args.store.now in
    let m = c.args.moment in
    let name = c.args.name.now in
    let a = g.D.Disk.state c.args.disk.now in
    let h = c.requires.can in
    let served = (number_served (refused_by s (asks_for m name)) (size_at (spot_read s (asks_for m name)))
    c.in-Ok.size c.in-Ok.ensures).0 in
    subst (λ (x : StoreValue). GivesReply (asks_for m name) s x
    (devices a (g.O.Sink.state c.args.output.now))
    (devices (g.D.Disk.state c.give.new.disk) (g.O.Sink.state c.give.new.output)) c.give.result)
    (sym c.give.ensures.store)
    (found_gives (asks_for m name) s a (g.D.Disk.state c.give.new.disk)
    (is_damaged_read (state_of s a.file) (asks_for m name))
    (object_read (state_of s a.file) (asks_for m name)) c.in-Ok.size
    (g.O.Sink.state c.args.output.now)
    (g.O.Sink.state c.give.new.output) c.give.result (λ told. object_served s a m name h served)
    (object_long s a m name c.in-Ok.size h c.in-Ok.ensures) c.give.ensures.frame c.give.ensures.kept
    c.give.ensures.puts c.give.ensures.only c.give.ensures.disk_cause c.give.ensures.sink_cause)

pub returns-in-Err : goal.returns-in-Err
returns-in-Err g c =
    let s = c.args.store.now in
    let m = c.args.moment in
    let name = c.args.name.now in
    let a = g.D.Disk.state c.args.disk.now in
    refused_gives (asks_for m name) s a (g.O.Sink.state c.args.output.now)
    (g.O.Sink.state c.put_answer.new.output)
    c.in-Err.why c.answer_of.result c.put_answer.result
    c.requires.can
    (number_refused (refused_by s (asks_for m name)) (size_at (spot_read s (asks_for m name))) c.in-Err.why
    c.in-Err.ensures)
    c.answer_of.ensures
    c.put_answer.ensures
