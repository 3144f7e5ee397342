use Rattle.std.proofs.Common.{◌≡◌, ◌∷◌, [], arith, ap, false, IsTrue, subst, sym}
use Rattle.std.specs.Prelude.{Bool, Err}
use Rattle.std.proofs.lemmas.Grind.{common_steps}
use Rattle.disk_face.specs.Streams.{SinkState}
use Rattle.ask_text.specs.Replies.{first_line}
use Rattle.ask_text.specs.declared.reply.Reply.TheVariants as head
use Rattle.store_model.specs.Answers.{refused_by, size_at}
use Rattle.store_model.specs.Readings.{asks_for, is_damaged_read, object_read, spot_read}
use Rattle.data_area.proofs.CauseLaws.{calm_disk, sink_cause_after}
use Rattle.store_model.specs.Connection.{state_of}
use Rattle.ask_session.specs.ReplyLines.{object_text}
use Rattle.ask_session.specs.Serving.{PutsText}
use Rattle.ask_session.proofs.AnswerLaws.{none_is}
use Rattle.ask_session.proofs.PutLaws.{puts_then}
use Rattle.ask_session.proofs.ReadReplyLaws.{found_damaged, found_fine}
use Rattle.ask_session.proofs.ReplyLaws.{no_disk_fault, sink_calm}
use Rattle.ask_session.proofs.StopLaws.{stop_disk, stop_kept, stop_only, stop_puts, stop_sink}
use Rattle.ask_session.proofs.reads.give.Goals as goal

pub returns-in-Ok-clause-puts : goal.returns-in-Ok-clause-puts
returns-in-Ok-clause-puts g c told sink =
    let s = c.args.store.now in
    let a = g.D.Disk.state c.args.disk.now in
    let m = c.args.moment in
    let name = c.args.name.now in
    let object = object_read (state_of s a.file) (asks_for m name) in
    let line : c.as_slice.result.now ≡ first_line (head.Data c.args.size) = grind (arith, common_steps) in
    let first = rw line at (((c.in-Ok.ensures.gives sink).front (none_is _ c.requires.served) told).all) in
    let still : IsTrue (g.O.Sink.state c.read_behind.new.sink).tells = grind
    (arith, c.in-Ok.ensures.sink_cause.told) in
    let fine = found_fine s a m name c.requires.can c.requires.served
    (state_of c.read_behind.new.self (g.D.Disk.state c.read_behind.new.disk).file) object
    (c.in-Ok.ensures.step c.requires.can.whole told) in
    subst (λ (b : Bool). PutsText (object_text b c.args.size object) (g.O.Sink.state c.args.output.now).given
    (g.O.Sink.state c.put_end.new.output).given c.put_end.result) (sym fine)
    (puts_then _ (10 ∷ []) _ _ _ c.put_end.result (λ fault none. absurd (cc)) first
    (c.put_end.ensures.put still))

pub returns-in-Ok-clause-disk_cause : goal.returns-in-Ok-clause-disk_cause
returns-in-Ok-clause-disk_cause g c =
    calm_disk (λ is. no_disk_fault c.put_end.result (sink_calm c.put_end.result c.put_end.ensures.only) is)
    (c.in-Ok.ensures.disk_cause.calm (λ is. absurd (cc)))

pub returns-in-Ok-clause-sink_cause : goal.returns-in-Ok-clause-sink_cause
returns-in-Ok-clause-sink_cause g c = sink_cause_after (c.in-Ok.ensures.sink_cause.calm (λ is. absurd (cc)))
    c.in-Ok.ensures.sink_cause.told c.put_end.ensures.cause

pub returns-in-Err : goal.returns-in-Err
returns-in-Err g c =
    let s = c.args.store.now in
    let a = g.D.Disk.state c.args.disk.now in
    let m = c.args.moment in
    let name = c.args.name.now in
    let r = asks_for m name in
    let object = object_read (state_of s a.file) r in
    let out = g.O.Sink.state c.args.output.now in
    let mid = g.O.Sink.state c.read_behind.new.sink in
    let after = g.O.Sink.state c.stop.new.output in
    let answer = c.in-Err.ensures.answer in
    let served = c.requires.served in
    let o = refused_by s r in
    let n = size_at (spot_read s r) in
    let x = c.in-Err.why in
    let line : c.as_slice.result.now ≡ first_line (head.Data c.args.size) = grind (arith, common_steps) in
    record {
      puts = λ told sink.
          let still : IsTrue mid.tells = grind (arith, c.in-Err.ensures.sink_cause.told) in
          stop_puts o n x served answer mid after c.stop.result c.stop.ensures
          (is_damaged_read (state_of s a.file) r) c.args.size object out
          (λ is. found_damaged s a m name c.requires.can served
          (state_of c.read_behind.new.self (g.D.Disk.state c.read_behind.new.disk).file)
          (let step = c.in-Err.ensures.step c.requires.can.whole told in rw is at step))
          (λ is. (c.in-Err.ensures.gives sink).damaged (ap Err is))
          (c.in-Err.ensures.clean c.requires.can.whole told) still
          (rw line at ((c.in-Err.ensures.gives sink).front (none_is _ served) told));
      kept = stop_kept o n x served answer mid after c.stop.result c.stop.ensures;
      only = stop_only o n x served answer mid after c.stop.result c.stop.ensures;
      store = c.in-Err.ensures.store;
      frame = c.in-Err.ensures.frame;
      disk_cause = stop_disk o n x served answer mid after c.stop.result c.stop.ensures
          c.in-Err.ensures.disk_cause;
      sink_cause = stop_sink o n x served answer mid after c.stop.result c.stop.ensures
          c.in-Err.ensures.sink_cause;
    }
