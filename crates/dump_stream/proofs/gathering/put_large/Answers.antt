use Rattle.std.proofs.Common.{arith, rules, ◌≡◌, ◌++◌, IsTrue, Err}
use Rattle.std.specs.Prelude.{codes}
use Rattle.byte_ranges.specs.Ranges.{bytes_at}
use Rattle.dump_stream.proofs.PutLaws.{object_put, stops_in_bytes, stops_in_line}
use Rattle.dump_stream.proofs.SoundLaws.{put_sound}
use Rattle.dump_stream.proofs.gathering.put_large.Goals as goal

pub returns-in_err-put_whole-clause-puts : goal.returns-in_err-put_whole-clause-puts
returns-in_err-put_whole-clause-puts g c = λ told.
    let bytes = bytes_at (g.D.Disk.state c.args.disk.now).file c.args.at c.args.size in
    let line = c.args.line.now in
    let is : c.from_residual-in_err-put_whole.result ≡ Err c.in_err-put_whole.field-0.0 = search rules in
    put_sound c.args.digest bytes (line ++ (bytes ++ codes "\n")) (g.O.Sink.state c.args.output.now)
    (g.O.Sink.state c.put_whole.new.sink) (c.in_ok-check_digest.ensures.sound told)
    c.from_residual-in_err-put_whole.result (rw (← is) at c.in_err-put_whole.ensures.only.0)
    (λ sink_told. rw is (record {
      all = tt;
      front = stops_in_line (g.O.Sink.state c.args.output.now).given line bytes
          (g.O.Sink.state c.put_whole.new.sink).given (c.in_err-put_whole.ensures.put sink_told).front;
    }))

pub returns-in_err-put_object_bytes-clause-puts : goal.returns-in_err-put_object_bytes-clause-puts
returns-in_err-put_object_bytes-clause-puts g c = λ told.
    let bytes = bytes_at (g.D.Disk.state c.args.disk.now).file c.args.at c.args.size in
    let line = c.args.line.now in
    let is : c.from_residual-in_err-put_object_bytes.result ≡ Err c.in_err-put_object_bytes.field-0.0 =
    search rules in
    let here : IsTrue (g.D.Disk.state c.check_digest.new.disk).tells =
    grind (arith, c.check_digest.ensures.frame.stays.told) in
    let there : IsTrue (g.O.Sink.state c.args.output.now).tells
    → IsTrue (g.O.Sink.state c.put_whole.new.sink).tells =
    λ sink_told. grind (arith, c.put_whole.ensures.cause.told) in
    put_sound c.args.digest bytes (line ++ (bytes ++ codes "\n")) (g.O.Sink.state c.args.output.now)
    (g.O.Sink.state c.put_object_bytes.new.output) (c.in_ok-check_digest.ensures.sound told)
    c.from_residual-in_err-put_object_bytes.result (rw (← is) at c.in_err-put_object_bytes.ensures.only)
    (λ sink_told. rw is (record {
      all = tt;
      front = stops_in_bytes (g.O.Sink.state c.args.output.now).given line bytes
          (g.O.Sink.state c.put_whole.new.sink).given (c.in_ok-put_whole.ensures.put sink_told).all
          (g.O.Sink.state c.put_object_bytes.new.output).given
          (rw (c.check_digest.ensures.frame.same_file told)
          at (c.in_err-put_object_bytes.ensures.put here (there sink_told)).front);
    }))

pub returns-clause-puts : goal.returns-clause-puts
returns-clause-puts g c = λ told.
    let bytes = bytes_at (g.D.Disk.state c.args.disk.now).file c.args.at c.args.size in
    let line = c.args.line.now in
    let here : IsTrue (g.D.Disk.state c.check_digest.new.disk).tells =
    grind (arith, c.check_digest.ensures.frame.stays.told) in
    let there : IsTrue (g.O.Sink.state c.args.output.now).tells
    → IsTrue (g.O.Sink.state c.put_whole.new.sink).tells =
    λ sink_told. grind (arith, c.put_whole.ensures.cause.told) in
    put_sound c.args.digest bytes (line ++ (bytes ++ codes "\n")) (g.O.Sink.state c.args.output.now)
    (g.O.Sink.state c.put_whole-2.new.sink) (c.in_ok-check_digest.ensures.sound told)
    c.put_whole-2.result c.put_whole-2.ensures.only.0
    (λ sink_told.
    let last : IsTrue (g.O.Sink.state c.put_object_bytes.new.output).tells =
    grind (arith, c.put_object_bytes.ensures.causes.sink_cause.told, there sink_told) in
    object_put (g.O.Sink.state c.args.output.now).given line bytes
    (g.O.Sink.state c.put_whole.new.sink).given (c.in_ok-put_whole.ensures.put sink_told).all
    (g.O.Sink.state c.put_object_bytes.new.output).given (g.O.Sink.state c.put_whole-2.new.sink).given
    c.put_whole-2.result
    (rw (c.check_digest.ensures.frame.same_file told)
    at (c.in_ok-put_object_bytes.ensures.put here (there sink_told)).all)
    (c.put_whole-2.ensures.put last))
