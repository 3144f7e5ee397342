use Rattle.std.proofs.Common.{◌≡◌, ◌+◌, ◌-◌, ◌++◌, Err, IsTrue, arith, length, rules, take}
use Rattle.std.proofs.lemmas.List.{length-take-le}
use Rattle.byte_ranges.specs.Ranges.{bytes_at}
use Rattle.disk_face.specs.Streams.{Puts}
use Rattle.store_model.proofs.PutsLaws.{parts_behind, puts_after, puts_as, puts_cut}
use Rattle.store_core.proofs.copy.put_behind.Goals as goal

pub returns-clause-put : goal.returns-clause-put
returns-clause-put g c told sink_told =
    let n = c.min-n.result in
    let file = (g.D.Disk.state c.args.disk.now).file in
    let head = c.args.head.now in
    let len : length (take n c.args.buf.now) ≡ n = length-take-le n c.args.buf.now (omega arith) in
    let frame = c.in_ok-put_first.ensures.frame in
    let here : IsTrue (g.D.Disk.state c.put_first.new.disk).tells = grind (arith, frame.stays.told) in
    let there : IsTrue (g.O.Sink.state c.put_first.new.sink).tells =
    grind (arith, c.in_ok-put_first.ensures.sink_cause.told) in
    let first = rw len at ((c.in_ok-put_first.ensures.put told sink_told).all) in
    let second = rw (frame.same_file told) at (c.put_bytes.ensures.put here there) in
    puts_as (head ++ bytes_at file c.args.at n ++ bytes_at file (c.args.at + n) (c.args.size - n))
    (head ++ bytes_at file c.args.at c.args.size) (g.O.Sink.state c.args.sink.now).given
    (g.O.Sink.state c.put_bytes.new.sink).given c.put_bytes.result
    (parts_behind head file c.args.at n c.args.size (omega arith))
    (puts_after (head ++ bytes_at file c.args.at n) (bytes_at file (c.args.at + n) (c.args.size - n))
    (g.O.Sink.state c.args.sink.now).given (g.O.Sink.state c.put_first.new.sink).given
    (g.O.Sink.state c.put_bytes.new.sink).given c.put_bytes.result first second)

pub returns-in_err-put_first-clause-put : goal.returns-in_err-put_first-clause-put
returns-in_err-put_first-clause-put g c told sink_told =
    let n = c.min-n.result in
    let file = (g.D.Disk.state c.args.disk.now).file in
    let head = c.args.head.now in
    let len : length (take n c.args.buf.now) ≡ n = length-take-le n c.args.buf.now (omega arith) in
    let first = rw len at (c.in_err-put_first.ensures.put told sink_told) in
    let cut : Puts {T = Unit {0}} (g.O.Sink.state c.args.sink.now).given
    (g.O.Sink.state c.put_first.new.sink).given
    (head ++ bytes_at file c.args.at n ++ bytes_at file (c.args.at + n) (c.args.size - n))
    (Err c.in_err-put_first.field-0.0) =
    puts_cut (head ++ bytes_at file c.args.at n) (bytes_at file (c.args.at + n) (c.args.size - n))
    (g.O.Sink.state c.args.sink.now).given (g.O.Sink.state c.put_first.new.sink).given
    c.in_err-put_first.field-0.0 c.in_err-put_first.field-0.0 first in
    let all = puts_as (head ++ bytes_at file c.args.at n ++ bytes_at file (c.args.at + n) (c.args.size - n))
    (head ++ bytes_at file c.args.at c.args.size) (g.O.Sink.state c.args.sink.now).given
    (g.O.Sink.state c.put_first.new.sink).given (Err c.in_err-put_first.field-0.0)
    (parts_behind head file c.args.at n c.args.size (omega arith)) cut in
    search rules
