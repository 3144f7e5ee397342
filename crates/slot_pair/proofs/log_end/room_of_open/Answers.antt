use Rattle.std.proofs.Common.{◌≡◌, arith, rules}
use Rattle.byte_ranges.specs.Ranges.{bytes_at}
use Rattle.slot_pair.proofs.LogEndLaws.{room_read}
use Rattle.slot_pair.proofs.log_end.room_of_open.Goals as goal

pub returns-clause-room : goal.returns-clause-room
returns-clause-room g c = λ told.
    let file = (g.D.Disk.state c.args.disk.now).file in
    let read : c.read.new.out ≡ bytes_at file c.args.at 40 = search rules in
    room_read file c.read.new.out c.args.top c.args.at c.saturating_sub-left.result c.room_below.result read
    c.if-start.false (omega arith) (omega arith) c.room_below.ensures
