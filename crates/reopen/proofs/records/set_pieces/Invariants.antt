use Rattle.std.proofs.Common.{◌*◌, ◌-◌, ◌≤◌, length}
use Rattle.reopen.specs.Records.{ReadThrough, rows}
use Rattle.reopen.proofs.records.set_pieces.Given as goal

abbrev pub invariant-pieces : goal.invariant-pieces
invariant-pieces g l =
    let D = g.D.Disk in
    (l.len * 512 ≤ length l.buf)
    × ReadThrough (rows l.version l.len l.at l.count) l.done l.last l.fn.load l.load (D.state l.fn.disk)
    (D.state l.disk)

abbrev pub decreases-pieces : goal.decreases-pieces
decreases-pieces g l = l.count - l.done
