use Rattle.std.proofs.Common.{◌*◌, ◌-◌, ◌≤◌, length}
use Rattle.reopen.proofs.ThroughLaws.{LogThrough}
use Rattle.reopen.proofs.log.read_log.Given as goal

abbrev pub invariant-entries : goal.invariant-entries
invariant-entries g l =
    let D = g.D.Disk in
    (112 * 512 ≤ length l.buf)
    × LogThrough l.cap l.top l.at l.end l.fn.header l.header l.fn.load l.load (D.state l.fn.disk)
    (D.state l.disk)

abbrev pub decreases-entries : goal.decreases-entries
decreases-entries g l = l.top - l.end
