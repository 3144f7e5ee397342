use Rattle.std.proofs.Common.{◌*◌, ◌≤◌, length}
use Rattle.reopen.proofs.EntryLaws.{PartsThrough}
use Rattle.reopen.proofs.log.take_parts.Given as goal

abbrev pub invariant-parts : goal.invariant-parts
invariant-parts g l =
    let D = g.D.Disk in
    (112 * 512 ≤ length l.buf)
    × PartsThrough l.parts l.cap l.items-index l.fn.progress l.progress l.fn.header l.header l.fn.load l.load
    (D.state l.fn.disk) (D.state l.disk)
