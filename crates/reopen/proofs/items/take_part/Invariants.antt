use Rattle.std.proofs.Common.{◌*◌, ◌-◌, ◌≤◌, length}
use Rattle.reopen.specs.Items.{item_len}
use Rattle.reopen.proofs.ItemLaws.{TakenSoFar}
use Rattle.reopen.proofs.items.take_part.Given as goal

abbrev pub invariant-pieces : goal.invariant-pieces
invariant-pieces g l =
    let D = g.D.Disk in
    (item_len l.items.part * 512 ≤ length l.buf)
    × TakenSoFar l.items l.cap l.done l.fn.progress l.progress l.fn.header l.header l.fn.load l.load
    (D.state l.fn.disk) (D.state l.disk)

abbrev pub decreases-pieces : goal.decreases-pieces
decreases-pieces g l = l.items.count - l.done
