use Rattle.std.proofs.Common.{arith}
use Rattle.table_check.proofs.LiveLaws.{all_done}
use Rattle.table_check.proofs.balance.add_to_buffers.Goals as goal

pub returns-then-s-buffer_start-clause-added : goal.returns-then-s-buffer_start-clause-added
returns-then-s-buffer_start-clause-added c =
    all_done c.args.frame.now c.args.s c.buffers.j
    (omega (arith, c.if-s-buffer_start.true, c.buffer_start.ensures.same)) c.args.buffers.now
    c.buffers.buffers c.buffers.invariant
