-- What was read so far, and the first of the rest.
use Rattle.std.proofs.Common.{arith}
use Rattle.watched_streams.proofs.BeginsLaws.{reads_on}
use Rattle.watched_streams.proofs.begun.Begun.read.Goals as goal

pub bytes-preserved : goal.bytes-preserved
bytes-preserved c = (
  omega arith,
  reads_on c.args.piece.now c.bytes.at c.read_front-at.result c.args.self.now c.bytes.self
      c.read_front-at.new.self c.bytes.invariant.1 c.read_front-at.ensures.reads,
)
