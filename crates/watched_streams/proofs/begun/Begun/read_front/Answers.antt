-- What needs no look at each byte: what follows bytes that are no request, and bytes of an object.
use Rattle.std.proofs.Common.{arith, rules, length, take}
use Rattle.watched_streams.proofs.BeginsLaws.{reads_none, reads_some}
use Rattle.watched_streams.proofs.begun.Begun.read_front.Goals as goal

pub returns-then-self-clause-reads : goal.returns-then-self-clause-reads
returns-then-self-clause-reads c =
    reads_none (take (length c.args.bytes.now) c.args.bytes.now) c.args.self.now (search rules)

pub returns-then-self-gt1-clause-reads : goal.returns-then-self-gt1-clause-reads
returns-then-self-gt1-clause-reads c =
    reads_some c.args.bytes.now c.min-n.result c.args.self.now (omega arith) (search rules) (omega arith)
