use Rattle.reopen.proofs.GapLaws.{making_before}
use Rattle.reopen.proofs.behind.take_log.Goals as goal

pub read_log-requires-clause-making : goal.read_log-requires-clause-making
read_log-requires-clause-making g c =
    making_before c.cap.result c.args.found.now c.args.header.now c.args.load.now c.requires.found c.cap.ensures
    c.requires.count c.requires.names c.count.ensures.table
