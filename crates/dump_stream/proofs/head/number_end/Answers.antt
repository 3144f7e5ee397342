-- The first byte below the digits ends the number.
use Rattle.dump_stream.proofs.ReadLaws.{end_found, end_missed}
use Rattle.dump_stream.proofs.head.number_end.Goals as goal

pub returns-in-Some : goal.returns-in-Some
returns-in-Some c = end_found c.args.text.now c.in-Some.at cc

pub returns-in-None : goal.returns-in-None
returns-in-None c = end_missed c.args.text.now cc
