-- What came of the answer of the batcher.
use Rattle.std.specs.Prelude.{Ok}
use Rattle.std.proofs.Common.{arith}
use Rattle.std.proofs.lemmas.Grind.{common_steps}
use Rattle.batch_command.proofs.batch.apply_text.Goals as goal

pub returns-in-Ok : goal.returns-in-Ok
returns-in-Ok g c = record {
  new = c.apply.new.self;
  result = Ok c.in-Ok.kept;
  applies = c.in-Ok.ensures;
  ends = record {
    puts = grind (arith, common_steps);
    only = c.put_whole.ensures.only;
    cause = c.put_whole.ensures.cause;
    told = c.put_whole.ensures.told;
  };
}
