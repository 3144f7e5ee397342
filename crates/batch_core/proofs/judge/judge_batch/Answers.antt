use Rattle.std.proofs.Common.{arith, sym}
use Rattle.batch_core.proofs.judge.judge_batch.Goals as goal

pub returns-in-Some : goal.returns-in-Some
returns-in-Some g c = record {
  changes = c.requires.batch.0;
  batch = c.requires.batch.1;
  misfit = sym (c.in-Some.ensures c.requires.batch.0 c.requires.batch.1);
}

pub judge_room-requires : goal.judge_room-requires
judge_room-requires g c = (
  omega arith,
  record {
    changes = c.requires.batch.0;
    batch = c.requires.batch.1;
    fits = sym (c.in-None.ensures c.requires.batch.0 c.requires.batch.1);
  },
)

pub returns-in-None : goal.returns-in-None
returns-in-None g c = c.judge_room.ensures
