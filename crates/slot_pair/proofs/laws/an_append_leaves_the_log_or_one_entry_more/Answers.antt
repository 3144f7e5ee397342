use Rattle.slot_pair.proofs.LogLeftLaws.{log_appended, log_left}
use Rattle.slot_pair.proofs.laws.an_append_leaves_the_log_or_one_entry_more.Goals as goal

pub returns : goal.returns
returns g c = record {
  left = λ log e base a b. log_left log e base (g.D.Disk.state a) (g.D.Disk.state b);
  appended = λ log e a b. log_appended log e (g.D.Disk.state a) (g.D.Disk.state b);
}
