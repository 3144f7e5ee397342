-- A store that was opened is over its disk, and an empty cache agrees with it.
use Rattle.std.proofs.Common.{rules}
use Rattle.cache_rows.proofs.trials.cached_on.Goals as goal

pub invariant_of-result : goal.invariant_of-result
invariant_of-result g c = record {
  ready = c.open.ensures.frame.stays.ready;
  over = search rules;
  coherent = search rules;
}
