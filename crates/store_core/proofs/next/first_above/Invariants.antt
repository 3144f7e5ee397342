use Rattle.std.specs.Prelude.{◌-◌}
use Rattle.store_model.proofs.AboveLaws.{IsHalved}
use Rattle.store_core.proofs.next.first_above.Given as goal

abbrev pub invariant-halves : goal.invariant-halves
invariant-halves l = IsHalved l.bytes l.table.now l.low l.high

abbrev pub decreases-halves : goal.decreases-halves
decreases-halves l = l.high - l.low
