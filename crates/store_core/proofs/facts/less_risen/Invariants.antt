use Rattle.std.specs.Prelude.{◌≡◌, ◌-◌}
use Rattle.byte_ranges.specs.Lists.{sum_below}
use Rattle.flush_run.specs.Calls.{row_rise}
use Rattle.store_core.proofs.facts.less_risen.Given as goal

abbrev pub invariant-classes : goal.invariant-classes
invariant-classes g l = l.left ≡ l.most - sum_below l.c (row_rise l.old l.new)
