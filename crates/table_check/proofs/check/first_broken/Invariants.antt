use Rattle.std.proofs.Common.{◌≡◌}
use Rattle.std.specs.Prelude.{vec_capacity}
use Rattle.table_check.specs.Firsts.{HoldBelow}
use Rattle.table_check.specs.Placed.{placed}
use Rattle.table_check.proofs.check.first_broken.Given as goal

abbrev pub invariant-rules : goal.invariant-rules
invariant-rules l = record {
  hold : HoldBelow l.number (placed l.table l.frame);
  capacity : vec_capacity l.order ≡ vec_capacity l.initial.order;
}
