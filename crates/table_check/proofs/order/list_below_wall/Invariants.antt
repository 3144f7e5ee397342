use Rattle.std.proofs.Common.{◌≡◌, ◌≤◌}
use Rattle.std.specs.Prelude.{vec_capacity, vec_len}
use Rattle.table_rules.specs.Tables.{is_below_wall}
use Rattle.table_check.specs.Orders.{passing}
use Rattle.table_check.specs.Placed.{placed, ranked}
use Rattle.table_check.proofs.order.list_below_wall.Given as goal

abbrev pub invariant-ranks : goal.invariant-ranks
invariant-ranks l = record {
  listed : l.order.items ≡ passing (λ i. is_below_wall (placed l.table l.frame) (ranked l.table i)) l.rank;
  few : vec_len l.order ≤ l.rank;
  capacity : vec_capacity l.order ≡ vec_capacity l.initial.order;
}
