use Rattle.std.proofs.Common.{◌≡◌, ◌≤◌}
use Rattle.std.specs.Prelude.{vec_capacity, vec_len}
use Rattle.table_check.specs.Orders.{has_bytes, passing}
use Rattle.table_check.proofs.order.list_objects.Given as goal

abbrev pub invariant-ranks : goal.invariant-ranks
invariant-ranks l = record {
  listed : l.order.items ≡ passing (has_bytes l.table) l.rank;
  few : vec_len l.order ≤ l.rank;
  capacity : vec_capacity l.order ≡ vec_capacity l.initial.order;
}
