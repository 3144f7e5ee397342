use Rattle.std.proofs.Common.{arith}
use Rattle.table_check.proofs.NumberLaws.{caps_small, frame_is, grid_small}
use Rattle.table_check.proofs.frame.framed.Goals as goal

pub starts_of-starts-requires : goal.starts_of-starts-requires
starts_of-starts-requires c = record {
  divisor = omega arith;
  small = caps_small c.args.header c.requires.ranges;
}

pub taken_of-taken-requires : goal.taken_of-taken-requires
taken_of-taken-requires c = record { small = grid_small c.args.header c.requires.ranges }

pub invariant_of-result : goal.invariant_of-result
invariant_of-result c = record {
  shape = frame_is c.args.header c.requires.ranges c.args.classes c.args.k c.starts_of-starts.result
      c.taken_of-taken.result c.requires.few c.requires.low c.requires.high (omega arith) (omega arith)
      c.taken_of-taken.ensures.rows c.starts_of-starts.ensures c.taken_of-taken.ensures.sums;
}
