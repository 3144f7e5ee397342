use Rattle.std.proofs.Common.{arith, ap, length, length-append}
use Rattle.std.specs.Prelude.{codes}
use Rattle.std.specs.Fmt.{decimal}
use Rattle.std.proofs.lemmas.Fmt.{length-decimal-le}
use Rattle.dump_stream.proofs.gathering.put_line.Goals as goal
use Rattle.slot_codec.proofs.NameLemmas.{name_short}

pub push_number-requires : goal.push_number-requires
push_number-requires c = omega (
  arith,
  length-decimal-le 15 c.args.size (omega arith) (omega (arith, c.requires.small))
      (omega (arith, c.requires.small)),
  name_short c.as_bytes.result.now c.as_bytes.ensures.named,
  ap length c.push-3.ensures,
  length-append c.push-2.new.line.items (codes " "),
  ap length c.push-2.ensures,
  length-append c.push.new.line.items c.as_bytes.result.now,
  ap length c.push.ensures,
  length-append c.new-line.result.items (codes "put "),
  ap length c.new-line.ensures,
)

pub push-requires-4 : goal.push-requires-4
push-requires-4 c = omega (
  arith,
  length-decimal-le 15 c.args.size (omega arith) (omega (arith, c.requires.small))
      (omega (arith, c.requires.small)),
  name_short c.as_bytes.result.now c.as_bytes.ensures.named,
  ap length c.push_number.ensures,
  length-append c.push-3.new.line.items (decimal c.args.size),
  ap length c.push-3.ensures,
  length-append c.push-2.new.line.items (codes " "),
  ap length c.push-2.ensures,
  length-append c.push.new.line.items c.as_bytes.result.now,
  ap length c.push.ensures,
  length-append c.new-line.result.items (codes "put "),
  ap length c.new-line.ensures,
)
