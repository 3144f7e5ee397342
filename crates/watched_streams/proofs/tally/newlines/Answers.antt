-- The newlines are counted from the last byte on.
use Rattle.std.proofs.Common.{arith, rules}
use Rattle.std.specs.Prelude.{true, false}
use Rattle.watched_streams.proofs.TallyLemmas.{lines_before, lines_none}
use Rattle.watched_streams.proofs.tally.newlines.Goals as goal

pub bytes-init : goal.bytes-init
bytes-init c = (omega arith, omega arith, lines_none c.args.bytes.now)

pub overflow_add-found : goal.overflow_add-found
overflow_add-found c = omega arith

pub bytes-preserved-then-bytes-at-eq10 : goal.bytes-preserved-then-bytes-at-eq10
bytes-preserved-then-bytes-at-eq10 c =
    let step = lines_before c.args.bytes.now c.bytes.at true (omega arith) (omega arith) (search rules) in
    (omega arith, omega arith, omega (arith, step))

pub bytes-preserved : goal.bytes-preserved
bytes-preserved c =
    let step = lines_before c.args.bytes.now c.bytes.at false (omega arith) (omega arith) (search rules) in
    (omega arith, omega arith, omega (arith, step))
