use Rattle.std.proofs.Common.{length, ap, arith}
use Rattle.extent_table.proofs.DigestLemmas.{agree_all}
use Rattle.extent_table.proofs.digests.copy_changed.Goals as goal

pub returns-clause-same : goal.returns-clause-same
returns-clause-same c = agree_all c.keys.invariant.agree (λ i lt. c.keys.invariant.done i (omega (
  arith,
  lt,
  ap length c.changed_keys-keys.ensures.value,
  c.keys-test.false,
  c.keys.auto.key-index-end,
)))
