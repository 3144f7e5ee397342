use Rattle.std.proofs.Common.{arith, ◌∙◌}
use Rattle.std.proofs.lemmas.List.{length-set}
use Rattle.work_session.proofs.PatternLaws.{more_bytes}
use Rattle.work_session.proofs.pattern.counting.Goals as goal

pub bytes-preserved : goal.bytes-preserved
bytes-preserved c = record {
  long = length-set c.bytes.bytes.items c.bytes.j _ ∙ c.bytes.invariant.long;
  each = more_bytes c.bytes.bytes.items c.bytes.j (omega (arith, c.bytes.invariant.long))
      c.bytes.invariant.each;
}
