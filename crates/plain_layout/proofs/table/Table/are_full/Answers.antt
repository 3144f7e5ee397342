use Rattle.std.proofs.Common.{arith}
use Rattle.std.proofs.lemmas.Bool.{false≢true}
use Rattle.segment_layout.proofs.StepLaws.{shifted_twice}
use Rattle.plain_layout.proofs.table.Table.are_full.Goals as goal

pub returns-then-taken-from : goal.returns-then-taken-from
returns-then-taken-from c = (
  λ no. absurd (false≢true no),
  λ all. absurd (omega (
    arith,
    all c.between.i c.if-c-i.true c.between-test.true,
    shifted_twice c.args.c c.requires.class,
    c.if-taken-from.true,
    c.taken.ensures.sum,
    c.from.ensures,
    c.buffer.ensures,
    c.from-then-c-i.ensures,
  )),
)
