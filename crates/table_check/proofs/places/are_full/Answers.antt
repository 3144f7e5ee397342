use Rattle.std.proofs.Common.{arith}
use Rattle.std.proofs.lemmas.Bool.{false≢true}
use Rattle.segment_layout.proofs.StepLaws.{shifted_twice}
use Rattle.table_check.proofs.places.are_full.Goals as goal

pub returns-then-taken-c : goal.returns-then-taken-c
returns-then-taken-c c = (
  λ no. absurd (false≢true no),
  λ all. absurd (omega (
    arith,
    all c.between.i c.if-c-i.true c.between-test.true,
    shifted_twice c.args.c c.requires.class,
    c.if-taken-c.true,
    c.taken.ensures.same,
    c.buffer.ensures.same,
  )),
)
