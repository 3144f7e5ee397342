use Rattle.std.proofs.Common.{arith, nat_le, ◌^◌, ℕ, Bool, true, false}
use Rattle.std.proofs.lemmas.Bool.{le-leb, lt-leb}
use Rattle.segment_layout.proofs.StepLaws.{shifted}
use Rattle.plain_layout.proofs.SumSteps.{count_yes, count_no}
use Rattle.plain_layout.proofs.class.class_of.Goals as goal
use Rattle.plain_layout.proofs.class.class_of.Goals.{then-c-size, else-c-size}

pub powers-preserved : goal.powers-preserved
powers-preserved c =
    let size = c.args.size in
    let p : ℕ → Bool = λ d. nat_le (2 ^ d) size in
    let e = shifted c.powers.c c.powers-test.true in
    elim c.if-c-size.branch [
      | then-c-size w ↦
          let some = le-leb (2 ^ c.powers.c) size (omega (arith, e, w.if-c-size.true)) in
          let more = count_yes p 32 c.powers.c c.powers-test.true some in
          record { count = omega (arith, more, w.powers-is, c.powers.invariant.count); few = omega arith }
      | else-c-size w ↦
          let none = lt-leb (2 ^ c.powers.c) size (omega (arith, e, w.if-c-size.false)) in
          let same = count_no p 32 c.powers.c c.powers-test.true none in
          record { count = omega (arith, same, w.powers-is, c.powers.invariant.count); few = omega arith }
    ]
