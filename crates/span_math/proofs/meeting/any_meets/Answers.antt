use Rattle.std.proofs.Common.{arith, refl, sym}
use Rattle.span_math.proofs.meeting.any_meets.Goals as goal

-- the element at which the loop stopped
pub returns-then-meets-clause-shares : goal.returns-then-meets-clause-shares
returns-then-meets-clause-shares c = (
  λ _. (
    c.loop-other.other-index,
    c.other-item.result,
    omega arith,
    sym c.other-item.is,
    c.if-meets.ensures.shares.0 refl,
  ),
  λ _. refl,
)
