use Rattle.std.proofs.Common.{ℕ, ◌<◌, get_or}
use Rattle.span_math.specs.Spans.{IsApart}
use Rattle.span_math.specs.declared.span.Span.{Span}
use Rattle.span_math.proofs.meeting.any_meets.Given as goal

abbrev pub invariant-loop-other : goal.invariant-loop-other
invariant-loop-other l = (k : ℕ) (d : Span) → k < l.other-index → IsApart (get_or l.list k d) l.s
