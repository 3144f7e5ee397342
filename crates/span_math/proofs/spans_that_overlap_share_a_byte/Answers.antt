use Rattle.span_math.proofs.SpanLaws.{shared_byte}
use Rattle.span_math.proofs.spans_that_overlap_share_a_byte.Goals as goal

pub returns : goal.returns
returns c = shared_byte
