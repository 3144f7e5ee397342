-- What was taken is no longer than the line that stands in front, and is that at the newline.
use Rattle.std.proofs.Common.{◌∙◌, ap, sym, arith, Some}
use Rattle.circular_buffer.specs.Buffer.{buffer}
use Rattle.desk_queues.proofs.LineLaws.{line_goes_on, line_room, line_whole}
use Rattle.desk_queues.proofs.taken.take_line.Goals as goal

pub push-requires : goal.push-requires
push-requires c = (
  omega arith,
  line_room c.bytes.line.items c.bytes.ring.items c.args.ring.now.items c.in-Some.byte
      c.requires.line c.bytes.invariant.1.0 c.if-byte-eq10.false (sym c.pop_front.ensures.value
      ∙ c.in-Some.is)
      c.bytes.invariant.0,
)

pub returns-then-byte-eq10-clause-line : goal.returns-then-byte-eq10-clause-line
returns-then-byte-eq10-clause-line c = λ other rest lacks begins.
    (line_whole c.bytes.line.items c.bytes.ring.items c.args.ring.now.items other rest c.bytes.invariant.1.0
    (sym c.pop_front.ensures.value ∙ c.in-Some.is ∙ ap Some c.if-byte-eq10.true) c.bytes.invariant.0 lacks
    begins).0

pub returns-then-byte-eq10-clause-left : goal.returns-then-byte-eq10-clause-left
returns-then-byte-eq10-clause-left c = λ other rest lacks begins.
    let whole = line_whole c.bytes.line.items c.bytes.ring.items c.args.ring.now.items other rest
    c.bytes.invariant.1.0 (sym c.pop_front.ensures.value ∙ c.in-Some.is ∙ ap Some c.if-byte-eq10.true)
    c.bytes.invariant.0 lacks begins in
    c.pop_front.ensures.items ∙ (λ i. buffer (whole.1 i) (c.bytes.invariant.1.1 i))

pub returns-in_default-clause-line : goal.returns-in_default-clause-line
returns-in_default-clause-line c = λ other rest lacks begins.
    absurd (line_goes_on c.bytes.line.items c.bytes.ring.items c.args.ring.now.items other rest
    c.bytes.invariant.1.0 (sym c.pop_front.ensures.value ∙ c.in_default.is) c.bytes.invariant.0 begins)

pub returns-in_default-clause-left : goal.returns-in_default-clause-left
returns-in_default-clause-left c = λ other rest lacks begins.
    absurd (line_goes_on c.bytes.line.items c.bytes.ring.items c.args.ring.now.items other rest
    c.bytes.invariant.1.0 (sym c.pop_front.ensures.value ∙ c.in_default.is) c.bytes.invariant.0 begins)
