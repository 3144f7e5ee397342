use Rattle.std.proofs.Common.{arith, ◌+◌, ◌-◌, ◌/◌, ◌<◌, length}
use Rattle.held_guard.proofs.SearchLaws.{above_middle, below_middle, one_look_more}
use Rattle.held_guard.proofs.search.begun_before.Goals as goal

pub halves-preserved-then-look-end : goal.halves-preserved-then-look-end
halves-preserved-then-look-end g c =
    let spans = c.args.list.now.spans in
    let middle = c.halves.low + (c.halves.high - c.halves.low) / 2 in
    let within : middle < length spans = omega arith in
    let s = c.halves.invariant.steps in
    let more = one_look_more (length spans) (c.halves.high - c.halves.low) (c.halves.high - (middle + 1)) s.0
    (omega arith) (omega arith) s.3 in
    record {
      ordered = omega arith;
      within = omega arith;
      below = below_middle spans c.requires.order c.args.end middle c.look.result c.look.ensures.span within
          (omega arith);
      above = c.halves.invariant.above;
      steps = (s.0 + 1, omega (arith, s.1, c.look.ensures.step), more.0, more.1);
    }

pub halves-preserved : goal.halves-preserved
halves-preserved g c =
    let spans = c.args.list.now.spans in
    let middle = c.halves.low + (c.halves.high - c.halves.low) / 2 in
    let within : middle < length spans = omega arith in
    let s = c.halves.invariant.steps in
    let more = one_look_more (length spans) (c.halves.high - c.halves.low) (middle - c.halves.low) s.0
    (omega arith) (omega arith) s.3 in
    record {
      ordered = omega arith;
      within = omega arith;
      below = c.halves.invariant.below;
      above = above_middle spans c.requires.order c.args.end middle c.look.result c.look.ensures.span within
          (omega arith);
      steps = (s.0 + 1, omega (arith, s.1, c.look.ensures.step), more.0, more.1);
    }
