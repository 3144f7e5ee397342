use Rattle.std.proofs.Common.{rules, length}
use Rattle.lent_disk.specs.Gaps.{IsGapOf}
use Rattle.lent_disk.proofs.GapLaws.{parted_twice}
use Rattle.lent_disk.proofs.gaps.part.Goals as goal

pub returns-clause-seen : goal.returns-clause-seen
returns-clause-seen c =
    let mid = c.keep_two.new.memory in
    let in_low : IsGapOf c.keep_two.result.0 (length mid) = search rules in
    let in_middle : IsGapOf c.keep_two.result.1 (length mid) = search rules in
    parted_twice c.args.lower c.args.upper c.args.memory.now c.args.at c.args.after c.requires.lower
    c.requires.upper c.requires.order c.requires.fits c.before-2.ensures c.since.ensures
    c.keep_two.result.0 c.keep_two.result.1 mid c.keep_two.ensures.same_length in_low in_middle
    c.keep_two.ensures.seen c.before-3.ensures c.since-2.ensures c.keep_two-2.ensures.seen
