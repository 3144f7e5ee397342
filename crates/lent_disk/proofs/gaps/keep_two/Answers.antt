use Rattle.std.proofs.Common.{◌∙◌, ap}
use Rattle.lent_disk.specs.Gaps.{seen, zeroed}
use Rattle.lent_disk.proofs.GapLaws.{last_first, zeroed-commutes}
use Rattle.lent_disk.proofs.gaps.keep_two.Goals as goal

pub returns-then-size-least-2-clause-seen : goal.returns-then-size-least-2-clause-seen
returns-then-size-least-2-clause-seen c =
    ap (seen c.args.first c.args.third) c.fill-then-size-least-2.ensures.filled
    ∙ ap (zeroed c.args.third) (zeroed-commutes c.args.first c.args.second c.args.memory.now c.requires.first
    c.requires.second)

pub returns-clause-seen : goal.returns-clause-seen
returns-clause-seen c =
    ap (seen c.args.first c.args.second) c.fill-2.ensures.filled
    ∙ last_first c.args.first c.args.second c.args.third c.args.memory.now c.requires.first c.requires.second
    c.requires.third
