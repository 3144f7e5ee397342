use Rattle.std.proofs.Common.{◌∙◌}
use Rattle.lent_disk.proofs.RoomLaws.{grown_seen, joined_seen}
use Rattle.lent_disk.proofs.gaps.extend.Goals as goal

pub returns-then-upper-end-clause-seen : goal.returns-then-upper-end-clause-seen
returns-then-upper-end-clause-seen c =
    joined_seen c.args.lower c.args.upper c.args.end c.args.file.now
    (c.requires.lower, c.requires.upper, c.requires.fits) c.if-upper-end.true

pub returns-clause-seen : goal.returns-clause-seen
returns-clause-seen c =
    c.keep_two.ensures.seen ∙ grown_seen c.args.lower c.args.upper c.args.end c.args.file.now
    (c.requires.lower, c.requires.upper, c.requires.fits)
