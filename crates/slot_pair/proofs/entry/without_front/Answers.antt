use Rattle.std.proofs.Common.{◌∙◌, ◌-◌, ap, take}
use Rattle.slot_pair.proofs.SpelledLaws.{moved_front}
use Rattle.slot_pair.proofs.entry.without_front.Goals as goal

pub returns-clause-text : goal.returns-clause-text
returns-clause-text c = ap (take (c.args.spelled.held - c.args.n)) c.copy_within.ensures.after
    ∙ moved_front c.args.buf.now c.args.n c.args.spelled.held c.requires.some c.requires.within
