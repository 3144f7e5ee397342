-- What holds of a store that may be read.
use Rattle.std.proofs.Common.{◌∙◌}
use Rattle.ask_session.proofs.reads.can_read.Goals as goal

pub returns : goal.returns
returns g c = record {
  whole = c.requires.whole;
  stands = c.is_broken.ensures.standing (c.is_broken.ensures.same ∙ c.requires.whole);
  sound = c.is_broken.ensures.sound (c.is_broken.ensures.same ∙ c.requires.whole);
  readable = c.requires.over;
  ready = c.requires.ready;
}
