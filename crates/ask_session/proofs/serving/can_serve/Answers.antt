use Rattle.std.proofs.Common.{◌∙◌}
use Rattle.ask_session.proofs.serving.can_serve.Goals as goal

pub returns : goal.returns
returns g c = record {
  whole = c.requires.whole;
  idle = c.requires.over.idle;
  sound = c.is_broken.ensures.sound (c.is_broken.ensures.same ∙ c.requires.whole) c.requires.over.idle;
  over = c.requires.over.over c.requires.whole;
  ready = c.requires.ready;
  fits = (g.met.D.Disk.lawful c.args.disk.now).turn_fits;
}
