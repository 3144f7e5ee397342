use Rattle.std.proofs.Common.{◌∙◌, lit<, refl, sym}
use Rattle.store_model.proofs.ChargedLaws.{old_can_free, old_small}
use Rattle.store_core.proofs.begin.take_out.Goals as goal

pub free_spot-requires : goal.free_spot-requires
free_spot-requires g c s stands held =
    old_can_free c.requires.before.1 c.args.name.now c.args.hands.now.guard refl refl s
    (sym c.get-old.ensures ∙ stands) (sym c.old.ensures ∙ held)

pub add_gone-requires : goal.add_gone-requires
add_gone-requires g c = (
  lit< tt,
  (
    c.requires.fits,
    (
      c.requires.wide,
      old_small c.requires.before.1 c.args.name.now c.get-old.result c.get-old.ensures,
    ),
  ),
)
