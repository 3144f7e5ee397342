use Rattle.std.proofs.Common.{lit<, refl}
use Rattle.flush_run.specs.Parts.{parts_of}
use Rattle.store_model.proofs.BegunLaws.{del_begun, del_ready}
use Rattle.store_model.proofs.CopyChargesLaws.{charges_after}
use Rattle.store_core.proofs.begin.start_del.Goals as goal

pub boundary-b-requires : goal.boundary-b-requires
boundary-b-requires g c = (
  lit< tt,
  (c.requires.charged.in_use c.requires.needs_flush, c.requires.fits),
)

pub start_lifting-requires : goal.start_lifting-requires
start_lifting-requires g c = (
  lit< tt,
  (
    lit< tt,
    (
      c.requires.fits,
      del_ready c.requires.before.1 c.args.name.now (parts_of c.take_out.new.hands) c.take_out.ensures
          _ refl _ _ _ _ _ _ _ (charges_after c.take_out.ensures c.requires.charged c.boundary-b.ensures.same)
          c.requires.needs_flush,
    ),
  ),
)

pub returns-clause-begun : goal.returns-clause-begun
returns-clause-begun g c = del_begun c.requires.before.1 c.args.name.now (parts_of c.take_out.new.hands)
    c.take_out.ensures _ refl _ _ _ _ _ _ _
    (charges_after c.take_out.ensures c.requires.charged c.boundary-b.ensures.same) c.requires.needs_flush
    _ c.start_lifting.ensures.started
