use Rattle.std.proofs.Common.{arith, lit<}
use Rattle.store_model.proofs.ChargeLaws.{class_low}
use Rattle.store_core.proofs.held.add_size.Goals as goal

pub add-requires : goal.add-requires
add-requires g c =
    let low = class_low g.row.C c.args.size c.class_of.result c.class_of.ensures.same c.requires.wide
    (omega arith) c.requires.small in
    (lit< tt, (low, c.requires.fits))
