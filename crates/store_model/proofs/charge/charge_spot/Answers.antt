use Rattle.std.proofs.Common.{arith, lit<}
use Rattle.size_class.specs.declared.TheConstants.{SIZE_MAX}
use Rattle.store_model.proofs.OutcomeLaws.{class_low}
use Rattle.store_model.proofs.charge.charge_spot.Goals as goal

pub in_payload-requires : goal.in_payload-requires
in_payload-requires g c =
    let low = class_low g.row.C SIZE_MAX c.args.spot.size c.requires.wide c.requires.some c.requires.small in
    (lit< tt, (omega (arith, low, c.class_of-class.ensures.same), c.requires.fits))

pub charge-requires : goal.charge-requires
charge-requires g c =
    let spot = c.args.spot in
    let of = c.class_of-class.ensures.same in
    let low = class_low g.row.C SIZE_MAX spot.size c.requires.wide c.requires.some c.requires.small in
    (lit< tt, (omega (arith, low, of), (c.requires.fits, (c.requires.some, of))))
