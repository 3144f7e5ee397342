use Rattle.std.proofs.Common.{arith, lit<}
use Rattle.size_class.specs.declared.TheConstants.{SIZE_MAX}
use Rattle.store_model.proofs.OutcomeLaws.{class_low}
use Rattle.store_model.proofs.charge.charge_new.Goals as goal

pub charge-requires : goal.charge-requires
charge-requires g c =
    let low = class_low g.row.C SIZE_MAX c.args.size c.requires.wide (omega arith) c.requires.small in (
      lit< tt,
      (
        omega (arith, low, c.class_of.ensures.same),
        (c.requires.fits, (omega arith, c.class_of.ensures.same)),
      ),
    )
