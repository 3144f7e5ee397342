use Rattle.std.proofs.Common.{arith, subst, ap, ◌≡◌, ℕ}
use Rattle.std.specs.Prelude.{slice_set}
use Rattle.size_class.specs.Classes.{zero_row}
use Rattle.segment_layout.proofs.SettleLaws.{EmptiedUpTo, emptied_none, emptied_more}
use Rattle.plain_layout.proofs.ChargeSteps.{emptied_whole}
use Rattle.plain_layout.proofs.settle.used_from.Goals as goal

pub rows-init : goal.rows-init
rows-init c = emptied_none c.args.b c.args.used (omega arith)

pub rows-preserved : goal.rows-preserved
unfolding zero_row
rows-preserved c =
    emptied_more c.args.b c.rows.j c.args.used c.rows.used _ c.rows.invariant (omega arith) (omega arith)
    (ap (λ (n : ℕ). slice_set c.rows.used n zero_row) c.from.ensures)

pub returns : goal.returns
returns c =
    let e : c.rows.j ≡ 32 = omega arith in
    emptied_whole c.args.b c.args.used c.rows.used (omega arith) (omega arith)
    (subst (λ n. EmptiedUpTo c.args.b n c.args.used c.rows.used) e c.rows.invariant)
