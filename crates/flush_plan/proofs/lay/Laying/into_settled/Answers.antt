use Rattle.std.proofs.Common.{sym, subst}
use Rattle.size_class.proofs.RowLaws.{row_shape}
use Rattle.flush_model.specs.Phases.{IsLaidWhole}
use Rattle.flush_plan.specs.Shelves.{phase_on}
use Rattle.flush_plan.specs.Lays.{KeepsLaying, Lay}
use Rattle.flush_plan.proofs.SettleLaws.{lay_settles}
use Rattle.flush_plan.proofs.lay.Laying.into_settled.Goals as goal

pub returns-clause-settled : goal.returns-clause-settled
returns-clause-settled g c = λ items keeps whole.
    lay_settles g.row.C _ items (subst (λ (v : Lay). KeepsLaying g.row.C v items) (sym c.self.view_is) keeps)
    (subst (λ (v : Lay). IsLaidWhole (phase_on v.course items)) (sym c.self.view_is) whole)
    (row_shape c.self.inside.caps) (row_shape c.self.inside.volumes)
