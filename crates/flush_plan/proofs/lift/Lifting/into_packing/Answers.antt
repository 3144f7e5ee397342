use Rattle.std.proofs.Common.{sym, subst, ◌≡◌, ℕ, List}
use Rattle.size_class.specs.Rows.{cells_of}
use Rattle.flush_model.specs.declared.item.Item.{Item}
use Rattle.flush_model.specs.Phases.{IsLifted}
use Rattle.flush_model.proofs.PhaseLaws.{lift_pays}
use Rattle.flush_plan.specs.Lifts.{KeepsLifting, Lift}
use Rattle.flush_plan.specs.Shelves.{course_of, phase_on}
use Rattle.flush_plan.proofs.PackGoesLaws.{pack_begins}
use Rattle.flush_plan.proofs.lift.Lifting.into_packing.Goals as goal

-- what is kept of the value is kept of its fields
kept : (C : ℕ) {v w : Lift} (items : List Item) → v ≡ w → KeepsLifting C w items
    → IsLifted (phase_on w.course items) → KeepsLifting C v items × IsLifted (phase_on v.course items)
kept C items same keeps ended = (
  subst (λ v. KeepsLifting C v items) (sym same) keeps,
  subst (λ (v : Lift). IsLifted (phase_on v.course items)) (sym same) ended,
)

pub returns-clause-keeps : goal.returns-clause-keeps
returns-clause-keeps g c = λ items keeps ended.
    let s = c.self.inside in
    let h = kept g.row.C items c.self.view_is keeps ended in
    pack_begins g.row.C (course_of s.k (cells_of s.caps) s.numbers s.pending) items h.0.fits h.0.boundary
    h.0.divisor h.0.lifting h.1 h.0.classes h.0.small

pub returns-clause-pays : goal.returns-clause-pays
returns-clause-pays g c = λ items keeps ended.
    let s = c.self.inside in
    let h = kept g.row.C items c.self.view_is keeps ended in
    lift_pays (phase_on (course_of s.k (cells_of s.caps) s.numbers s.pending) items) h.0.lifting h.1
