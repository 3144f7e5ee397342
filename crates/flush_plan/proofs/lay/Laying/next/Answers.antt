use Rattle.std.proofs.Common.{arith, sym, subst, refl}
use Rattle.flush_model.specs.Phases.{IsLaidWhole}
use Rattle.flush_model.specs.Steps.{IsLayStep}
use Rattle.flush_plan.specs.Shelves.{IsFirstOf, phase_on}
use Rattle.flush_plan.specs.Lays.{KeepsLaying, Lay}
use Rattle.flush_plan.proofs.LayGoesLaws.{lay_ended, lay_is_step}
use Rattle.flush_plan.proofs.PackGoesLaws.{move_of}
use Rattle.flush_plan.proofs.lay.Laying.next.Goals as goal

pub returns-then-self-clause-end : goal.returns-then-self-clause-end
returns-then-self-clause-end g c = λ items lays.
    let mine = subst (λ (v : Lay). KeepsLaying g.row.C v items) (sym c.self.view_is) lays.keeps in (
      λ none. subst (λ (v : Lay). IsLaidWhole (phase_on v.course items)) c.self.view_is
          (lay_ended g.row.C _ items mine (omega (arith, c.if-self.true))),
      λ whole. refl,
    )

pub returns-clause-step : goal.returns-clause-step
returns-clause-step g c = λ items lays.
    let C = g.row.C in
    let m = c.waiting-found.result.item in
    let mine = subst (λ (v : Lay). KeepsLaying C v items) (sym c.self.view_is) lays.keeps in
    let first = subst (λ (v : Lay). IsFirstOf items v.class v.to m) (sym c.self.view_is)
    (c.waiting-found.ensures items lays) in
    subst (λ (v : Lay). IsLayStep (phase_on v.course items) (move_of m c.self.inside.to)) c.self.view_is
    (lay_is_step C _ items mine (omega (arith, c.if-self.false)) m first)
