use Rattle.std.proofs.Common.{sym, subst, inl, inr}
use Rattle.std.proofs.lemmas.Bool.{cases_lt, le-leb, leb-true}
use Rattle.flush_model.specs.Phases.{IsLaidWhole}
use Rattle.flush_plan.specs.Shelves.{phase_on}
use Rattle.flush_plan.specs.Lays.{KeepsLaying, Lay}
use Rattle.flush_plan.proofs.LayGoesLaws.{lay_ended, lay_waits}
use Rattle.flush_plan.proofs.lay.Laying.at_end.Goals as goal

pub returns : goal.returns
returns g c = λ items keeps.
    let C = g.row.C in
    let class = c.self.inside.class in
    let mine = subst (λ (v : Lay). KeepsLaying C v items) (sym c.self.view_is) keeps in (
      λ is. subst (λ (v : Lay). IsLaidWhole (phase_on v.course items)) c.self.view_is
          (lay_ended C _ items mine (leb-true C class is)),
      λ whole. elim (cases_lt class C) [
        | inr ended ↦ le-leb C class ended
        | inl low ↦ absurd (lay_waits C _ items mine low
            (subst (λ (v : Lay). IsLaidWhole (phase_on v.course items)) (sym c.self.view_is) whole))
      ],
    )
