use Rattle.std.proofs.Common.{arith, refl, rules, sym, subst}
use Rattle.std.specs.Prelude.{IsSome}
use Rattle.lent_store.specs.Embedded.{Embedded}
use Rattle.lent_store.proofs.NotedLaws.{noted_call}
use Rattle.lent_store.proofs.ReadableLaws.{halfway_emptied, settled_rests}
use Rattle.lent_store.proofs.store.LentStore.step.Goals as goal

pub step-answer-requires : goal.step-answer-requires
step-answer-requires c = (
  omega arith,
  (
    search rules,
    halfway_emptied c.self.inside.disk c.empty_log.ensures c.self.invariant
        (subst (λ (e : Embedded). IsSome e.store.in_hand) (sym c.self.view_is) c.requires.half),
  ),
)

pub returns-clause-rests : goal.returns-clause-rests
returns-clause-rests c =
    settled_rests c.self.inside.disk c.empty_log.ensures c.self.invariant
    (subst (λ (e : Embedded). IsSome e.store.in_hand) (sym c.self.view_is) c.requires.half)
    (c.step-answer.ensures.half refl)

pub returns-clause-noted : goal.returns-clause-noted
returns-clause-noted c =
    noted_call c.step-answer.new.self c.step-answer.new.disk c.self.view_is c.empty_log.ensures
    c.step-answer.ensures.frame.stays.same_mount c.is_noted.ensures.log
    c.is_noted.ensures.ended
    c.is_noted.ensures.cause
