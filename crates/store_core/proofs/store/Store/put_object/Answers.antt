use Rattle.std.proofs.Common.{◌≡◌, ap, arith, refl, rules, subst, sym, ◌∙◌, ℕ, Err, None, Result}
use Rattle.store_model.specs.Answers.{AnswersRead}
use Rattle.store_model.specs.declared.answers.Refusal.{Refusal}
use Rattle.std.proofs.lemmas.Grind.{common_steps}
use Rattle.store_model.specs.Inside.{HoldsAt, seen}
use Rattle.store_model.proofs.InsideLaws.{holds_with, parts_at}
use Rattle.store_core.proofs.LentLaws.{lent, lent_is}
use Rattle.store_model.proofs.ReadingLaws.{read_stops}
use Rattle.data_area.proofs.CauseLaws.{disk_cause_as, sink_cause_as}
use Rattle.store_core.proofs.store.Store.put_object.Goals as goal

pub returns-clause-answer : goal.returns-clause-answer
returns-clause-answer g c = grind (arith, common_steps)

pub returns-in_err-put_judged-clause-answer : goal.returns-in_err-put_judged-clause-answer
returns-in_err-put_judged-clause-answer g c =
    let is : c.from_residual.result ≡ Err c.in_err-put_judged.field-0.0 = search rules in
    subst (λ (r : Result ℕ Refusal). AnswersRead None c.args.spot.size r) (sym is)
    (read_stops c.args.spot.size c.in_err-put_judged.field-0.0 c.in_err-put_judged.ensures.judged.only)

pub returns-clause-judged : goal.returns-clause-judged
returns-clause-judged g c = grind (arith, common_steps)

pub returns-clause-gives : goal.returns-clause-gives
returns-clause-gives g c = grind (arith, common_steps)

pub returns-clause-store : goal.returns-clause-store
returns-clause-store g c =
    ap (λ s. seen c.self.inside.flush c.self.inside.began s)
    (lent_is c.self.inside c.deref_mut-hands.ensures.value refl) ∙ c.self.view_is

pub returns-in_err-put_judged-clause-store : goal.returns-in_err-put_judged-clause-store
returns-in_err-put_judged-clause-store g c =
    ap (λ s. seen c.self.inside.flush c.self.inside.began s)
    (lent_is c.self.inside c.deref_mut-hands.ensures.value refl) ∙ c.self.view_is

pub invariant_of-self : goal.invariant_of-self
invariant_of-self g c =
    let is_lent = lent_is c.self.inside c.deref_mut-hands.ensures.value refl in
    let inside = lent c.self.inside c.deref_mut-hands.result.now c.self.inside.kept_layout.value in
    let i = c.self.inside in
    let invariant = subst (λ s. HoldsAt i.flush i.began s) (sym is_lent) c.self.invariant in
    let parts = parts_at i.flush i.began inside invariant in
    holds_with i.flush i.began inside c.put_judged.new.buf (grind (arith, parts.buf)) invariant

pub invariant_of-self-2 : goal.invariant_of-self-2
invariant_of-self-2 g c =
    let is_lent = lent_is c.self.inside c.deref_mut-hands.ensures.value refl in
    let inside = lent c.self.inside c.deref_mut-hands.result.now c.self.inside.kept_layout.value in
    let i = c.self.inside in
    let invariant = subst (λ s. HoldsAt i.flush i.began s) (sym is_lent) c.self.invariant in
    let parts = parts_at i.flush i.began inside invariant in
    holds_with i.flush i.began inside c.put_judged.new.buf (grind (arith, parts.buf)) invariant

pub returns-clause-frame : goal.returns-clause-frame
returns-clause-frame g c = grind (arith, common_steps)

pub returns-clause-disk_cause : goal.returns-clause-disk_cause
returns-clause-disk_cause g c =
    disk_cause_as c.in_ok-put_judged.ensures.disk_cause (λ is. absurd (cc)) (λ is. absurd (cc))

pub returns-clause-sink_cause : goal.returns-clause-sink_cause
returns-clause-sink_cause g c =
    sink_cause_as c.in_ok-put_judged.ensures.sink_cause (λ is. absurd (cc)) (λ is. absurd (cc))

pub returns-in_err-put_judged-clause-disk_cause : goal.returns-in_err-put_judged-clause-disk_cause
returns-in_err-put_judged-clause-disk_cause g c =
    disk_cause_as c.in_err-put_judged.ensures.disk_cause (λ is. grind arith) (λ is. grind arith)

pub returns-in_err-put_judged-clause-sink_cause : goal.returns-in_err-put_judged-clause-sink_cause
returns-in_err-put_judged-clause-sink_cause g c =
    sink_cause_as c.in_err-put_judged.ensures.sink_cause (λ is. grind arith) (λ is. grind arith)
