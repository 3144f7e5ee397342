use Rattle.std.proofs.Common.{◌≡◌, ◌<◌, ◌≤◌, ◌∙◌, ℕ, List, Bool, true, false, Ok, Err, Result, is_some, inl, inr, ap, arith, refl, rules}
use Rattle.std.specs.Prelude.{◌^◌, if◌then◌else◌}
use Rattle.std.proofs.lemmas.Bool.{cases_lt, le-leb, lt-leb}
use Rattle.std.proofs.lemmas.Grind.{common_steps}
use Rattle.std.specs.FinMap as fin
use Rattle.slot_codec.specs.Names.{is_name}
use Rattle.map_model.specs.Requests as ask
use Rattle.store_model.specs.declared.answers.Refusal.{Refusal}
use Rattle.store_model.specs.declared.answers.Refusal.TheVariants as why
use Rattle.store_model.specs.Answers.{refused_by}
use Rattle.store_model.specs.Plans.{AcceptsName}
use Rattle.store_model.specs.Connection.{StoreValue}
use Rattle.store_model.specs.Quiet.{del_of}
use Rattle.store_core.proofs.LentLaws.{lent_rest}
use Rattle.store_core.proofs.store.Store.accepts_del.Goals as goal
use Rattle.store_model.proofs.PlanLaws.{answered}

pub returns-in_err-name : goal.returns-in_err-name
returns-in_err-name g c = grind (arith, common_steps)

-- a removal of a live name is refused only once the sequence is worn
accepts : (s : StoreValue) (name : List ℕ) (result : Result (List ℕ) Refusal) → s.is_broken ≡ false
    → is_name name ≡ true → fin.contains_key s.now name ≡ true
    → (2 ^ 61 ≤ s.in_use.sequence → result ≡ Err why.Worn) → (s.in_use.sequence < 2 ^ 61 → result ≡ Ok name)
    → AcceptsName (refused_by s (ask.change (del_of name))) name result
accepts s name result whole named live worn fresh =
    elim (cases_lt s.in_use.sequence (2 ^ 61)) as
    (λ _. AcceptsName (refused_by s (ask.change (del_of name))) name result) [
      | inl early ↦ rw (whole, named, live, lt-leb (2 ^ 61) s.in_use.sequence early) (fresh early)
      | inr late ↦ rw (whole, named, live, le-leb (2 ^ 61) s.in_use.sequence late) (worn late)
    ]

pub returns-clause-answer : goal.returns-clause-answer
returns-clause-answer g c =
    let rest = lent_rest c.self.inside c.args.self.now _ c.self.view_is
    c.self.invariant c.requires.idle c.deref.ensures in
    let t = c.args.self.now in
    let name = c.args.name.now in
    let said = answered t.is_broken (is_name name) c.in_ok-name.name name c.in_ok-name.ensures.answer in
    let live : is_some c.get.result ≡ fin.contains_key t.now name =
    ap is_some c.get.ensures
    ∙ (λ i. fin.contains_key ((ap (λ (x : StoreValue). x.now) rest.view) i) (said.2 i)) in
    let there : is_some c.get.result ≡ true = search rules in
    let has : fin.contains_key t.now name ≡ true = cc in
    accepts t name c.unworn.result said.0 said.1 has c.unworn.ensures.worn
    (λ early. c.unworn.ensures.fresh early ∙ ap (λ x. Ok x) said.2)
