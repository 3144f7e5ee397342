-- Changes that are refused.
use Rattle.std.specs.Prelude.{◌≡◌, ℕ, Bool, false, if◌then◌else◌, List, Option, Some, None, option_map, Err, IfSome, IsNone, IsSome, refl}
use Rattle.std.proofs.Common.{ap, sym, ◌∙◌, subst}
use Rattle.map_model.specs.Requests as ask
use Rattle.map_model.specs.Requests.{Change, Refused}
use Rattle.store_model.specs.declared.answers.Refusal.{Refusal}
use Rattle.store_model.specs.declared.answers.Refusal.TheVariants as why
use Rattle.store_model.specs.Answers.{AnswersChange, facts_at, refusal_for, refused_by, refused_reply}
use Rattle.store_model.specs.Plans.{AcceptsName}
use Rattle.store_model.specs.Connection.{StoreValue, limits_of, state_of}
use Rattle.store_model.specs.States.{Facts, Limits, State, Step, facts_of, refusal}
use Rattle.store_model.specs.Stores.{IsStore}
use Rattle.store_model.proofs.StepLaws.{facts_same, refused_replied}

pub not_none : {A : Type 0} {P : Type 0} (o : Option A) (x : A) → o ≡ Some x → IsNone o → P
not_none o x is none = absurd (let h = subst (λ y. IsNone y) is none in cc)

pub not_some : {A : Type 0} {P : Type 0} (o : Option A) → o ≡ None → IsSome o → P
not_some o is some = absurd (let h = subst (λ y. IsSome y) is some in cc)

-- a change that is refused is a step that leaves the state, if it has a reply
pub refused_change_step : {classes : ℕ} (s : StoreValue) (file : List ℕ) (c : Change) (refused : Refusal)
    → s.is_broken ≡ false → IsStore classes s → refused_by s (ask.change c) ≡ Some refused
    → IfSome (refused_reply refused)
    (λ reply. Step (limits_of s) (state_of s file) (ask.change c) reply (state_of s file))
refused_change_step s file c refused whole h is =
    by (refusal (limits_of s) (facts_at s (ask.change c)) (ask.change c)) refl (subst (λ (b : Bool).
    (if b then Some why.Broken
    else option_map refusal_for (refusal (limits_of s) (facts_at s (ask.change c)) (ask.change c)))
    ≡ Some refused) whole is)
  where
    by : (o : Option Refused) → refusal (limits_of s) (facts_at s (ask.change c)) (ask.change c) ≡ o
        → option_map refusal_for o ≡ Some refused
        → IfSome (refused_reply refused)
        (λ reply. Step (limits_of s) (state_of s file) (ask.change c) reply (state_of s file))
    by None none same = absurd (cc)
    by (Some w) found same =
        let e : refusal_for w ≡ refused = (cc) in
        subst (λ (x : Refusal). IfSome (refused_reply x)
        (λ reply. Step (limits_of s) (state_of s file) (ask.change c) reply (state_of s file))) e
        (refused_replied (limits_of s) (state_of s file) (ask.change c) w
        (ap (λ (f : Facts). refusal (limits_of s) f (ask.change c))
        (facts_same s file (ask.change c) h.now.named h.kept.named) ∙ found))

-- a name that isn't accepted is refused
pub unaccepted : (o : Option Refusal) (name : List ℕ) (refused : Refusal) → AcceptsName o name (Err refused)
    → o ≡ Some refused
unaccepted None name refused is = absurd (cc)
unaccepted (Some other) name refused is = let same : other ≡ refused = (cc) in
    ap (λ (x : Refusal). Some x) same

pub answers_refused : (quiet : Bool) (o : Option Refusal) (refused : Refusal) → o ≡ Some refused
    → AnswersChange quiet o (Err refused)
answers_refused quiet o refused is = subst (λ (x : Option Refusal). AnswersChange quiet x (Err refused))
    (sym is) refl
