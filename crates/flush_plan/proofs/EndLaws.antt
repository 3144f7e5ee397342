-- Whether a phase is at its end, as it is told by a search for the next object.
use Rattle.std.specs.Prelude.{◌≡◌, Bool, not, Option, Some, None, IfSome, IsNone, IsTrue, is_some, refl}
use Rattle.std.proofs.Common.{sym, inl, inr}
use Rattle.std.proofs.lemmas.Bool.{both_ways, cases_Bool, not_from_false, not_from_true}

-- where nothing is found it is at its end, and where something is found it isn't
pub end_decided : {A : Type 0} (r : Option A) (P : A → Type 0) (End : Type 0) (b : Bool) → is_some r ≡ not b
    → IfSome r P → (IsNone r → End) → ((x : A) → P x → End → ⊥) → (IsTrue b → End) × (End → IsTrue b)
end_decided None P End b is found none some = (
  λ holds. none refl,
  λ end. elim (cases_Bool b) [
    | inl is_end ↦ is_end
    | inr waits ↦ absurd (both_ways (not b) (sym is) (not_from_false b waits))
  ],
)
end_decided (Some x) P End b is found none some = (
  λ holds. absurd (both_ways (not b) (not_from_true b holds) (sym is)),
  λ end. absurd (some x found end),
)
