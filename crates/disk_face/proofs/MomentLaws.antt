-- How what a crash may leave goes on from call to call.
use Rattle.std.specs.Prelude.{◌⊎◌, ℕ, ◌≤◌, List}
use Rattle.std.proofs.Common.{inl, inr, arith}
use Rattle.disk_face.specs.States.{State}
use Rattle.disk_face.specs.Moments.{Elapses, Leaves, LeftOnly}

-- one call: it is enough to know what it may leave when it returns
pub Leaves-call : {a b : State} {now : List ℕ → Type 0} (P : List ℕ → Type 0) → Elapses a b now
    → ((image : List ℕ) → now image → P image) → Leaves a b P
Leaves-call {a} P time each = record {
  later = time.later;
  each = λ t image t_le since. elim (time.each t image t_le since)
      as (λ x. a.left_since t image ⊎ P image) [ inl past ↦ inl past | inr is ↦ inr (each image is) ];
}

-- no call
pub Leaves-none : (a : State) (P : List ℕ → Type 0) → Leaves a a P
Leaves-none a P = record { later = omega arith; each = λ t image t_le since. inl since }

-- one after another
pub Leaves-trans : {a b c : State} {P : List ℕ → Type 0} → Leaves a b P → Leaves b c P → Leaves a c P
Leaves-trans {a} {b} {c} {P} ab bc = record {
  later = omega (arith, ab.later, bc.later);
  each = λ t image t_le since. elim (bc.each t image (omega (arith, t_le, ab.later)) since)
      as (λ x. a.left_since t image ⊎ P image) [ inl past ↦ ab.each t image t_le past | inr is ↦ inr is ];
}

pub Leaves-weaken : {a b : State} {P : List ℕ → Type 0} (Q : List ℕ → Type 0)
    → ((image : List ℕ) → P image → Q image) → Leaves a b P → Leaves a b Q
Leaves-weaken {a} Q weaker ab = record {
  later = ab.later;
  each = λ t image t_le since. elim (ab.each t image t_le since)
      as (λ x. a.left_since t image ⊎ Q image) [ inl past ↦ inl past | inr is ↦ inr (weaker image is) ];
}

-- what was known of each image since a turn is known still
pub LeftOnly-after : {a b : State} (t : ℕ) (P : List ℕ → Type 0) → t ≤ a.turn → LeftOnly a t P → Leaves a b P
    → LeftOnly b t P
LeftOnly-after t P t_le was ab = λ image since.
    elim (ab.each t image t_le since) as (λ x. P image) [ inl past ↦ was image past | inr is ↦ is ]
