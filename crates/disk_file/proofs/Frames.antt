-- How the calls of a system make up a call of a disk.
use Rattle.std.specs.Prelude.{◌≡◌, ℕ, ◌+◌, ◌≤◌, ◌⊎◌, List, length, IsTrue, IsFalse}
use Rattle.std.proofs.Common.{arith, inl, inr, ◌∙◌, sym, subst}
use Rattle.byte_ranges.proofs.RangeLaws.{SameOutside-trans, SameOutside-wider}
use Rattle.disk_face.specs.Moments.{Elapses, NoMore}
use Rattle.disk_face.specs.States.{State}
use Rattle.disk_face.proofs.FrameLaws.{Stays-trans, asks_then}
use Rattle.disk_file.specs.Hosts.{Marks}
use Rattle.disk_file.proofs.Steps.{rest_of, length-rest_of}
use Rattle.disk_file.specs.Parts.{WritesPart}

-- one call after another, where what either may leave is told by one predicate
pub Elapses-then : {a b c : State} {P Q : List ℕ → Type 0} (R : List ℕ → Type 0) → NoMore R P → NoMore R Q
    → Elapses a b P → Elapses b c Q → Elapses a c R
Elapses-then {a} {b} {c} {P} {Q} R p q ab bc = record {
  later = omega (arith, ab.later, bc.later);
  each = λ t image t_le since. elim (bc.each t image (omega (arith, t_le, ab.later)) since)
      as (λ x. a.left_since t image ⊎ R image) [
        | inl past ↦ elim (ab.each t image t_le past) as (λ x. a.left_since t image ⊎ R image) [
          | inl older ↦ inl older
          | inr is ↦ inr (p image is)
        ]
        | inr is ↦ inr (q image is)
      ];
  keeps = λ t image t_le since. bc.keeps t image (omega (arith, t_le, ab.later))
      (ab.keeps t image t_le since);
}

pub part-wider : {at n : ℕ} (at' n' : ℕ) {a b : State} → at' ≤ at → at + n ≤ at' + n'
    → WritesPart at n a b → WritesPart at' n' a b
part-wider {at} {n} at' n' {a} {b} low high ab = record {
  others = λ told. SameOutside-wider at n at' n' a.file b.file low high (ab.others told);
  images = λ image is. let was = ab.images image is in
      (was.0, was.1, SameOutside-wider at n at' n' was.0 image low high was.2);
  grows = ab.grows;
  time = ab.time;
  same_turn = ab.same_turn;
  stays = ab.stays;
  asks = ab.asks;
}

pub part-trans : {at n : ℕ} {a b c : State} → WritesPart at n a b → WritesPart at n b c → WritesPart at n a c
part-trans {at} {n} {a} {b} {c} ab bc = record {
  others = λ told. SameOutside-trans at n a.file b.file c.file (ab.others told)
      (bc.others (subst IsTrue (sym ab.stays.told) told));
  images = λ image is. let late = bc.images image is in let was = ab.images late.0 late.1 in
      (was.0, was.1, SameOutside-trans at n was.0 late.0 image was.2 late.2);
  grows = λ image is. bc.grows image (ab.grows image is);
  time = Elapses-then c.may_leave bc.grows (λ image is. is) ab.time bc.time;
  same_turn = bc.same_turn ∙ ab.same_turn;
  stays = Stays-trans ab.stays bc.stays;
  asks = asks_then ab.asks bc.asks (omega arith) (omega arith) (omega arith);
}

-- marks that stay say of failing calls what they said
pub steady_still : {a b : Marks} → b ≡ a → IsFalse a.may_fail → IsFalse b.may_fail
steady_still same steady = subst (λ m. IsFalse m.may_fail) (sym same) steady

-- a call that writes the rest of the bytes from a place on, after the first were written
pub part-rest : {a b c : State} (pos at done : ℕ) (bytes : List ℕ) → at ≡ pos + done → done ≤ length bytes
    → WritesPart pos (length bytes) a b → WritesPart at (length (rest_of bytes done)) b c
    → WritesPart pos (length bytes) a c
part-rest pos at done bytes is within ab bc =
    let rest = length-rest_of bytes done in
    part-trans ab (part-wider pos (length bytes) (omega (arith, is)) (omega (arith, is, rest, within)) bc)
