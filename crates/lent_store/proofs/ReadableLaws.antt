-- A store with a flush in hand over its file, once its log is emptied.
use Rattle.std.proofs.Common.{◌≡◌, refl, rules, sym, subst, inl, inr}
use Rattle.std.specs.Prelude.{Option, None, IsSome, Ok}
use Rattle.disk_face.specs.States as disk
use Rattle.size_class.specs.declared.TheConstants.{CLASSES}
use Rattle.lent_disk.specs.Disks.{lent_state}
use Rattle.lent_disk.specs.Notings.{Noting, emptied}
use Rattle.store_model.specs.declared.answers.Progress.{Progress}
use Rattle.store_model.specs.declared.answers.Progress.TheVariants as progress
use Rattle.store_model.specs.declared.answers.Refusal.{Refusal}
use Rattle.std.specs.Prelude.{Result, Some}
use Rattle.store_model.specs.Steps.{GoesOnHalf, StepsHalf}
use Rattle.store_model.specs.Connection.{FlushInHand, RestsOnTable, StoreValue, base_of}
use Rattle.store_model.specs.Halves.{HalfAgrees, IsHalfway, IsReadable, Origin}

pub no_some : {A P : Type 0} (o : Option A) → IsSome o → o ≡ None → P
no_some None some none = absurd (search rules)
no_some (Some x) some none = absurd (search rules)

-- a flush is in hand
pub halfway_emptied : {s : StoreValue} (n : Noting) {new : Noting} → new ≡ emptied n
    → IsReadable CLASSES s (lent_state n) → IsSome s.in_hand → IsHalfway CLASSES s (lent_state new)
halfway_emptied {s} n {new} e is some =
    subst (λ (x : Noting). IsHalfway CLASSES s (lent_state x)) (sym e) (by_kind is)
  where
    by_kind : IsReadable CLASSES s (lent_state n) → IsHalfway CLASSES s (lent_state (emptied n))
    by_kind (inl c) = no_some s.in_hand some c.idle
    by_kind (inr h) = record {
      hand = h.hand;
      is = h.is;
      digests = h.digests;
      half = λ told. (
        (h.half told).0,
        record { flies = (h.half told).1.flies; loose = (h.half told).1.loose },
      );
    }

-- once a step has settled a flush
pub settled_rests : {s new : StoreValue} (n : Noting) {before : Noting} {now : disk.State}
    {result : Result Progress Refusal} → before ≡ emptied n → IsReadable CLASSES s (lent_state n)
    → IsSome s.in_hand
    → ((h : FlushInHand) (o : Origin) → s.in_hand ≡ Some h → HalfAgrees CLASSES s h o (lent_state before)
    → StepsHalf CLASSES o s new (lent_state before) now result) → result ≡ Ok progress.Settled
    → RestsOnTable (base_of new) new.kept now
settled_rests {s} {new} n {before} {now} {result} began is some half done =
    let w = halfway_emptied n began is some in
    let at = w.half refl in
    let steps = half w.hand at.0 w.is at.1 in
    (subst (λ (r : Result Progress Refusal). GoesOnHalf CLASSES at.0 steps.hand new now r) done steps.on).2
