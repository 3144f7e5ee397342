-- A way back of a store over its file in memory.
use Rattle.std.proofs.Common.{◌≡◌, ◌∙◌, inl, inr, refl, sym, List, ℕ, Bool, true, false}
use Rattle.std.specs.Prelude.{◌↔◌, None, IsErr, OnOk, Ok, Err, Result}
use Rattle.lent_disk.specs.Disks.{lent_state}
use Rattle.lent_disk.specs.Notings.{Noting, content}
use Rattle.size_class.specs.declared.TheConstants.{CLASSES}
use Rattle.map_model.specs.Requests as ask
use Rattle.store_model.specs.declared.answers.Refusal.{Refusal}
use Rattle.store_model.specs.Connection.{IsOver, StoreValue, limits_of, state_of}
use Rattle.store_model.specs.Halves.{IsReadable}
use Rattle.store_model.specs.States.{Step}

over_it : (s : StoreValue) (n : Noting) → s.in_hand ≡ None → s.is_broken ≡ false
    → IsReadable CLASSES s (lent_state n) → IsOver CLASSES s (content n)
over_it s n idle whole (inl c) = c.over whole refl
over_it s n idle whole (inr h) = absurd (let e = sym idle ∙ h.is in cc)

whole_if : (b : Bool) → (b ≡ true → ⊥) → b ≡ false
whole_if true not = absurd (not refl)
whole_if false not = refl

pub back_step : (s new : StoreValue) (n : Noting) (result : Result (Unit {0}) Refusal) → s.in_hand ≡ None
    → IsReadable CLASSES s (lent_state n) → (IsErr result ↔ (s.is_broken ≡ true))
    → ((file : List ℕ) → IsOver CLASSES s file → OnOk result (Step (limits_of s) (state_of s file) ask.back
    ask.done (state_of new file)))
    → OnOk result (Step (limits_of s) (state_of s (content n)) ask.back ask.done (state_of new (content n)))
back_step s new n (Err y) idle is answer step = tt
back_step s new n (Ok u) idle is answer step = step (content n) (over_it s n idle
    (whole_if s.is_broken (λ broken. absurd (let e = answer.1 broken in cc))) is)
