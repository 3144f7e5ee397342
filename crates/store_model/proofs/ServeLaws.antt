-- A change that is served, from what it does quietly or with a flush.
use Rattle.std.specs.Prelude.{◌≡◌, ℕ, Bool, true, false, not, None, Result, IfSome, IsTrue, OnOk}
use Rattle.std.proofs.Common.{sym, ◌∙◌, subst, inl, inr}
use Rattle.disk_face.specs.States as disk
use Rattle.map_model.specs.Requests as ask
use Rattle.map_model.specs.Requests.{Change, Reply}
use Rattle.segment_layout.specs.Books.{is_quiet}
use Rattle.store_model.specs.declared.answers.Refusal.{Refusal}
use Rattle.store_model.specs.declared.answers.Done.{Done}
use Rattle.store_model.specs.Answers.{AnswersChange, done_reply, is_disk_fault, reply_of}
use Rattle.store_model.specs.Changes.{IsQuietChange}
use Rattle.store_model.specs.Connection.{IsConnected, StoreValue, limits_of, state_of}
use Rattle.store_model.specs.Flushes.{IsFlush, ServesChange}
use Rattle.store_model.specs.Quiet.{charges_of}
use Rattle.store_model.specs.States.{Step}

-- an answer that is Ok, or a fault of the disk, has the reply of the Ok
replied : (quiet : Bool) (result : Result Done Refusal) (P : Reply → Type 0) → AnswersChange quiet None result
    → OnOk result (P (done_reply (record { kept = not quiet }))) → IfSome (reply_of done_reply result) P
replied quiet result P (inl is) step = subst (λ (r : Result Done Refusal). IfSome (reply_of done_reply r) P)
    (sym is) (subst (λ (r : Result Done Refusal). OnOk r (P (done_reply (record { kept = not quiet })))) is
    step)
replied quiet result P (inr is) step = subst (λ (r : Result Done Refusal). IfSome (reply_of done_reply r) P)
    (sym is) tt

module _ {classes : ℕ} {c : Change} {old new : StoreValue} {before now : disk.State}
    {result : Result Done Refusal} where
  pub serves_quietly : is_quiet (charges_of old c) ≡ true → AnswersChange true None result
      → IsQuietChange classes c old new before now result
      → (IsTrue before.tells → OnOk result (Step (limits_of old) (state_of old before.file) (ask.change c)
      ask.done (state_of new now.file))) → IsConnected classes new now → new.is_broken ≡ is_disk_fault result
      → ServesChange classes c old new before now result
  serves_quietly quiet answer change step over broken = record {
    answer = subst (λ (b : Bool). AnswersChange b None result) (sym quiet) answer;
    quiet = λ _. change;
    flush = λ needs_flush. absurd (let e : true ≡ false = sym quiet ∙ needs_flush in cc);
    step = λ told. replied true result (λ (reply : Reply). Step (limits_of old) (state_of old before.file)
        (ask.change c) reply (state_of new now.file)) answer (step told);
    over = over;
    broken = broken;
  }

  pub serves_flushed : is_quiet (charges_of old c) ≡ false → AnswersChange false None result
      → IsFlush classes c old new before now result
      → (IsTrue before.tells → OnOk result (Step (limits_of old) (state_of old before.file) (ask.change c)
      ask.kept (state_of new now.file))) → IsConnected classes new now → new.is_broken ≡ is_disk_fault result
      → ServesChange classes c old new before now result
  serves_flushed needs_flush answer change step over broken = record {
    answer = subst (λ (b : Bool). AnswersChange b None result) (sym needs_flush) answer;
    quiet = λ quiet. absurd (let e : true ≡ false = sym quiet ∙ needs_flush in cc);
    flush = λ _. change;
    step = λ told. replied false result (λ (reply : Reply). Step (limits_of old) (state_of old before.file)
        (ask.change c) reply (state_of new now.file)) answer (step told);
    over = over;
    broken = broken;
  }
