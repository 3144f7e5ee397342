-- A read that has stopped: its object is damaged, or a device failed.
use Rattle.std.specs.Prelude.{◌≡◌, ◌≢◌, ◌⊎◌, ℕ, ◌++◌, Bool, true, false, List, codes, Option, None, Result, Ok, Err, IfErr, IfOk, IsTrue, refl}
use Rattle.std.proofs.Common.{ap, sym, ◌∙◌, subst, inl, inr}
use Rattle.disk_face.specs.Streams.{Puts, SinkState}
use Rattle.slot_pair.specs.Finding.{HasDiskCause}
use Rattle.store_model.specs.Answers.{AnswersRead}
use Rattle.data_area.specs.Causes.{HasSinkCause}
use Rattle.store_model.specs.declared.answers.Refusal.{Refusal}
use Rattle.store_model.specs.declared.answers.Refusal.TheVariants as why
use Rattle.data_area.proofs.CauseLaws.{calm_disk, sink_cause_after}
use Rattle.ask_text.specs.Replies.{first_line}
use Rattle.ask_text.specs.declared.reply.Reply.TheVariants as head
use Rattle.ask_text.specs.declared.reply.RefusedWord.TheVariants as word
use Rattle.ask_text.specs.declared.ends.End.{End}
use Rattle.ask_text.specs.declared.ends.End.TheVariants as ends
use Rattle.ask_session.specs.Putting.{PutsAnswer, PutsStop}
use Rattle.ask_session.specs.ReplyLines.{fault_of, object_text}
use Rattle.ask_session.specs.Serving.{IsServingFault, PutsText}
use Rattle.ask_session.proofs.PutLaws.{puts_front, puts_none}
use Rattle.ask_session.proofs.ReplyLaws.{fault_disk, fault_serving, fault_sink, no_disk_fault, sink_calm, sink_serving}

damaged_or_not : (x : Refusal) → (x ≡ why.Damaged) ⊎ (x ≢ why.Damaged)
damaged_or_not why.Damaged = inl refl
damaged_or_not why.Broken = inr (λ e. absurd (cc))
damaged_or_not why.BadName = inr (λ e. absurd (cc))
damaged_or_not why.TooLong = inr (λ e. absurd (cc))
damaged_or_not why.Missing = inr (λ e. absurd (cc))
damaged_or_not why.TooMany = inr (λ e. absurd (cc))
damaged_or_not why.Full = inr (λ e. absurd (cc))
damaged_or_not why.Worn = inr (λ e. absurd (cc))
damaged_or_not why.Disk = inr (λ e. absurd (cc))
damaged_or_not why.Sink = inr (λ e. absurd (cc))

module _ (o : Option Refusal) (n : ℕ) (x : Refusal) (served : o ≡ None) (answer : AnswersRead o n (Err x))
    (mid after : SinkState) (result : Result Bool End) (stop : PutsStop mid after x result) where
  pub stop_kept : IfOk result (λ kept. kept ≡ false)
  stop_kept = elim (damaged_or_not x) as (λ _. IfOk result (λ kept. kept ≡ false)) [
    | inl is ↦ (stop.damaged is).kept
    | inr fine ↦ subst (λ (y : Result Bool End). IfOk y (λ kept. kept ≡ false)) (sym (stop.failed fine)) tt
  ]

  pub stop_only : IfErr result IsServingFault
  stop_only = elim (damaged_or_not x) as (λ _. IfErr result IsServingFault) [
    | inl is ↦ sink_serving result (stop.damaged is).only
    | inr fine ↦ subst (λ (y : Result Bool End). IfErr y IsServingFault) (sym (stop.failed fine))
        (fault_serving o n x served fine answer)
  ]

  pub stop_disk : {before now : ℕ} → HasDiskCause {T = ℕ} why.Disk before now (Err x)
      → HasDiskCause ends.Disk before now result
  stop_disk {before} {now} cause = elim (damaged_or_not x)
      as (λ _. HasDiskCause ends.Disk before now result) [
        | inl is ↦ calm_disk (no_disk_fault result (sink_calm result (stop.damaged is).only))
            (cause.calm (λ e. let f : why.Damaged ≡ why.Disk = (cc) in absurd (cc)))
        | inr fine ↦ subst (λ (y : Result Bool End). HasDiskCause ends.Disk before now y)
            (sym (stop.failed fine))
            (fault_disk o n x served fine answer cause)
      ]

  pub stop_sink : {out : SinkState} → HasSinkCause {T = ℕ} why.Sink out mid (Err x)
      → HasSinkCause ends.Sink out after result
  stop_sink {out} cause = elim (damaged_or_not x) as (λ _. HasSinkCause ends.Sink out after result) [
    | inl is ↦ sink_cause_after
        (cause.calm (λ e. let f : why.Damaged ≡ why.Sink = (cc) in absurd (cc))) cause.told
        (stop.damaged is).cause
    | inr fine ↦ subst (λ (y : Result Bool End). HasSinkCause ends.Sink out after y) (sym (stop.failed fine))
        (subst (λ (y : SinkState). HasSinkCause {T = Bool} ends.Sink out y (Err (fault_of x)))
        (sym (stop.same fine))
        (fault_sink o n x served fine answer cause))
  ]

  -- what was put, by whether the object is damaged
  pub stop_puts : (b : Bool) (size : ℕ) (object : List ℕ) (out : SinkState) → (x ≡ why.Damaged → b ≡ true)
      → (x ≡ why.Damaged → mid.given ≡ out.given) → (b ≡ true → mid ≡ out) → IsTrue mid.tells
      → Puts {T = ℕ} out.given mid.given (first_line (head.Data size) ++ object) (Err x)
      → PutsText (object_text b size object) out.given after.given result
  stop_puts b size object out bad same clean told puts =
      elim (damaged_or_not x) as (λ _. PutsText (object_text b size object) out.given after.given result) [
        | inl is ↦ subst (λ (c : Bool). PutsText (object_text c size object) out.given after.given result)
            (sym (bad is))
            (subst (λ (xs : List ℕ). PutsText (first_line (head.Refused word.Damaged)) xs after.given result)
            (same is) ((stop.damaged is).put told))
        | inr fine ↦ subst
            (λ (y : Result Bool End). PutsText (object_text b size object) out.given after.given y)
            (sym (stop.failed fine))
            (subst (λ (y : SinkState). PutsText {T = Bool} (object_text b size object) out.given y.given
            (Err (fault_of x))) (sym (stop.same fine)) (by b clean))
      ]
    where
      by : (c : Bool) → (c ≡ true → mid ≡ out)
          → PutsText {T = Bool} (object_text c size object) out.given mid.given (Err (fault_of x))
      by true none = puts_none (first_line (head.Refused word.Damaged)) out.given mid.given (fault_of x)
          (ap (λ (y : SinkState). y.given) (none refl))
      by false none = puts_front (first_line (head.Data size) ++ object) out.given mid.given x (fault_of x)
          puts
