-- What is put of an answer.
use Rattle.std.specs.Prelude.{◌≡◌, ◌≢◌, Bool, Result, Ok, Err, IfErr, IfOk, IsTrue, OnErr}
use Rattle.disk_face.specs.Streams.{SinkState}
use Rattle.data_area.specs.Causes.{HasSinkCause}
use Rattle.ask_text.specs.Replies.{first_line}
use Rattle.ask_text.specs.declared.reply.Reply.{Reply}
use Rattle.ask_text.specs.declared.reply.Reply.TheVariants as head
use Rattle.ask_text.specs.declared.reply.RefusedWord.TheVariants as word
use Rattle.store_model.specs.declared.answers.Refusal.{Refusal}
use Rattle.store_model.specs.declared.answers.Refusal.TheVariants as why
use Rattle.ask_text.specs.declared.ends.End.{End}
use Rattle.ask_text.specs.declared.ends.End.TheVariants as ends
use Rattle.ask_session.specs.ReplyLines.{fault_of, is_kept}
use Rattle.ask_session.specs.Serving.{PutsText}

-- The first line of a reply was put, or a front of it where the sink failed; the result tells whether it
-- acknowledges a checkpoint. Where there is none but an end, nothing was put and the result is that end.
pub record PutsAnswer (out after : SinkState) (answer : Result Reply End) (result : Result Bool End)
    : Type 0 where
  pub put : IsTrue out.tells → IfOk answer (λ x. PutsText (first_line x) out.given after.given result)
  pub kept : IfOk answer (λ x. IfOk result (λ kept. kept ≡ is_kept x))
  pub only : IfOk answer (λ x. IfErr result (λ end. end ≡ ends.Sink))
  pub cause : IfOk answer (λ x. HasSinkCause ends.Sink out after result)
  pub ended : IfErr answer (λ end. result ≡ Err end)
  pub same : OnErr answer (after.given ≡ out.given)
  pub faults : OnErr answer (after.faults ≡ out.faults)
  pub told : after.tells ≡ out.tells

-- A read has stopped: that its object is damaged was replied, or else a device failed and nothing more was
-- put.
pub record PutsStop (out after : SinkState) (x : Refusal) (result : Result Bool End) : Type 0 where
  pub damaged : x ≡ why.Damaged → PutsAnswer out after (Ok (head.Refused word.Damaged)) result
  pub failed : x ≢ why.Damaged → result ≡ Err (fault_of x)
  pub same : x ≢ why.Damaged → after ≡ out
