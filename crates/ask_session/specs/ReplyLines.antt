-- What is replied, by what the store answers.
use Rattle.std.specs.Prelude.{◌≡◌, ℕ, Bool, true, false, if◌then◌else◌, List, [], ◌++◌, codes, Result, Ok, Err, IfErr, IfOk, IsTrue, OnOk}
use Rattle.disk_face.specs.States as disk
use Rattle.slot_pair.specs.Finding.{HasDiskCause}
use Rattle.map_model.specs.Requests.{Request}
use Rattle.store_model.specs.declared.answers.Refusal.{Refusal}
use Rattle.store_model.specs.declared.answers.Refusal.TheVariants as why
use Rattle.store_model.specs.declared.answers.Done.{Done}
use Rattle.store_model.specs.Connection.{StoreValue}
use Rattle.ask_text.specs.Replies.{first_line, reply_line_of, rest_of}
use Rattle.ask_text.specs.declared.reply.Reply.{Reply}
use Rattle.ask_text.specs.declared.reply.Reply.TheVariants as head
use Rattle.ask_text.specs.declared.reply.RefusedWord.TheVariants as word
use Rattle.ask_text.specs.declared.ends.End.{End}
use Rattle.ask_text.specs.declared.ends.End.TheVariants as ends
use Rattle.ask_session.specs.Serving.{Serves, reply_at}

abbrev pub done_reply_line : Done → Reply
done_reply_line d = if d.kept then head.Kept else head.Ok

-- the reply of a refusal, or the end where a device failed
abbrev pub answer_of : Refusal → Result Reply End
answer_of why.BadName = Ok (head.Refused word.Name)
answer_of why.TooLong = Ok (head.Refused word.Size)
answer_of why.Missing = Ok (head.Refused word.Missing)
answer_of why.Damaged = Ok (head.Refused word.Damaged)
answer_of why.Full = Ok (head.Refused word.Full)
answer_of why.Worn = Ok (head.Refused word.Worn)
answer_of why.Sink = Err ends.Sink
answer_of why.Disk = Err ends.Disk
answer_of why.Broken = Err ends.Disk
answer_of why.TooMany = Err ends.Disk

-- the end where a device failed in a read
abbrev pub fault_of : Refusal → End
fault_of why.Sink = ends.Sink
fault_of why.Disk = ends.Disk
fault_of why.Broken = ends.Disk
fault_of why.BadName = ends.Disk
fault_of why.TooLong = ends.Disk
fault_of why.Missing = ends.Disk
fault_of why.TooMany = ends.Disk
fault_of why.Damaged = ends.Disk
fault_of why.Full = ends.Disk
fault_of why.Worn = ends.Disk

-- what is replied to a change
abbrev pub answer_change : Result Done Refusal → Result Reply End
answer_change (Ok d) = Ok (done_reply_line d)
answer_change (Err refused) = answer_of refused

-- a head that acknowledges a checkpoint
abbrev pub is_kept : Reply → Bool
is_kept head.Kept = true
is_kept head.Ok = false
is_kept (head.Data size) = false
is_kept (head.Refused why) = false
is_kept (head.List count) = false
is_kept (head.Stat names bytes kept_names kept_bytes) = false

-- A request whose reply is one line was served: the answer is that line.
pub record Answers (classes : ℕ) (r : Request) (old new : StoreValue) (before now : disk.State)
    (result : Result Reply End) : Type 0 where
  pub serves : Serves classes r old new before now result
  pub replied : IsTrue before.tells → IfOk result (λ head. head ≡ reply_line_of (reply_at old before.file r))
  pub line : IsTrue before.tells → OnOk result (rest_of (reply_at old before.file r) ≡ [])
  pub only : IfErr result (λ end. end ≡ ends.Disk)
  pub disk_cause : HasDiskCause ends.Disk before.faults now.faults result

-- the text of the reply to a read, by whether the object is damaged, and by its size
abbrev pub object_text : Bool → ℕ → List ℕ → List ℕ
object_text true size object = first_line (head.Refused word.Damaged)
object_text false size object = first_line (head.Data size) ++ object ++ codes "\n"
