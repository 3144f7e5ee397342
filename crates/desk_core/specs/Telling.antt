-- What is put of an answer, with the session that it is for.
use Rattle.std.specs.Prelude.{◌≡◌, ℕ, Bool, true, false, List, ◌++◌, codes, Result, Ok, Err, IfErr, IsTrue}
use Rattle.disk_face.specs.Streams.{SinkState}
use Rattle.data_area.specs.Causes.{HasSinkCause}
use Rattle.store_model.specs.declared.answers.Begun.{Begun}
use Rattle.store_model.specs.declared.answers.Begun.TheVariants as begun
use Rattle.store_model.specs.declared.answers.Refusal.{Refusal}
use Rattle.ask_text.specs.Replies.{first_line}
use Rattle.ask_text.specs.declared.ask.Ask.{Ask}
use Rattle.ask_text.specs.declared.ask.Ask.TheVariants as line
use Rattle.ask_text.specs.declared.reply.Reply.{Reply}
use Rattle.ask_text.specs.declared.reply.Reply.TheVariants as head
use Rattle.ask_text.specs.declared.ends.End.{End}
use Rattle.ask_text.specs.declared.ends.End.TheVariants as ends
use Rattle.ask_session.specs.ReplyLines.{answer_of}
use Rattle.ask_session.specs.Serving.{PutsText}
use Rattle.desk_model.specs.Events.{line_for}

-- the line of a request that may be served while a flush is in hand
abbrev pub is_read_ask : Ask → Bool
is_read_ask (line.Get name) = true
is_read_ask line.List = true
is_read_ask (line.Put name size) = false
is_read_ask (line.Del name) = false
is_read_ask (line.Old name) = false
is_read_ask line.Keep = false
is_read_ask line.Back = false
is_read_ask line.Stat = false

-- A text was put, or a front of it where the sink failed.
pub record PutsAll (text : List ℕ) (before now : SinkState) (result : Result (Unit {0}) End) : Type 0 where
  pub put : IsTrue before.tells → PutsText text before.given now.given result
  pub only : IfErr result (λ end. end ≡ ends.Sink)
  pub cause : HasSinkCause ends.Sink before now result

-- The line of the session and the reply's were put, or a front of them where the sink failed. Where there is
-- no reply but an end, nothing was put and the result is that end.
abbrev pub PutsReply : ℕ → SinkState → SinkState → Result Reply End → Result (Unit {0}) End → Type 0
PutsReply session before now (Ok reply) result =
    PutsAll (line_for (codes "to") session ++ first_line reply) before now result
PutsReply session before now (Err end) result = (result ≡ Err end) × (now ≡ before)

-- what is put of a begin's answer; where a flush is in hand now, it is of this session
abbrev pub TellsBegun : ℕ → Result Begun Refusal → ℕ → ℕ → SinkState → SinkState
    → Result (Unit {0}) End → Type 0
TellsBegun session (Ok begun.InHand) of now_of before now result = (now_of ≡ session)
    × PutsAll (line_for (codes "begun") session) before now result
TellsBegun session (Ok begun.Done) of now_of before now result = (now_of ≡ of)
    × PutsReply session before now (Ok head.Ok) result
TellsBegun session (Err why) of now_of before now result = (now_of ≡ of)
    × PutsReply session before now (answer_of why) result
