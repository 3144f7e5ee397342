-- What is read of what a session says.
use Rattle.std.specs.Prelude.{◌≡◌, ℕ, ◌≤◌, ◌<◌, Bool, true, false, List, ◌++◌, length, take, Option, None, Result, Ok, Err, IfSome}
use Rattle.disk_face.specs.Streams.{SinkState}
use Rattle.map_model.specs.Requests.{Request}
use Rattle.ask_text.specs.Inputs.{BeginsNone, HasText, request_text}
use Rattle.ask_text.specs.declared.ends.End.{End}
use Rattle.ask_text.specs.declared.ends.End.TheVariants as ends
use Rattle.desk_model.specs.Desks.{Desk, SaysIf, has_room}
use Rattle.desk_queues.specs.Queues.{Holds, Queued}
use Rattle.desk_core.specs.Playing.{PlaysOne}

-- The text of a request stood in front of the input. Where it is no longer than the room it stands in front
-- of a buffer; else it was dropped.
pub record Hears (told : Type 0) (input rest : List ℕ) (room : ℕ) (text : List ℕ) (kept : Option ℕ)
    : Type 0 where
  pub request : Request
  pub has_text : HasText request
  pub whole : told → input ≡ request_text request ++ rest
  pub within : IfSome kept (λ n. n ≤ room)
  pub held : IfSome kept (λ n. take n text ≡ request_text request)
  pub longer : kept ≡ None → room < length (request_text request)

-- an object of so many bytes stood in front of the input
pub record DropsObject (told : Type 0) (input rest : List ℕ) (size : ℕ) : Type 0 where
  pub object : List ℕ
  pub long : length object ≡ size
  pub whole : told → input ≡ object ++ rest

-- an end that comes of a text alone
abbrev pub IsTextFault : End → Type 0
IsTextFault ends.Line = Unit {0}
IsTextFault ends.Source = Unit {0}
IsTextFault ends.End = ⊥
IsTextFault ends.Disk = ⊥
IsTextFault ends.Sink = ⊥
IsTextFault ends.Budget = ⊥

-- queues have what waits at a desk, which is else the same as another
pub record HoldsBeside (q : Queued) (d d' : Desk) : Type 0 where
  pub queues : Holds q d'.queues
  pub state : d'.state ≡ d.state
  pub hand : d'.hand ≡ d.hand

-- what is unread of an input, and what a sink took
pub record Talk : Type 0 where
  pub unread : List ℕ
  pub sink : SinkState

abbrev pub talk : List ℕ → SinkState → Talk
talk unread sink = record { unread = unread; sink = sink }

-- The text of a request stood in front of the input, and was queued where there was room; that was told, or a
-- front of it where the sink failed.
pub record HearsOne (told : Type 0) (session : ℕ) (old new : Queued) (before now : Talk)
    (result : Result (Unit {0}) End) : Type 0 where
  pub request : Request
  pub has_text : HasText request
  pub whole : told → before.unread ≡ request_text request ++ now.unread
  pub plays : (d : Desk) → Holds old d.queues
      → PlaysOne (SaysIf (has_room d session request) session request d) (HoldsBeside new d) before.sink
      now.sink result

-- what was heard, by the answer
abbrev pub IsHeard : Type 0 → ℕ → Queued → Queued → Talk → Talk → Result (Unit {0}) End → Type 0
IsHeard told session old new before now (Ok x) = HearsOne told session old new before now (Ok x)
IsHeard told session old new before now (Err ends.Sink) =
    HearsOne told session old new before now (Err ends.Sink)
IsHeard told session old new before now (Err ends.Line) = (new ≡ old) × (told → BeginsNone before.unread)
IsHeard told session old new before now (Err ends.Source) = new ≡ old
IsHeard told session old new before now (Err ends.End) = ⊥
IsHeard told session old new before now (Err ends.Disk) = ⊥
IsHeard told session old new before now (Err ends.Budget) = ⊥

-- nothing was heard
abbrev pub is_unheard : Result (Unit {0}) End → Bool
is_unheard (Ok x) = false
is_unheard (Err ends.Sink) = false
is_unheard (Err ends.Line) = true
is_unheard (Err ends.Source) = true
is_unheard (Err ends.End) = true
is_unheard (Err ends.Disk) = true
is_unheard (Err ends.Budget) = true
