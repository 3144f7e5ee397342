-- What one turn of a session does.
use Rattle.std.specs.Prelude.{◌≡◌, ℕ, Bool, if◌then◌else◌, [], ◌++◌, Result, Ok, Err, IsTrue}
use Rattle.disk_face.specs.Counts.{counted}
use Rattle.map_model.specs.Requests.{Request}
use Rattle.ask_text.specs.Inputs.{BeginsNone, HasText, request_text}
use Rattle.ask_text.specs.declared.ends.End.{End}
use Rattle.ask_text.specs.declared.ends.End.TheVariants as ends
use Rattle.ask_text.specs.declared.ends.Turn.{Turn}
use Rattle.ask_text.specs.declared.ends.Turn.TheVariants as turn
use Rattle.ask_session.specs.Outside.{Outside, served_devices}
use Rattle.ask_session.specs.Serving.{Replies}
use Rattle.ask_session.specs.Sittings.{Sitting, unread}

-- the counts stay
pub record SameCounts (old new : Sitting) : Type 0 where
  pub done : new.done ≡ old.done
  pub kept_done : new.kept_done ≡ old.kept_done
  pub kept_turn : new.kept_turn ≡ old.kept_turn

-- A request stood in front of the unread input, and was served; its reply was put, or a front of it.
pub record IsServed (classes : ℕ) (old new : Sitting) (before now : Outside) (result : Result Bool End)
    : Type 0 where
  pub request : Request
  pub text : HasText request
  pub whole : IsTrue before.source.tells
      → unread old before.source ≡ request_text request ++ unread new now.source
  pub replies : Replies classes request old.store new.store (served_devices before) (served_devices now)
      result

-- The whole reply was put, and is counted. Where it acknowledges a checkpoint, that holds all requests so
-- far, and its turn is the disk's now.
pub record IsAnswered (classes : ℕ) (old new : Sitting) (before now : Outside) : Type 0 where
  pub kept : Bool
  pub served : IsServed classes old new before now (Ok kept)
  pub done : new.done ≡ counted old.done 1
  pub kept_done : new.kept_done ≡ (if kept then new.done else old.kept_done)
  pub kept_turn : new.kept_turn ≡ (if kept then now.disk.turn else old.kept_turn)

-- a device failed while a request was served or its reply was put
pub record IsStopped (classes : ℕ) (old new : Sitting) (before now : Outside) (end : End) : Type 0 where
  pub served : IsServed classes old new before now (Err end)
  pub counts : SameCounts old new

-- no request was served
pub record IsUnserved (old new : Sitting) : Type 0 where
  pub store : new.store ≡ old.store
  pub counts : SameCounts old new

-- what a turn did, by its answer
abbrev pub IsTurn : ℕ → Sitting → Sitting → Outside → Outside → Turn → Type 0
IsTurn classes old new before now turn.Answered = IsAnswered classes old new before now
IsTurn classes old new before now (turn.Ended ends.Disk) = IsStopped classes old new before now ends.Disk
IsTurn classes old new before now (turn.Ended ends.Sink) = IsStopped classes old new before now ends.Sink
IsTurn classes old new before now (turn.Ended ends.Source) = IsUnserved old new
IsTurn classes old new before now (turn.Ended ends.End) =
    IsUnserved old new × (IsTrue before.source.tells → unread old before.source ≡ [])
IsTurn classes old new before now (turn.Ended ends.Line) =
    IsUnserved old new × (IsTrue before.source.tells → (unread old before.source ≡ [] → ⊥)
    × BeginsNone (unread old before.source))
IsTurn classes old new before now (turn.Ended ends.Budget) = ⊥
