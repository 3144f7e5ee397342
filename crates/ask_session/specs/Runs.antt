-- A run of a session: requests that are answered one after another.
use Rattle.std.specs.Prelude.{◌≡◌, ◌⊎◌, ℕ, ◌+◌, ◌-◌, ◌*◌, ◌^◌, ◌<◌, ◌≤◌, max, Bool, true, false, if◌then◌else◌, List, [], ◌∷◌, ◌++◌, length, flat_map, Err, IsTrue}
use Rattle.std.specs.List.{AllByRecursion}
use Rattle.disk_face.specs.Counts.{counted, last}
use Rattle.disk_face.specs.Moments.{Leaves, LeftOnly}
use Rattle.disk_face.specs.Writes.{KeepsDisk}
use Rattle.size_class.specs.declared.TheConstants.{SIZE_MAX}
use Rattle.map_model.specs.Requests.{Reply, Request}
use Rattle.segment_layout.specs.Bounds.{Loose}
use Rattle.table_rules.specs.Opening.{Opens}
use Rattle.table_rules.specs.Sequences.{HasSequenceUpTo}
use Rattle.store_model.specs.Connection.{IsConnected, RestsOnTable, base_of, limits_of, state_of}
use Rattle.store_model.specs.Stores.{IsStore}
use Rattle.store_model.specs.States.{Chain, Limits, State}
use Rattle.ask_text.specs.Inputs.{HasText, request_text}
use Rattle.ask_text.specs.Replies.{reply_text}
use Rattle.ask_text.specs.declared.ends.End.{End}
use Rattle.ask_text.specs.declared.ends.End.TheVariants as ends
use Rattle.ask_text.specs.declared.ends.Turn.TheVariants as turn
use Rattle.ask_session.specs.Outside.{Held, Outside, Seen, outside_of}
use Rattle.ask_session.specs.Serving.{acknowledges, calls_of}
use Rattle.ask_session.specs.Sittings.{Sitting, unread}
use Rattle.ask_text.specs.Ends.{is_budget, is_unserved}
use Rattle.ask_session.specs.Turns.{IsTurn}
use Rattle.ask_session.specs.Inputs.{HasSourceCause}

-- how many requests one run answers at most
abbrev pub budget : ℕ
budget = 4294967296

-- the greatest sequence that requests leave, where the first found this one: from 2^61 on none saves a
-- checkpoint, and below it one saves at most 2k + 1
abbrev pub most_sequence : ℕ → ℕ → ℕ
most_sequence k found = max found (2 ^ 61 + 2 * k)

-- ---- states one after another

-- the last of the states, or the first where none follows
abbrev pub last_state : State → List State → State
last_state s [] = s
last_state s (t ∷ states) = last_state t states

-- two states that follow one another have this
abbrev pub SomeStep : (State → State → Type 0) → State → List State → Type 0
SomeStep P s [] = ⊥
SomeStep P s (t ∷ states) = P s t ⊎ SomeStep P t states

-- the number of the last request that was answered with a checkpoint, where so many were answered before
abbrev pub last_kept : ℕ → ℕ → List Reply → ℕ
last_kept done kept [] = kept
last_kept done kept (reply ∷ replies) =
    last_kept (counted done 1) (if acknowledges reply then counted done 1 else kept) replies

-- the changing calls since the last checkpoint was acknowledged, by the state before each request
abbrev pub calls_since : Limits → ℕ → State → List State → List Request → List Reply → ℕ
calls_since limits calls s (t ∷ states) (r ∷ requests) (reply ∷ replies) =
    calls_since limits (if acknowledges reply then 0 else calls + calls_of limits s r) t states
    requests replies
calls_since limits calls s [] requests replies = calls
calls_since limits calls s (t ∷ states) [] replies = calls
calls_since limits calls s (t ∷ states) (r ∷ requests) [] = calls

-- ---- images

-- an image opens to the checkpoint of a state
abbrev pub OpensToKept : ℕ → State → List ℕ → Type 0
OpensToKept classes t image = Opens classes SIZE_MAX image t.kept t.kept_book

-- an image that is left in the step from a state to the next: it opens to the checkpoint of one of them, and
-- its data part is within bounds for both maps
pub record IsStepImage (classes k base : ℕ) (image : List ℕ) (s t : State) : Type 0 where
  pub opens : OpensToKept classes s image ⊎ OpensToKept classes t image
  pub loose : Loose k (length image - base) s.map t.map

-- an image that is left in one of the steps
abbrev pub IsRunImage : ℕ → ℕ → ℕ → State → List State → List ℕ → Type 0
IsRunImage classes k base s states image = SomeStep (IsStepImage classes k base image) s states

-- ---- the run

-- So many requests were answered one after another. Their texts stood in front of the unread input, each
-- reply was put whole, and the states after them are a chain of steps. What a crash may leave meanwhile was
-- left in one of them, where the disk rested on the checkpoint's table; it does so again; and its
-- sequence is at most the greatest that requests leave. Since the last acknowledged checkpoint a crash
-- leaves what opens to that alone, and the calls of the requests after it were made. The turn that is
-- told never falls, and stays while no checkpoint was acknowledged.
pub record HasRun (classes : ℕ) (old new : Sitting) (before now : Outside) (n : ℕ) : Type 0 where
  pub requests : List Request
  pub replies : List Reply
  pub states : List State
  pub count : length requests ≡ n
  pub texts : AllByRecursion HasText requests
  pub whole : IsTrue before.source.tells
      → unread old before.source ≡ flat_map request_text requests ++ unread new now.source
  pub chain : IsTrue before.disk.tells → Chain (limits_of old.store) (state_of old.store before.disk.file)
      requests replies states
  pub newest : IsTrue before.disk.tells → state_of new.store now.disk.file
      ≡ last_state (state_of old.store before.disk.file) states
  pub puts : IsTrue before.disk.tells → IsTrue before.sink.tells
      → now.sink.given ≡ before.sink.given ++ flat_map reply_text replies
  pub done : new.done ≡ counted old.done n
  pub kept_done : IsTrue before.disk.tells → new.kept_done ≡ last_kept old.done old.kept_done replies
  pub block : new.store.in_use.block ≡ old.store.in_use.block
  pub unbroken : new.store.is_broken ≡ false
  pub over : IsConnected classes new.store now.disk
  pub rests : IsTrue before.disk.tells → RestsOnTable (base_of old.store) old.store.kept before.disk
      → RestsOnTable (base_of new.store) new.store.kept now.disk
  pub left : IsTrue before.disk.tells → RestsOnTable (base_of old.store) old.store.kept before.disk
      → Leaves before.disk now.disk (IsRunImage classes old.store.in_use.block.k (base_of old.store)
      (state_of old.store before.disk.file) states)
  pub reach : IsTrue before.disk.tells → new.store.in_use.sequence
      ≤ most_sequence old.store.in_use.block.k old.store.in_use.sequence
  pub numbered : IsTrue before.disk.tells → RestsOnTable (base_of old.store) old.store.kept before.disk
      → Leaves before.disk now.disk (HasSequenceUpTo (most_sequence old.store.in_use.block.k
      old.store.in_use.sequence))
  pub since : IsTrue before.disk.tells → RestsOnTable (base_of old.store) old.store.kept before.disk
      → now.disk.turn < last → old.kept_turn ≤ before.disk.turn
      → LeftOnly before.disk old.kept_turn (OpensToKept classes (state_of old.store before.disk.file))
      → LeftOnly now.disk new.kept_turn (OpensToKept classes (state_of new.store now.disk.file))
  pub kept_turn : old.kept_turn ≤ before.disk.turn → new.kept_turn ≤ now.disk.turn
  pub turn_rises : old.kept_turn ≤ before.disk.turn → old.kept_turn ≤ new.kept_turn
  pub unkept : (new.kept_turn ≡ old.kept_turn) ⊎ (0 < new.kept_done)
  pub calls : IsTrue before.disk.tells → (m : ℕ) → before.disk.turn ≡ counted old.kept_turn m
      → now.disk.turn ≡ counted new.kept_turn (calls_since (limits_of old.store) m
      (state_of old.store before.disk.file) states requests replies)
  pub frame : KeepsDisk before.disk now.disk
  pub source_told : now.source.tells ≡ before.source.tells
  pub source_calm : now.source.faults ≡ before.source.faults
  pub sink_told : now.sink.tells ≡ before.sink.tells
  pub sink_calm : now.sink.faults ≡ before.sink.faults
  pub disk_later : before.disk.faults ≤ now.disk.faults

-- the last turn of a run, by its end
abbrev pub IsLastTurn : ℕ → ℕ → Sitting → Sitting → Outside → Outside → End → Type 0
IsLastTurn classes n s new before now ends.Budget = (n ≡ budget) × (new ≡ s)
IsLastTurn classes n s new before now ends.End = IsTurn classes s new before now (turn.Ended ends.End)
IsLastTurn classes n s new before now ends.Line = IsTurn classes s new before now (turn.Ended ends.Line)
IsLastTurn classes n s new before now ends.Disk = IsTurn classes s new before now (turn.Ended ends.Disk)
IsLastTurn classes n s new before now ends.Source = IsTurn classes s new before now (turn.Ended ends.Source)
IsLastTurn classes n s new before now ends.Sink = IsTurn classes s new before now (turn.Ended ends.Sink)

-- A run and its end: after the last request that was answered one more turn ended the session, or as many
-- were answered as may be. `mid` are the devices before that turn, of which disk and sink are those after it
-- where no request was served.
pub record EndsRun {D I O : Type 0} (seen : Seen D I O) (classes : ℕ) (old new : Sitting)
    (before now : Held D I O) (end : End) : Type 0 where
  pub sitting : Sitting
  pub mid : Held D I O
  pub n : ℕ
  pub ran : HasRun classes old sitting (outside_of seen before) (outside_of seen mid) n
  pub few : n ≤ budget
  pub fewer : is_budget end ≡ false → n < budget
  pub last_turn : IsLastTurn classes n sitting new (outside_of seen mid) (outside_of seen now) end
  pub sound : new.store.is_broken ≡ false → IsStore classes new.store
  pub same_disk : is_unserved (turn.Ended end) ≡ true → now.disk ≡ mid.disk
  pub same_sink : is_unserved (turn.Ended end) ≡ true → now.sink ≡ mid.sink
  pub ended : new.ended ≡ (if is_budget end then false else true)
  pub cause : HasSourceCause {T = Unit {0}} (seen.source mid.source).faults (seen.source now.source).faults
      (Err end)
