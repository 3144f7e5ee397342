-- What is counted of jobs: their replies, the bytes that they ask for, and the calls that they may make.
use Rattle.std.specs.Prelude.{ℕ, ◌+◌, ◌-◌, ◌*◌, List, [], ◌∷◌, length, slice_index}
use Rattle.std.specs.FinMap as fin
use Rattle.slot_pair.specs.Saves.{save_calls}
use Rattle.map_model.specs.Requests as ask
use Rattle.map_model.specs.Requests.{Reply, Request}
use Rattle.cost_laws.specs.Asked.{asked_row}
use Rattle.store_model.specs.Quiet.{quiet_calls}
use Rattle.store_model.specs.States.{State}

-- ---- replies

-- one for a put or a removal that was done without a checkpoint
abbrev pub ok_of : Reply → ℕ
ok_of ask.done = 1
ok_of ask.kept = 0
ok_of (ask.found object) = 0
ok_of (ask.refused why) = 0
ok_of (ask.listed entries) = 0
ok_of (ask.counts names bytes kept_names kept_bytes) = 0

-- one for a put, a removal or a keep that was done with a checkpoint
abbrev pub kept_of : Reply → ℕ
kept_of ask.done = 0
kept_of ask.kept = 1
kept_of (ask.found object) = 0
kept_of (ask.refused why) = 0
kept_of (ask.listed entries) = 0
kept_of (ask.counts names bytes kept_names kept_bytes) = 0

-- the bytes that a get gave
abbrev pub read_of : Reply → ℕ
read_of ask.done = 0
read_of ask.kept = 0
read_of (ask.found object) = length object
read_of (ask.refused why) = 0
read_of (ask.listed entries) = 0
read_of (ask.counts names bytes kept_names kept_bytes) = 0

-- one for a refusal, whatever was asked
abbrev pub refused_of : Reply → ℕ
refused_of ask.done = 0
refused_of ask.kept = 0
refused_of (ask.found object) = 0
refused_of (ask.refused why) = 1
refused_of (ask.listed entries) = 0
refused_of (ask.counts names bytes kept_names kept_bytes) = 0

-- ---- bytes asked for

-- The bytes of a class that a request asks for in a state: of a change that was done those of the object that
-- goes and of the one that comes.
abbrev pub asked_by : State → Request → Reply → ℕ → ℕ
asked_by s (ask.change c) ask.done d = slice_index (asked_row s.map c) d
asked_by s (ask.change c) ask.kept d = slice_index (asked_row s.map c) d
asked_by s (ask.change c) _ d = 0
asked_by s _ reply d = 0

-- those of requests one after another, each in the state that the one before left
abbrev pub asked_in : State → List Request → List Reply → List State → ℕ → ℕ
asked_in s (r ∷ requests) (reply ∷ replies) (t ∷ states) d =
    asked_by s r reply d + asked_in t requests replies states d
asked_in s [] replies states d = 0
asked_in s (r ∷ requests) [] states d = 0
asked_in s (r ∷ requests) (reply ∷ replies) [] d = 0

-- ---- calls

-- A request makes at most so many changing calls beside those that move bytes, from one state to the next:
-- one for the bytes of a put that makes no checkpoint; for each checkpoint those of its save, and 4 more
-- where a change makes it.
abbrev pub calls_by : State → State → Request → Reply → ℕ
calls_by s t (ask.change c) ask.done = quiet_calls c
calls_by s t (ask.change c) ask.kept = 4 + (t.sequence - s.sequence) * save_calls (fin.len t.map)
calls_by s t (ask.change c) _ = 0
calls_by s t ask.keep ask.kept = save_calls (fin.len t.map)
calls_by s t ask.keep _ = 0
calls_by s t _ reply = 0

abbrev pub calls_in : State → List Request → List Reply → List State → ℕ
calls_in s (r ∷ requests) (reply ∷ replies) (t ∷ states) =
    calls_by s t r reply + calls_in t requests replies states
calls_in s [] replies states = 0
calls_in s (r ∷ requests) [] states = 0
calls_in s (r ∷ requests) (reply ∷ replies) [] = 0
