-- The events of a script, and their texts.
use Rattle.std.specs.Prelude.{◌≡◌, ℕ, ◌<◌, List, ◌++◌, flat_map, codes}
use Rattle.std.specs.Fmt.{decimal}
use Rattle.std.specs.List.{AllByRecursion}
use Rattle.map_model.specs.Requests.{Request}
use Rattle.ask_text.specs.Inputs.{HasText, request_text}

-- A session says a request, which is queued; the first request of a session's queue is served; a flush goes
-- one step on.
pub data Event : Type 0 where
  say : ℕ → Request → Event
  serve : ℕ → Event
  step : Event

-- a line of a word and the number of a session
abbrev pub line_for : List ℕ → ℕ → List ℕ
line_for word s = word ++ codes " " ++ decimal s ++ codes "\n"

abbrev pub event_text : Event → List ℕ
event_text (say s r) = line_for (codes "say") s ++ request_text r
event_text (serve s) = line_for (codes "serve") s
event_text step = codes "step\n"

-- how many sessions a desk has; they are numbered from 0
abbrev pub sessions : ℕ
sessions = 8

-- an event that has a text: its session is one of the desk's, and what is said is a request's text
abbrev pub IsEvent : Event → Type 0
IsEvent (say s r) = (s < sessions) × HasText r
IsEvent (serve s) = s < sessions
IsEvent step = Unit {0}

-- no event's text stands in front
abbrev pub BeginsNoEvent : List ℕ → Type 0
BeginsNoEvent input = (e : Event) (rest : List ℕ) → IsEvent e → input ≡ event_text e ++ rest → ⊥

-- the input is the texts of these events, and then what begins with none
pub record IsScript (input : List ℕ) (events : List Event) (end : List ℕ) : Type 0 where
  pub whole : input ≡ flat_map event_text events ++ end
  pub each : AllByRecursion IsEvent events
  pub ended : BeginsNoEvent end
