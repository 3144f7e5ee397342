-- In which order a desk takes requests and replies to them.
use Rattle.std.specs.Prelude.{ℕ, ◌≤◌, ◌==◌, Bool, true, false, if◌then◌else◌, List, [], ◌∷◌, ◌++◌, map, filter, sum_by, IsSome, Option, Some, None}
use Rattle.map_model.specs.Requests as ask
use Rattle.map_model.specs.Requests.{Reply, Request}
use Rattle.store_model.specs.States.{Chain, Limits, State, served}
use Rattle.desk_model.specs.Events as event
use Rattle.desk_model.specs.Events.{Event}
use Rattle.desk_model.specs.Answers as answer
use Rattle.desk_model.specs.Answers.{Answer}
use Rattle.desk_model.specs.Desks.{Desk, Flush, has_room, queue_of, waits}

-- ---- what is taken

-- A request that was taken: the session that said it, and what it is replied, at once or when its flush has
-- settled.
pub record Taken : Type 0 where
  pub session : ℕ
  pub request : Request
  pub reply : Reply

abbrev pub taken_if : Bool → Limits → State → ℕ → Request → List Taken
taken_if true limits t s r = []
taken_if false limits t s r =
    record { session = s; request = r; reply = (served limits t r).reply } ∷ []

abbrev pub taken_first : List Request → Limits → Desk → ℕ → List Taken
taken_first [] limits d s = []
taken_first (r ∷ rest) limits d s = taken_if (waits d.hand s r) limits d.state s r

-- the request that an event takes, or none
abbrev pub taken_by : Limits → Desk → Event → List Taken
taken_by limits d (event.say s r) = []
taken_by limits d (event.serve s) = taken_first (queue_of d s) limits d s
taken_by limits d event.step = []

-- the requests that events take, in their order, by the desk before each event
abbrev pub taken_in : Limits → Desk → List Event → List Desk → List Taken
taken_in limits d [] ds = []
taken_in limits d (e ∷ es) [] = []
taken_in limits d (e ∷ es) (t ∷ ds) = taken_by limits d e ++ taken_in limits t es ds

abbrev pub requests_of : List Taken → List Request
requests_of ts = map (λ t. t.request) ts

abbrev pub replies_of : List Taken → List Reply
replies_of ts = map (λ t. t.reply) ts

-- a run of requests from a state; where a flush is in hand, from that state with a sequence that its flush
-- may leave
abbrev pub RunsFrom : Limits → Option Flush → State → List Request → List Reply → Type 0
RunsFrom limits None s rs replies = (states : List State) × Chain limits s rs replies states
RunsFrom limits (Some h) s rs replies = (q : ℕ) × (h.least ≤ q) × (q ≤ h.most) × (states : List State)
    × Chain limits (record s { sequence = q }) rs replies states

-- the requests that are taken are one run of the store, in the order in which they are taken, and each is
-- replied as there
abbrev pub RunsAsTaken : Limits → Desk → List Event → List Desk → Type 0
RunsAsTaken limits d es ds = RunsFrom limits d.hand d.state (requests_of (taken_in limits d es ds))
    (replies_of (taken_in limits d es ds))

-- ---- one session

-- what was taken of one session
abbrev pub taken_of : ℕ → List Taken → List Taken
taken_of s ts = filter (λ t. t.session == s) ts

-- the request that an event queues for a session, or none
abbrev pub queued_by : ℕ → Desk → Event → List Request
queued_by s d (event.say t r) = if t == s then (if has_room d t r then r ∷ [] else []) else []
queued_by s d (event.serve t) = []
queued_by s d event.step = []

-- the requests that events queue for a session, by the desk before each event
abbrev pub queued_in : ℕ → Desk → List Event → List Desk → List Request
queued_in s d [] ds = []
queued_in s d (e ∷ es) [] = []
queued_in s d (e ∷ es) (t ∷ ds) = queued_by s d e ++ queued_in s t es ds

-- the reply that an answer gives to a session, or none
abbrev pub told_by : ℕ → Answer → List Reply
told_by s (answer.to t reply) = if t == s then reply ∷ [] else []
told_by s _ = []

-- the replies that answers give to a session
abbrev pub told_in : ℕ → List Answer → List Reply
told_in s [] = []
told_in s (a ∷ answers) = told_by s a ++ told_in s answers

-- the reply that a flush in hand owes to a session, or none
abbrev pub owed : ℕ → Option Flush → List Reply
owed s None = []
owed s (Some h) = if h.session == s then ask.kept ∷ [] else []

-- ---- one flush

-- how many objects an answer tells to be moved
abbrev pub moved_by : Answer → ℕ
moved_by answer.moved = 1
moved_by _ = 0

abbrev pub moved_in : List Answer → ℕ
moved_in answers = sum_by moved_by answers

-- a flush is in hand
abbrev pub HasFlush : Desk → Type 0
HasFlush d = IsSome d.hand

-- how many steps a flush in hand may still take
abbrev pub left_of : Option Flush → ℕ
left_of None = 0
left_of (Some h) = h.left
