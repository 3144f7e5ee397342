-- A desk, and what each event is answered and leaves.
use Rattle.std.specs.Prelude.{◌≡◌, ◌⊎◌, ℕ, ◌+◌, ◌*◌, ◌<◌, ◌≤◌, ◌==◌, nat_le, nat_lt, Bool, true, false, not, ◌||◌, List, [], ◌∷◌, ◌++◌, length, flat_map, codes, slice_index_or, slice_set, sum_by, Option, Some, None}
use Rattle.std.specs.FinMap as fin
use Rattle.std.specs.Fmt.{decimal}
use Rattle.map_model.specs.Requests as ask
use Rattle.map_model.specs.Requests.{Request}
use Rattle.store_model.specs.States.{Limits, State, Step, served}
use Rattle.ask_text.specs.Inputs.{request_text}
use Rattle.desk_model.specs.Events as event
use Rattle.desk_model.specs.Events.{Event}
use Rattle.desk_model.specs.Answers as answer
use Rattle.desk_model.specs.Answers.{Answer, answer_text}

-- A flush in hand: the session whose request began it, how many steps it may still take, that of its
-- settling among them, and between which sequences that leaves the store.
pub record Flush : Type 0 where
  pub session : ℕ
  pub left : ℕ
  pub least : ℕ
  pub most : ℕ

-- The store's state, the requests that wait by session, and the flush in hand, if there is one. While one is
-- in hand the state is that after its request, but for the sequence, which stays what it was.
pub record Desk : Type 0 where
  pub state : State
  pub queues : List (List Request)
  pub hand : Option Flush

abbrev pub queue_of : Desk → ℕ → List Request
queue_of d s = slice_index_or d.queues s []

abbrev pub with_queue : Desk → ℕ → List Request → Desk
with_queue d s q = record d { queues = slice_set d.queues s q }

-- a desk before its first event
abbrev pub new_desk : State → Desk
new_desk s =
    record { state = s; queues = [] ∷ [] ∷ [] ∷ [] ∷ [] ∷ [] ∷ [] ∷ [] ∷ []; hand = None }

-- ---- say

-- how many bytes the texts that wait for one session have at most
abbrev pub ring : ℕ
ring = 1048576

-- the texts of requests, one behind the other
abbrev pub texts_of : List Request → List ℕ
texts_of q = flat_map request_text q

-- the text of a request is no longer than what is free of its session's ring
abbrev pub has_room : Desk → ℕ → Request → Bool
has_room d s r = nat_le (length (texts_of (queue_of d s)) + length (request_text r)) ring

-- what is said is queued behind what waits where it has room, and else dropped
abbrev pub SaysIf : Bool → ℕ → Request → Desk → Answer → Desk → Type 0
SaysIf true s r d a d' = (a ≡ answer.queued s) × (d' ≡ with_queue d s (queue_of d s ++ r ∷ []))
SaysIf false s r d a d' = (a ≡ answer.full s) × (d' ≡ d)

-- ---- serve

-- a request that may be served while a flush is in hand
abbrev pub is_read : Request → Bool
is_read (ask.get name) = true
is_read ask.list = true
is_read (ask.change c) = false
is_read (ask.old name) = false
is_read ask.keep = false
is_read ask.back = false
is_read ask.stat = false

-- a flush is in hand, and it is of this session, or the request is no read
abbrev pub waits : Option Flush → ℕ → Request → Bool
waits None s r = false
waits (Some h) s r = (h.session == s) || not (is_read r)

-- a put or a del that is neither refused nor quiet: it begins a flush
abbrev pub begins : Limits → State → Request → Bool
begins limits t (ask.change c) = nat_lt 0 (served limits t (ask.change c)).saves.least
begins limits t (ask.get name) = false
begins limits t (ask.old name) = false
begins limits t ask.keep = false
begins limits t ask.back = false
begins limits t ask.list = false
begins limits t ask.stat = false

-- the flush that a request of a session begins: it takes at most twice as many steps as there are names
-- after the request, and one
abbrev pub flush_by : Limits → State → ℕ → Request → Flush
flush_by limits t s r = record {
  session = s;
  left = 2 * fin.len (served limits t r).state.map + 1;
  least = t.sequence + (served limits t r).saves.least;
  most = t.sequence + (served limits t r).saves.most;
}

-- the first request is taken: it begins a flush, or is served and replied
abbrev pub TakesIf : Bool → Limits → ℕ → Request → List Request → Desk → Answer → Desk → Type 0
TakesIf true limits s r rest d a d' = (a ≡ answer.begun s)
    × (d' ≡ record (with_queue d s rest) {
      state = (served limits d.state r).state;
      hand = Some (flush_by limits d.state s r);
    })
TakesIf false limits s r rest d a d' = (a ≡ answer.to s (served limits d.state r).reply)
    × Step limits d.state r (served limits d.state r).reply d'.state
    × (d' ≡ record (with_queue d s rest) { state = d'.state })

abbrev pub ServesIf : Bool → Limits → ℕ → Request → List Request → Desk → Answer → Desk → Type 0
ServesIf true limits s r rest d a d' = (a ≡ answer.wait s) × (d' ≡ d)
ServesIf false limits s r rest d a d' = TakesIf (begins limits d.state r) limits s r rest d a d'

abbrev pub ServesFirst : List Request → Limits → ℕ → Desk → Answer → Desk → Type 0
ServesFirst [] limits s d a d' = (a ≡ answer.empty s) × (d' ≡ d)
ServesFirst (r ∷ rest) limits s d a d' = ServesIf (waits d.hand s r) limits s r rest d a d'

-- ---- step

-- an object was moved, and the flush goes on: it may take fewer steps then, and at least one
pub record Moves (h : Flush) (d : Desk) (a : Answer) (d' : Desk) : Type 0 where
  pub says : a ≡ answer.moved
  pub left : ℕ
  pub some : 1 ≤ left
  pub fewer : left < h.left
  pub desk : d' ≡ record d { hand = Some (record h { left = left }) }

-- the flush settled, which is a checkpoint, and its request is replied
pub record Settles (h : Flush) (d : Desk) (a : Answer) (d' : Desk) : Type 0 where
  pub says : a ≡ answer.to h.session ask.kept
  pub sequence : ℕ
  pub low : h.least ≤ sequence
  pub high : sequence ≤ h.most
  pub desk : d' ≡ record d { state = record d.state { sequence = sequence }; hand = None }

abbrev pub StepsOn : Option Flush → Desk → Answer → Desk → Type 0
StepsOn None d a d' = (a ≡ answer.idle) × (d' ≡ d)
StepsOn (Some h) d a d' = Moves h d a d' ⊎ Settles h d a d'

-- ---- events

-- what an event is answered, and what it leaves
abbrev pub EventStep : Limits → Desk → Event → Answer → Desk → Type 0
EventStep limits d (event.say s r) a d' = SaysIf (has_room d s r) s r d a d'
EventStep limits d (event.serve s) a d' = ServesFirst (queue_of d s) limits s d a d'
EventStep limits d event.step a d' = StepsOn d.hand d a d'

-- what events are answered one after another, and the desk after each
abbrev pub Plays : Limits → Desk → List Event → List Answer → List Desk → Type 0
Plays limits d [] [] [] = Unit {0}
Plays limits d (e ∷ es) (a ∷ answers) (t ∷ ds) = EventStep limits d e a t × Plays limits t es answers ds
Plays limits d [] [] (t ∷ ds) = ⊥
Plays limits d [] (a ∷ answers) ds = ⊥
Plays limits d (e ∷ es) [] ds = ⊥
Plays limits d (e ∷ es) (a ∷ answers) [] = ⊥

abbrev pub last_desk : Desk → List Desk → Desk
last_desk d [] = d
last_desk d (t ∷ ds) = last_desk t ds

-- ---- the end

-- how many requests wait
abbrev pub waiting : List (List Request) → ℕ
waiting qs = sum_by length qs

-- at the end of the input a flush in hand is finished, and its request is replied
abbrev pub finished : Option Flush → List Answer
finished None = []
finished (Some h) = answer.to h.session ask.kept ∷ []

-- what is put at the end of the input: the reply of a flush in hand, and how many requests wait
abbrev pub end_lines : Desk → List ℕ
end_lines d =
    flat_map answer_text (finished d.hand) ++ codes "left " ++ decimal (waiting d.queues) ++ codes "\n"
