-- The headline: what a session over a store's file answers, how long the file is meanwhile, and what a crash
-- leaves.
use Rattle.std.specs.Prelude.{◌≡◌, ◌≢◌, ◌⊎◌, ℕ, ◌+◌, ◌-◌, ◌<◌, ◌≤◌, ◌↔◌, ◌==◌, Bool, true, false, ◌||◌, if◌then◌else◌, List, [], ◌∷◌, ◌++◌, length, flat_map, Result, Err, IsTrue}
use Rattle.disk_face.specs.Counts.{IsCalm, Rose, counted, last}
use Rattle.disk_face.specs.States as disk
use Rattle.disk_face.specs.Moments.{LeftOnly}
use Rattle.disk_face.specs.Mounts.{is_mounted}
use Rattle.disk_face.specs.Streams.{SinkState, SourceState}
use Rattle.size_class.specs.declared.TheConstants.{CLASSES, SIZE_MAX}
use Rattle.slot_codec.specs.Choice as choice
use Rattle.slot_codec.specs.Spelling.{head_len}
use Rattle.slot_codec.specs.declared.codec.Kind.TheVariants as kind
use Rattle.map_model.specs.Maps.{Map}
use Rattle.map_model.specs.Requests.{Reply, Request}
use Rattle.segment_layout.specs.Books.{Book, book_end}
use Rattle.segment_layout.specs.Bounds.{Loose}
use Rattle.table_rules.specs.Opening.{OpensBy}
use Rattle.table_rules.specs.Sequences.{HasSequenceUpTo}
use Rattle.store_model.specs.States.{Limits, State, served}
use Rattle.store_model.specs.Opened.{ContinuesFrom, LeavesRoom, RestsOnFound}
use Rattle.ask_text.specs.Inputs.{Asks}
use Rattle.ask_text.specs.Replies.{reply_text}
use Rattle.ask_session.specs.Serving.{is_changing}
use Rattle.ask_session.specs.Runs.{SomeStep, budget, calls_since, last_kept, last_state}
use Rattle.command_face.specs.Outcomes.{PutsLast, line_at, status_at}
use Rattle.command_face.specs.declared.stop.StopReason.{StopReason}
use Rattle.command_face.specs.declared.stop.StopReason.TheVariants as stop
use Rattle.command_face.specs.declared.outcome.Outcome.{Outcome}
use Rattle.disk_face.specs.Devices.{Devices}
use Rattle.served_file.specs.Served.{Found, found_by, limits_with, Starts, Ran, state_after, OpensTo, has_failed, EndsTight, OpensToKept, OpensToBeing, most_left, IsNextStart, turn_opened}
use Rattle.command_face.specs.declared.status.TheConstants.{DISK_FAILED, DONE, FAULTY_REQUEST, NO_FILE, NO_MEMORY, NO_STORE, SINK_FAILED, SOURCE_FAILED, TOO_MANY_REQUESTS}

-- ---- the request that comes next

abbrev pub next_reply : Limits → State → List Request → List ℕ
next_reply limits s [] = []
next_reply limits s (r ∷ others) = reply_text (served limits s r).reply

-- it may change the map, or saves a checkpoint
abbrev pub next_is_changing : List Request → Bool
next_is_changing [] = false
next_is_changing (r ∷ others) = is_changing r

-- the state after it, but for its sequence
abbrev pub next_states : Limits → State → List Request → List State
next_states limits s [] = []
next_states limits s (r ∷ others) = (served limits s r).state ∷ []

-- how far it may raise the sequence
abbrev pub next_saves : Limits → State → List Request → ℕ
next_saves limits s [] = 0
next_saves limits s (r ∷ others) = (served limits s r).saves.most

-- where it makes a checkpoint, each of these images opens to that
abbrev pub NextIsSafe : Limits → State → List Request → (List ℕ → Type 0) → Type 0
NextIsSafe limits s [] images = Unit {0}
NextIsSafe limits s (r ∷ others) images = 0 < (served limits s r).saves.least
    → (image : List ℕ) → images image → OpensTo (served limits s r).state image

-- ---- statuses

-- the statuses of a session
abbrev pub is_session : ℕ → Bool
is_session status = (status == DONE) || (status == FAULTY_REQUEST) || (status == NO_FILE)
    || (status == DISK_FAILED) || (status == SOURCE_FAILED) || (status == SINK_FAILED)
    || (status == NO_MEMORY) || (status == TOO_MANY_REQUESTS)

-- the session served its requests, and no disk or sink failed
abbrev pub is_whole : ℕ → Bool
is_whole status = (status == DONE) || (status == FAULTY_REQUEST) || (status == SOURCE_FAILED)
    || (status == TOO_MANY_REQUESTS)

-- opening had an end that isn't want of memory
abbrev pub has_opened : ℕ → Bool
has_opened status = if status == NO_FILE then false else if status == NO_MEMORY then false else true

-- the states that the requests leave: where the sink failed the next one was served too, but its reply
-- wasn't put whole
abbrev pub served_states : ℕ → Limits → State → List State → List Request → List State
served_states status limits start states others =
    if status == SINK_FAILED then states ++ next_states limits (last_state start states) others else states

-- and how far they may raise the sequence beyond the requests that were answered
abbrev pub saves_after : ℕ → Limits → State → List Request → ℕ
saves_after status limits s others = if status == SINK_FAILED then next_saves limits s others else 0

-- ---- replies

-- A front of the next reply: nothing unless disk or sink failed; where the disk failed not the whole of it,
-- and nothing of a request that may change the store.
pub record IsPartial (status : ℕ) (limits : Limits) (s : State) (others : List Request)
    (partial : List ℕ) : Type 0
  where
    pub none : has_failed status ≡ false → partial ≡ []
    pub front : (rest : List ℕ) × (next_reply limits s others ≡ partial ++ rest)
    pub cut : status ≡ DISK_FAILED → next_reply limits s others ≡ partial → partial ≡ []
    pub changing : status ≡ DISK_FAILED → next_is_changing others ≡ true → partial ≡ []

-- a faulty request has the number after those that were answered
abbrev pub NumbersLine : ℕ → Result (Unit {0}) StopReason → Type 0
NumbersLine n (Err (stop.Line number)) = number ≡ n + 1
NumbersLine n _ = Unit {0}

-- What was put: the replies, a front of the next one, and the line of the end.
pub record HasReplied (limits : Limits) (s : State) (replies : List Reply) (others : List Request)
    (status n : ℕ) (out after : SinkState) : Type 0 where
  pub between : List ℕ
  pub partial : List ℕ
  pub end : Result (Unit {0}) StopReason
  pub put : between ≡ out.given ++ flat_map reply_text replies ++ partial
  pub front : IsPartial status limits s others partial
  pub same_status : status ≡ status_at end
  pub numbered : NumbersLine n end
  pub line : PutsLast between after.given (line_at end) (Rose out.faults after.faults)

-- How far the session came, by its status: `end` is what the input has behind its requests.
pub record HowFar (status n : ℕ) (others : List Request) (end : List ℕ)
    (from rest : SourceState) : Type 0 where
  pub known : is_session status ≡ true
  pub done : status ≡ DONE → (others ≡ []) × (end ≡ [])
  pub line : status ≡ FAULTY_REQUEST → (others ≡ []) × (end ≢ [])
  pub absent : status ≡ NO_FILE → n ≡ 0
  pub disk : status ≡ DISK_FAILED → (others ≢ []) ⊎ (n ≡ 0)
  pub sink : status ≡ SINK_FAILED → others ≢ []
  pub memory : status ≡ NO_MEMORY → (n ≡ 0) × (rest ≡ from)
  pub few : n ≤ budget
  pub limit : (status ≡ TOO_MANY_REQUESTS) ↔ (n ≡ budget)

-- an image is as long as the start's layout, or within the bound of a step
abbrev pub IsWithinBounds : ℕ → ℕ → State → List State → List ℕ → Type 0
IsWithinBounds k base start states image = (length image ≡ base + book_end k start.book)
    ⊎ SomeStep (λ s t. Loose k (length image - base) s.map t.map) start states

-- Each image is within bounds: of a settled table since opening returned, which is at `opened`, and of a
-- moving one since the call began, but for those that are no longer than the file found.
pub record IsLong (k base : ℕ) (t : choice.SlotTable) (opened : ℕ) (start : State) (states : List State)
    (old new : disk.State) : Type 0 where
  pub settled : t.chosen.header.kind ≡ kind.Settled → opened ≤ new.turn
      → LeftOnly new opened (IsWithinBounds k base start states)
  pub moving : t.chosen.header.kind ≡ kind.Moving → LeftOnly new old.turn
      (λ image. (length image ≤ length old.file) ⊎ IsWithinBounds k base start states image)

-- opening of a settled table returned at that turn, which is told until a checkpoint is acknowledged
pub record IsTold (opened kept_done kept_turn : ℕ) : Type 0 where
  pub low : opened ≤ kept_turn
  pub first : kept_done ≡ 0 → kept_turn ≡ opened

-- a file is mounted
abbrev pub HasMounted : disk.State → Type 0
HasMounted d = IsTrue (is_mounted d.last_mount)

-- What a crash leaves: at any moment an acknowledged checkpoint or the one then being written; since the
-- last was acknowledged that one alone, or the one then being written; and once a sink failed at the reply
-- of a checkpoint, that checkpoint.
pub record IsCrashSafe {limits : Limits} {start : State} {requests : List Request} {n : ℕ}
    (ran : Ran limits start requests n) (o : Outcome) (old new : disk.State) : Type 0 where
  pub crash : LeftOnly new old.turn (λ image. OpensToKept start ran.replies ran.states image
      ⊎ OpensToBeing o.status limits (last_state start ran.states) ran.others image)
  pub since : HasMounted new → LeftOnly new o.kept_turn
      (λ image. OpensTo (state_after start ran.states o.kept_done) image
      ⊎ OpensToBeing o.status limits (last_state start ran.states) ran.others image)
  pub safe : o.status ≡ SINK_FAILED → NextIsSafe limits (last_state start ran.states) ran.others new.may_leave

-- ---- what is acknowledged

-- Which turn is told, whatever the devices tell: 0 where the call ended before opening. Else it lies within
-- the call, and where the file is refused or memory is wanting it is the last.
pub record IsKeptTurn (o : Outcome) (opened : Type 0) (before now : ℕ) : Type 0 where
  pub unopened : (opened → ⊥) → o.kept_turn ≡ 0
  pub low : opened → before ≤ o.kept_turn
  pub high : opened → o.kept_turn ≤ now
  pub refused : (o.status ≡ NO_STORE) ⊎ (o.status ≡ NO_MEMORY) → o.kept_turn ≡ now

-- The number of the last request that was answered with a checkpoint; and the turns since are the changing
-- calls of the requests after it.
pub record IsAcknowledged (limits : Limits) (start : State) (answered : List Request) (replies : List Reply)
    (states : List State) (o : Outcome) (now : ℕ) : Type 0 where
  pub number : o.kept_done ≡ last_kept 0 0 replies
  pub turns : IsTrue (is_whole o.status)
      → now ≡ counted o.kept_turn (calls_since limits 0 start states answered replies)

-- ---- the whole

-- What a session over a file does that has a superblock, opens by a table to a map and a book, and whose
-- input asks for these requests and then has `end`. What is said of images is said of a disk that rested on
-- that table, below the last turn, and of a moving table whose sequence leaves room for the saves of its
-- flush; what is said of lengths, of a disk whose count of faults didn't rise.
pub record RunHolds (found : Found) (requests : List Request) (end : List ℕ) (o : Outcome)
    (old new : Devices) (from rest : SourceState) : Type 0 where
  pub start : State
  pub starts : Starts found.table found.m found.b start
  pub continues : IsTrue (is_whole o.status) ⊎ (o.status ≡ SINK_FAILED)
      → ContinuesFrom found.table.chosen.header.kind found.table.chosen.header.sequence start.sequence
  pub ran : Ran (limits_with found.block) start requests o.done
  -- the replies are the map's
  pub far : HowFar o.status o.done ran.others end from rest
  pub replies : IsTrue old.sink.tells → HasReplied (limits_with found.block)
      (last_state start ran.states) ran.replies ran.others
      o.status o.done old.sink new.sink
  -- between requests, also where the sink failed after one
  pub between : IsTrue (is_whole o.status) ⊎ (o.status ≡ SINK_FAILED)
      → EndsTight found.block.k (head_len found.block.names)
      (last_state start (served_states o.status (limits_with found.block) start ran.states ran.others))
      new.disk.file
  -- within a request
  pub within : IsCalm old.disk.faults new.disk.faults → LeavesRoom found.table
      → RestsOnFound found.table old.disk → new.disk.turn < last
      → IsLong found.block.k (head_len found.block.names) found.table
      (turn_opened found.table found.b old.disk) start
      (served_states o.status (limits_with found.block) start ran.states ran.others) old.disk new.disk
  pub opened : IsCalm old.disk.faults new.disk.faults → found.table.chosen.header.kind ≡ kind.Settled
      → IsTrue (has_opened o.status)
      → IsTold (turn_opened found.table found.b old.disk) o.kept_done o.kept_turn
  -- a crash at any moment
  pub crash : LeavesRoom found.table → RestsOnFound found.table old.disk → new.disk.turn < last
      → IsCrashSafe ran o old.disk new.disk
  pub numbered : LeavesRoom found.table → RestsOnFound found.table old.disk → new.disk.turn < last
      → LeftOnly new.disk old.disk.turn (HasSequenceUpTo (most_left found.block.k found.table))
  -- what is acknowledged, and the turns since where the disk failed in a request that only reads, or before
  -- the first
  pub acknowledged : IsAcknowledged (limits_with found.block) start ran.answered ran.replies ran.states o
      new.disk.turn
  pub failed : o.status ≡ DISK_FAILED → HasMounted new.disk → (next_is_changing ran.others ≡ true)
      ⊎ (new.disk.turn ≡ counted o.kept_turn (calls_since (limits_with found.block) 0 start ran.states
      ran.answered ran.replies))
  -- where the disk didn't fail, the next call may begin
  pub next_start : IsCalm old.disk.faults new.disk.faults → IsNextStart found.table
      (last_state start (served_states o.status (limits_with found.block) start ran.states ran.others))
      ((last_state start ran.states).sequence
      + saves_after o.status (limits_with found.block) (last_state start ran.states) ran.others)
      old.disk new.disk
  pub reach : (last_state start ran.states).sequence
      + saves_after o.status (limits_with found.block) (last_state start ran.states) ran.others
      ≤ most_left found.block.k found.table

-- The headline: so it is of every file that opens, and of every input.
abbrev pub RunPromise : Outcome → Devices → Devices → SourceState → SourceState → Type 0
RunPromise o old new from rest =
    (t : choice.SlotTable) (m : Map) (b : Book) (requests : List Request) (end : List ℕ)
    → OpensBy CLASSES SIZE_MAX t old.disk.file m b → Asks from.left requests end
    → RunHolds (found_by t m b) requests end o old new from rest
