-- What serving one request does: to the store and its disk, and to the sink.
use Rattle.std.specs.Prelude.{◌≡◌, ◌⊎◌, ℕ, ◌+◌, ◌-◌, ◌<◌, Bool, true, false, ◌&&◌, if◌then◌else◌, List, [], ◌++◌, codes, length, Option, Some, None, Result, Ok, Err, IfErr, IfOk, IsTrue, OnOk}
use Rattle.disk_face.specs.Counts.{counted}
use Rattle.disk_face.specs.Frames.{Unchanged}
use Rattle.disk_face.specs.States as disk
use Rattle.disk_face.specs.Devices.{Devices}
use Rattle.disk_face.specs.Moments.{Leaves}
use Rattle.disk_face.specs.Writes.{KeepsDisk}
use Rattle.slot_pair.specs.Finding.{HasDiskCause}
use Rattle.size_class.specs.declared.TheConstants.{SIZE_MAX}
use Rattle.map_model.specs.Requests as ask
use Rattle.map_model.specs.Requests.{Reply, Request}
use Rattle.segment_layout.specs.Books.{next_book}
use Rattle.segment_layout.specs.Bounds.{Loose}
use Rattle.table_rules.specs.Opening.{Opens}
use Rattle.table_rules.specs.Sequences.{HasSequenceUpTo}
use Rattle.store_model.specs.Connection.{IsConnected, StoreValue, RestsOnTable, base_of, kept_map, limits_of, state_of}
use Rattle.store_model.specs.Quiet.{quiet_calls}
use Rattle.data_area.specs.Causes.{HasSinkCause}
use Rattle.store_model.specs.States.{Limits, Served, State, Step, facts_of, refusal, served}
use Rattle.ask_text.specs.Replies.{reply_text}
use Rattle.ask_text.specs.declared.ends.End.{End}
use Rattle.ask_text.specs.declared.ends.End.TheVariants as ends

-- ---- faults of the disk

abbrev pub is_disk : End → Bool
is_disk ends.Disk = true
is_disk ends.End = false
is_disk ends.Line = false
is_disk ends.Source = false
is_disk ends.Sink = false
is_disk ends.Budget = false

abbrev pub is_disk_fault : {T : Type 0} → Result T End → Bool
is_disk_fault (Ok x) = false
is_disk_fault (Err end) = is_disk end

-- ---- requests and replies

-- a request that may change the map, or saves a checkpoint
abbrev pub is_changing : Request → Bool
is_changing (ask.change c) = true
is_changing ask.keep = true
is_changing (ask.get name) = false
is_changing (ask.old name) = false
is_changing ask.back = false
is_changing ask.list = false
is_changing ask.stat = false

-- a reply that acknowledges a checkpoint
abbrev pub acknowledges : Reply → Bool
acknowledges ask.kept = true
acknowledges ask.done = false
acknowledges (ask.found object) = false
acknowledges (ask.refused why) = false
acknowledges (ask.listed entries) = false
acknowledges (ask.counts names bytes kept_names kept_bytes) = false

-- what a store over a file replies, and what it becomes but for its sequence
abbrev pub served_at : StoreValue → List ℕ → Request → Served
served_at s file r = served (limits_of s) (state_of s file) r

abbrev pub reply_at : StoreValue → List ℕ → Request → Reply
reply_at s file r = (served_at s file r).reply

-- the changing calls of a request that makes no checkpoint: of one that is refused, none
abbrev pub calls_of : Limits → State → Request → ℕ
calls_of limits s (ask.change c) = by (refusal limits (facts_of s (ask.change c)) (ask.change c))
  where
    by : Option ask.Refused → ℕ
    by (Some why) = 0
    by None = if (next_book limits.k s.map s.book c).quiet then quiet_calls c else 0
calls_of limits s (ask.get name) = 0
calls_of limits s (ask.old name) = 0
calls_of limits s ask.keep = 0
calls_of limits s ask.back = 0
calls_of limits s ask.list = 0
calls_of limits s ask.stat = 0

-- ---- the store and its disk

-- An image that is left while a store over a file serves a request: it opens to the last checkpoint or,
-- where the request makes one, to what stands after it; its sequence is at most as much greater as the
-- request may save checkpoints; and its data part is within bounds for the maps before and after.
pub record IsServingImage (classes : ℕ) (s : StoreValue) (r : Request) (file image : List ℕ) : Type 0 where
  pub opens : Opens classes SIZE_MAX image (kept_map s file) s.kept_book
      ⊎ ((0 < (served_at s file r).saves.least)
      × Opens classes SIZE_MAX image (served_at s file r).state.map (served_at s file r).state.book)
  pub sequence : HasSequenceUpTo (s.in_use.sequence + (served_at s file r).saves.most) image
  pub loose : Loose s.in_use.block.k (length image - base_of s) (state_of s file).map
      (served_at s file r).state.map

-- A request was served, but where the disk failed: it is a step, and the calls of one that makes no
-- checkpoint are counted. A request that may not change the map and saves nothing leaves the disk as it was.
-- Where the disk failed in a change the store is broken; where it failed in a read the store is what it
-- was. A store that isn't broken is over its file. What a crash may leave meanwhile are images of
-- serving, where the disk rested on the last checkpoint's table; it does so again.
pub record Serves {T : Type 0} (classes : ℕ) (r : Request) (old new : StoreValue) (before now : disk.State)
    (result : Result T End) : Type 0 where
  pub step : IsTrue before.tells → is_disk_fault result ≡ false → Step (limits_of old)
      (state_of old before.file) r (reply_at old before.file r) (state_of new now.file)
  pub block : is_disk_fault result ≡ false → new.in_use.block ≡ old.in_use.block
  pub calls : IsTrue before.tells → is_disk_fault result ≡ false
      → (served_at old before.file r).saves.least ≡ 0
      → now.turn ≡ counted before.turn (calls_of (limits_of old) (state_of old before.file) r)
  pub reads : is_changing r ≡ false → is_disk_fault result ≡ true → new ≡ old
  pub still : is_changing r ≡ false → Unchanged before now
  pub over : IsConnected classes new now
  pub broken : new.is_broken ≡ (is_changing r && is_disk_fault result)
  pub left : IsTrue before.tells → RestsOnTable (base_of old) old.kept before
      → Leaves before now (IsServingImage classes old r before.file)
  pub rests : IsTrue before.tells → new.is_broken ≡ false → RestsOnTable (base_of old) old.kept before
      → RestsOnTable (base_of new) new.kept now
  pub frame : KeepsDisk before now

-- ---- the sink

-- a front of a text was put; where the disk failed it isn't the whole text, if it is anything
pub record IsFront (text before now : List ℕ) (cut : Bool) : Type 0 where
  pub put : List ℕ
  pub rest : List ℕ
  pub given : now ≡ before ++ put
  pub whole : text ≡ put ++ rest
  pub some : cut ≡ true → rest ≡ [] → put ≡ []

-- The text was put, or a front of it where a device failed.
pub record PutsText {T : Type 0} (text before now : List ℕ) (result : Result T End) : Type 0 where
  pub all : OnOk result (now ≡ before ++ text)
  pub front : IfErr result (λ end. IsFront text before now (is_disk end))

-- a device of the store or of the replies failed
abbrev pub IsServingFault : End → Type 0
IsServingFault ends.Disk = Unit {0}
IsServingFault ends.Sink = Unit {0}
IsServingFault ends.End = ⊥
IsServingFault ends.Line = ⊥
IsServingFault ends.Source = ⊥
IsServingFault ends.Budget = ⊥

-- A request was served and its reply put, or a front of it where a device failed: nothing where the disk
-- failed in a change. The answer is whether the reply acknowledges a checkpoint; whatever the disk
-- tells, it says so only where `ok kept` was put.
pub record Replies (classes : ℕ) (r : Request) (old new : StoreValue) (before now : Devices)
    (result : Result Bool End) : Type 0 where
  pub serves : Serves classes r old new before.disk now.disk result
  pub kept : IsTrue before.disk.tells
      → IfOk result (λ kept. kept ≡ acknowledges (reply_at old before.disk.file r))
  pub puts : IsTrue before.disk.tells → IsTrue before.sink.tells
      → PutsText (reply_text (reply_at old before.disk.file r)) before.sink.given now.sink.given result
  pub said : IsTrue before.sink.tells → result ≡ Ok true
      → now.sink.given ≡ before.sink.given ++ codes "ok kept\n"
  pub nothing : IsTrue before.sink.tells → is_changing r ≡ true → is_disk_fault result ≡ true
      → now.sink.given ≡ before.sink.given
  pub only : IfErr result IsServingFault
  pub disk_cause : HasDiskCause ends.Disk before.disk.faults now.disk.faults result
  pub sink_cause : HasSinkCause ends.Sink before.sink now.sink result

-- A read was served, also where a flush is in hand: the store and the disk are what they were, and the reply
-- was put, or a front of it where a device failed. It is what the map of the file is replied, with the
-- digests of the book. No checkpoint is acknowledged.
pub record GivesReply (r : Request) (old new : StoreValue) (before now : Devices)
    (result : Result Bool End) : Type 0 where
  pub store : new ≡ old
  pub still : Unchanged before.disk now.disk
  pub kept : IfOk result (λ kept. kept ≡ false)
  pub puts : IsTrue before.disk.tells → IsTrue before.sink.tells
      → PutsText (reply_text (reply_at old before.disk.file r)) before.sink.given now.sink.given result
  pub only : IfErr result IsServingFault
  pub disk_cause : HasDiskCause ends.Disk before.disk.faults now.disk.faults result
  pub sink_cause : HasSinkCause ends.Sink before.sink now.sink result
