-- What a read of an object does, of now or of the last checkpoint.
use Rattle.std.specs.Prelude.{◌≡◌, ℕ, Bool, true, false, List, [], ◌+◌, ◌++◌, length, Option, None, Result, IfSome, IsTrue}
use Rattle.std.specs.FinMap as fin
use Rattle.disk_face.specs.Devices.{Devices}
use Rattle.disk_face.specs.Frames.{Unchanged}
use Rattle.slot_pair.specs.Finding.{HasDiskCause}
use Rattle.map_model.specs.Requests as ask
use Rattle.segment_layout.specs.Books.{is_damaged}
use Rattle.map_model.specs.Requests.{Request}
use Rattle.extent_table.specs.declared.spot.Spot.{Spot}
use Rattle.store_model.specs.declared.answers.Refusal.{Refusal}
use Rattle.store_model.specs.declared.answers.Refusal.TheVariants as why
use Rattle.store_model.specs.declared.answers.Moment.{Moment}
use Rattle.store_model.specs.declared.answers.Moment.TheVariants as moment
use Rattle.store_model.specs.Answers.{AnswersRead, place_at, refused_by, reply_of, size_at}
use Rattle.store_model.specs.Digested.{digest_of}
use Rattle.store_model.specs.Connection.{StoreValue, base_of, limits_of, state_of}
use Rattle.data_area.specs.Causes.{HasSinkCause}
use Rattle.store_model.specs.Reads.{GivesObject}
use Rattle.store_model.specs.States.{State, Step, object_in}

-- the request for the object of a name
abbrev pub asks_for : Moment → List ℕ → Request
asks_for moment.Now name = ask.get name
asks_for moment.Kept name = ask.old name

-- where the object stands that a request reads
abbrev pub spot_read : StoreValue → Request → Option Spot
spot_read s (ask.get name) = fin.get s.now name
spot_read s (ask.old name) = fin.get s.kept name
spot_read s _ = None

-- the position in the file at which it begins, if there is one
abbrev pub position_of : StoreValue → Request → ℕ
position_of s r = base_of s + place_at (spot_read s r)

-- and its bytes
abbrev pub object_read : State → Request → List ℕ
object_read s (ask.get name) = object_in s.map name
object_read s (ask.old name) = object_in s.kept name
object_read s _ = []

-- the digest that they are to have, if there are digests
abbrev pub digest_read : StoreValue → Request → Option (List ℕ)
digest_read s (ask.get name) = digest_of s.book.digests name
digest_read s (ask.old name) = digest_of s.kept_book.digests name
digest_read s _ = None

-- they have another
abbrev pub is_damaged_read : State → Request → Bool
is_damaged_read s (ask.get name) = is_damaged s.book s.map name
is_damaged_read s (ask.old name) = is_damaged s.kept_book s.kept name
is_damaged_read s _ = false

-- A read answers the size of the object, or the first refusal that applies, and gives a head and the object's
-- bytes to the sink, or a front of them where a device failed; of an object that is damaged it gives nothing.
-- It changes neither the store nor the disk.
pub record IsRead (r : Request) (head : List ℕ) (old new : StoreValue) (before now : Devices)
    (result : Result ℕ Refusal) : Type 0 where
  pub answer : AnswersRead (refused_by old r) (size_at (spot_read old r)) result
  pub gives : IsTrue before.sink.tells → GivesObject (refused_by old r) before.disk.tells
      (head ++ object_read (state_of old before.disk.file) r) before.sink.given now.sink.given
      (length head) result
  pub clean : old.is_broken ≡ false → IsTrue before.disk.tells
      → is_damaged_read (state_of old before.disk.file) r ≡ true → now.sink ≡ before.sink
  pub step : old.is_broken ≡ false → IsTrue before.disk.tells
      → IfSome (reply_of (λ n. ask.found (object_read (state_of old before.disk.file) r)) result)
      (λ reply. Step (limits_of old) (state_of old before.disk.file) r reply (state_of new now.disk.file))
  pub store : new ≡ old
  pub frame : Unchanged before.disk now.disk
  pub disk_cause : HasDiskCause why.Disk before.disk.faults now.disk.faults result
  pub sink_cause : HasSinkCause why.Sink before.sink now.sink result
