-- What a disk in memory held at a turn, and the images of that turn that it builds.
use Rattle.std.specs.Prelude.{ℕ, nat_le, nat_eq, if◌then◌else◌, cond, List, [], ◌∷◌, length, map, slice_index, Option, Some, None}
use Rattle.byte_ranges.specs.Lists.{below}
use Rattle.disk_face.specs.Counts.{counted}
use Rattle.disk_face.specs.Images.{Unsynced, IsImage, is_unsynced, with_range}
use Rattle.disk_history.specs.Changes.{RecordedCall, Stamped, content_after, unsynced_after, during}
use Rattle.disk_history.specs.Changes.RecordedCall.{Wrote, Sized, Synced}
use Rattle.disk_history.specs.Histories.{History}
use Rattle.disk_mem.specs.declared.image.Choice.{Choice}
use Rattle.disk_mem.specs.declared.image.Choice.TheVariants.{Durable, Newest, Torn}

-- the recorded calls that had ended by a turn, the newest first, and before them the next one, if any
unfoldable pub at_turn : ℕ → Option Stamped → List Stamped → Option Stamped × List Stamped
at_turn t next [] = (next, [])
at_turn t next (call ∷ earlier) =
    if nat_le (counted call.began 1) t then (next, call ∷ earlier) else at_turn t (Some call) earlier

-- the calls that had ended by a turn, the newest first
abbrev pub ended_by : History → ℕ → List Stamped
ended_by h t = (at_turn t None h.calls).1

-- the recorded call after them, if any
abbrev pub next_after : History → ℕ → Option Stamped
next_after h t = (at_turn t None h.calls).0

-- what stands unsynced within the next call, where that was made in the turn
abbrev pub within_next : ℕ → Option Stamped → Unsynced → Unsynced
within_next t None u = u
within_next t (Some call) u = if nat_eq call.began t then during call.change u else u

-- left at a moment of that turn
abbrev pub LeftAt : History → ℕ → List ℕ → Type 0
LeftAt h t image = IsImage (within_next t (next_after h t) (unsynced_after h.base (ended_by h t))) image

-- the content of the last sync up to the turn
abbrev pub durable_at : History → ℕ → List ℕ
durable_at h t = (unsynced_after h.base (ended_by h t)).synced

-- what reads gave after so many changing calls
abbrev pub newest_at : History → ℕ → List ℕ
newest_at h t = content_after h.base (ended_by h t)

-- within a write, its range counts as written
abbrev pub within_write : RecordedCall → Unsynced → Unsynced
within_write (Wrote at bytes) u = with_range u at (length bytes)
within_write (Sized n) u = u
within_write Synced u = u

-- the same of the next call, where that was made in the turn
abbrev pub within_next_write : ℕ → Option Stamped → Unsynced → Unsynced
within_next_write t None u = u
within_next_write t (Some call) u = if nat_eq call.began t then within_write call.change u else u

-- a file with the byte b wherever a crash may leave any
abbrev pub torn : ℕ → Unsynced → List ℕ → List ℕ
torn b u file = map (λ i. cond (is_unsynced u i) b (slice_index file i)) (below (length file))

-- the newest bytes, with b wherever one was written or grown since that sync, and in the range of a write
-- that is next
abbrev pub torn_at : History → ℕ → ℕ → List ℕ
torn_at h t b = torn b (within_next_write t (next_after h t) (unsynced_after h.base (ended_by h t)))
    (newest_at h t)

-- the image that is asked for
abbrev pub image_at : History → ℕ → Choice → List ℕ
image_at h t Durable = durable_at h t
image_at h t Newest = newest_at h t
image_at h t (Torn b) = torn_at h t b
