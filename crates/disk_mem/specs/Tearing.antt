-- How an image of a turn is built, call by call.
use Rattle.std.specs.Prelude.{ℕ, ◌-◌, nat_eq, Bool, true, false, cond, if◌then◌else◌, List, [], ◌∷◌, ◌++◌, length, take, replicate, map, slice_index, Option, Some, None}
use Rattle.byte_ranges.specs.Lists.{below}
use Rattle.disk_face.specs.Images.{in_range}
use Rattle.disk_history.specs.Changes.{RecordedCall, Stamped, content_after}
use Rattle.disk_history.specs.Changes.RecordedCall.{Wrote, Sized, Synced}
use Rattle.disk_mem.specs.declared.image.Choice.{Choice}
use Rattle.disk_mem.specs.declared.image.Choice.TheVariants.{Durable, Newest, Torn}

-- a file with the byte b in a range
abbrev pub filled : ℕ → ℕ → ℕ → List ℕ → List ℕ
filled b at n file = map (λ i. cond (in_range i (at, n)) b (slice_index file i)) (below (length file))

-- a file after a call, with b for each byte that the call wrote or grew
abbrev pub smeared : ℕ → RecordedCall → List ℕ → List ℕ
smeared b (Wrote at bytes) file = filled b at (length bytes) file
smeared b (Sized n) file = take n file ++ replicate (n - length file) b
smeared b Synced file = file

-- after these calls, the newest first
abbrev pub smeared_after : ℕ → List ℕ → List Stamped → List ℕ
smeared_after b file [] = file
smeared_after b file (call ∷ earlier) = smeared b call.change (smeared_after b file earlier)

-- the call is a sync
abbrev pub is_sync : RecordedCall → Bool
is_sync (Wrote at bytes) = false
is_sync (Sized n) = false
is_sync Synced = true

-- the calls up to the last sync
unfoldable pub up_to_sync : List Stamped → List Stamped
up_to_sync [] = []
up_to_sync (call ∷ earlier) = if is_sync call.change then call ∷ earlier else up_to_sync earlier

-- the calls since the last sync
unfoldable pub since_sync : List Stamped → List Stamped
since_sync [] = []
since_sync (call ∷ earlier) = if is_sync call.change then [] else call ∷ since_sync earlier

-- a file with the byte b in the range of a write
abbrev pub smeared_within : ℕ → RecordedCall → List ℕ → List ℕ
smeared_within b (Wrote at bytes) file = filled b at (length bytes) file
smeared_within b (Sized n) file = file
smeared_within b Synced file = file

-- the same of the next call, where that was made in the turn
abbrev pub smeared_next : ℕ → ℕ → Option Stamped → List ℕ → List ℕ
smeared_next t b None file = file
smeared_next t b (Some call) file = if nat_eq call.began t then smeared_within b call.change file else file

-- the image that is asked for, from what the last sync left, the calls since, and the next one
abbrev pub finished : ℕ → Choice → Option Stamped → List Stamped → List ℕ → List ℕ
finished t Durable next since file = file
finished t Newest next since file = content_after file since
finished t (Torn b) next since file = smeared_next t b next (smeared_after b file since)
