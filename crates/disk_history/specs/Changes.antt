-- The changing calls on a file: what reads give after them, and what stands unsynced.
use Rattle.std.specs.Prelude.{ℕ, ◌+◌, nat_le, if◌then◌else◌, List, [], ◌∷◌, length}
use Rattle.byte_ranges.specs.Ranges.{overwritten, resized}
use Rattle.disk_face.specs.Images.{Unsynced, after_sync, with_range, with_length}

-- a write of bytes at a position, a change of the length, or a sync
pub data RecordedCall : Type 0 where
  Wrote : ℕ → List ℕ → RecordedCall
  Sized : ℕ → RecordedCall
  Synced : RecordedCall

-- a file after a call; a write that isn't within the file changes nothing
abbrev pub changed : RecordedCall → List ℕ → List ℕ
changed (Wrote at bytes) file = if nat_le (at + length bytes) (length file) then overwritten file at bytes
    else file
changed (Sized n) file = resized file n
changed Synced file = file

-- what stands unsynced while a call runs: the range counts as written, both lengths as held, and a sync has
-- done nothing yet
abbrev pub during : RecordedCall → Unsynced → Unsynced
during (Wrote at bytes) u = with_range u at (length bytes)
during (Sized n) u = with_length u n
during Synced u = u

-- what stands unsynced after a call on this file
abbrev pub left_by : RecordedCall → List ℕ → Unsynced → Unsynced
left_by (Wrote at bytes) file u = with_range u at (length bytes)
left_by (Sized n) file u = with_length u n
left_by Synced file u = after_sync file

-- a call, and the turn in which it was made
pub record Stamped : Type 0 where
  pub began : ℕ
  pub change : RecordedCall

-- what reads give, from what was synced at first and the calls since, the newest first
abbrev pub content_after : List ℕ → List Stamped → List ℕ
content_after base [] = base
content_after base (call ∷ earlier) = changed call.change (content_after base earlier)

-- what stands unsynced after these calls
abbrev pub unsynced_after : List ℕ → List Stamped → Unsynced
unsynced_after base [] = after_sync base
unsynced_after base (call ∷ earlier) =
    left_by call.change (content_after base earlier) (unsynced_after base earlier)
