-- Where the end of a log is found. No file of the program has a log yet.
use Rattle.std.specs.Prelude.{◌≡◌, ℕ, ◌+◌, ◌*◌, ◌%◌, ◌<◌, ◌≤◌}
use Rattle.slot_pair.specs.declared.log_end.LogEnd.{LogEnd}

-- The end of a log from a first gate on: behind it by 512 bytes for each entry at least, below the top if the
-- first gate is, and at a multiple of 512 if that is at one.
pub record IsLogEnd (at top : ℕ) (log : LogEnd) : Type 0 where
  pub behind : at + 512 * log.entries ≤ log.end
  pub below : at < top → log.end < top
  pub multiple : at % 512 ≡ 0 → log.end % 512 ≡ 0

-- so many bytes of an entry and its gap, with the next gate below the top
pub record IsRoom (at top room : ℕ) : Type 0 where
  pub some : 512 ≤ room
  pub whole : room % 512 ≡ 0
  pub below : at + room < top
