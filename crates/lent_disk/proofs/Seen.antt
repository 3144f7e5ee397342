-- What contracts see of the fields of a file in memory.
use Rattle.std.proofs.Common.{List, ℕ}
use Rattle.disk_history.specs.Histories.{History}
use Rattle.lent_disk.specs.Notings.{Noting, changes}
use Rattle.lent_disk.specs.Rooms.{Filing, Logging}

-- by the history, that at the start of the log, the one of what was asked for, the room and the log
abbrev pub seen_of : History → History → History → Filing → Logging → Noting
seen_of history start asked room log = record {
  history = history;
  start = start;
  text = log.text;
  asked = changes asked.calls;
  room = room.most;
  log_room = log.most;
}

abbrev pub file_in : Filing → List ℕ
file_in room = room.file
