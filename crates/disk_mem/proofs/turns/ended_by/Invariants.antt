use Rattle.std.proofs.Common.{◌≡◌, ◌≤◌, length, take, None, option_map, slice_get}
use Rattle.disk_mem.specs.Entries.{stamp_of, newest_first}
use Rattle.disk_mem.specs.Turns.{at_turn}
use Rattle.disk_mem.proofs.turns.ended_by.Given as goal

abbrev pub invariant-later : goal.invariant-later
invariant-later l = record {
  within : l.count ≤ length l.entries;
  turn : at_turn l.turn None (newest_first l.entries)
      ≡ at_turn l.turn (option_map stamp_of (slice_get l.entries l.count))
      (newest_first (take l.count l.entries));
}

abbrev pub decreases-later : goal.decreases-later
decreases-later l = l.count
