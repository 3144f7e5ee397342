use Rattle.std.proofs.Common.{◌≡◌, ◌≤◌, take, drop}
use Rattle.disk_mem.specs.Entries.{newest_first}
use Rattle.disk_mem.specs.Tearing.{up_to_sync, since_sync}
use Rattle.disk_mem.proofs.turns.synced_by.Given as goal

abbrev pub invariant-calls : goal.invariant-calls
invariant-calls l = record {
  within : l.synced ≤ l.i;
  up_to : newest_first (take l.synced l.entries) ≡ up_to_sync (newest_first (take l.i l.entries));
  since : newest_first (drop l.synced (take l.i l.entries)) ≡ since_sync (newest_first (take l.i l.entries));
}
