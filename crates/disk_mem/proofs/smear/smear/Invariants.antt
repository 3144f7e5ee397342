use Rattle.std.proofs.Common.{◌≡◌, take}
use Rattle.disk_mem.specs.Tearing.{smeared_after}
use Rattle.disk_mem.specs.Entries.{newest_first}
use Rattle.disk_mem.proofs.smear.smear.Given as goal

abbrev pub invariant-calls : goal.invariant-calls
invariant-calls l = l.file.items ≡ smeared_after l.byte l.initial.file.items
    (newest_first (take l.entry-index l.entries))
