use Rattle.std.proofs.Common.{◌≡◌, take}
use Rattle.disk_history.specs.Changes.{content_after}
use Rattle.disk_mem.specs.Entries.{newest_first}
use Rattle.disk_mem.proofs.image.replay.Given as goal

abbrev pub invariant-calls : goal.invariant-calls
invariant-calls l = l.file.items ≡ content_after l.initial.file.items
    (newest_first (take l.entry-index l.entries))
