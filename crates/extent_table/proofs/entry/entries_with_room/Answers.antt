use Rattle.std.proofs.Common.{refl}
use Rattle.extent_table.specs.Entries.{entries_of}
use Rattle.extent_table.proofs.entry.entries_with_room.Goals as goal

pub returns-clause-empty : goal.returns-clause-empty
unfolding entries_of
returns-clause-empty c = rw c.in-Ok.ensures.empty refl
