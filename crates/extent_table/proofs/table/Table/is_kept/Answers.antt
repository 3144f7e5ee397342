use Rattle.extent_table.proofs.TableLemmas.{table}
use Rattle.extent_table.proofs.table.Table.is_kept.Goals as goal

pub returns-then-not-self-clause-table : goal.returns-then-not-self-clause-table
returns-then-not-self-clause-table c = rw (← c.self.view_is) (table c.self.invariant.sound
    c.self.invariant.room.limit c.self.invariant.cap c.self.invariant.digests c.self.invariant.kept_digests)

pub returns-else-not-self-clause-table : goal.returns-else-not-self-clause-table
returns-else-not-self-clause-table c = rw (← c.self.view_is) (table c.self.invariant.sound
    c.self.invariant.room.limit c.self.invariant.cap c.self.invariant.digests c.self.invariant.kept_digests)
