use Rattle.extent_table.proofs.TableLemmas.{table}
use Rattle.extent_table.proofs.table.Table.narrow.Goals as goal

pub returns-clause-table : goal.returns-clause-table
returns-clause-table c = table c.self.invariant.sound c.self.invariant.room.limit
    (rw (← c.self.view_is) at c.requires.low) c.self.invariant.digests c.self.invariant.kept_digests
