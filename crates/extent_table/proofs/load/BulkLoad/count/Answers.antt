use Rattle.std.proofs.Common.{sym, ◌∙◌, arith}
use Rattle.extent_table.specs.Parts.{now_of, spot_at}
use Rattle.extent_table.proofs.SideLemmas.{len_of}
use Rattle.extent_table.proofs.TableLemmas.{table}
use Rattle.extent_table.proofs.load.BulkLoad.count.Goals as goal

pub returns-clause-value : goal.returns-clause-value
returns-clause-value c = rw (← c.self.view_is)
    (c.len.ensures ∙ c.self.inside.order.ok.0
    ∙ sym (len_of c.self.invariant.sound.now (spot_at now_of c.self.inside.entries.slots)))

pub returns-clause-table : goal.returns-clause-table
returns-clause-table c =
    rw (← c.self.view_is) (table c.self.invariant.sound c.self.invariant.room.limit (omega arith)
    c.self.invariant.digests c.self.invariant.kept_digests)
