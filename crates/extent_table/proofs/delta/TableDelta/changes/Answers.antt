use Rattle.std.proofs.Common.{◌+◌, sym, ◌∙◌}
use Rattle.extent_table.proofs.DeltaLaws.{changes_of-count}
use Rattle.extent_table.proofs.delta.TableDelta.changes.Goals as goal

pub returns : goal.returns
returns c = (λ i. c.kept_count.ensures i + c.count.ensures.value i)
    ∙ sym (changes_of-count c.args.self.now c.count.ensures.table)
