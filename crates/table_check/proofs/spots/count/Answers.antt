use Rattle.std.proofs.Common.{arith, sym, ◌∙◌}
use Rattle.extent_table.proofs.ExtentLaws.{records_of-count}
use Rattle.table_check.proofs.spots.count.Goals as goal

pub returns-clause-value : goal.returns-clause-value
returns-clause-value c =
    c.count.ensures.value ∙ sym (records_of-count c.args.table.now.now c.count.ensures.table.now_named)

pub returns-clause-few : goal.returns-clause-few
returns-clause-few c =
    omega (arith, c.count.ensures.value, c.count.ensures.table.now_room, c.count.ensures.table.limit)
