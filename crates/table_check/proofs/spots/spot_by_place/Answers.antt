use Rattle.table_check.proofs.NextLaws.{in_range}
use Rattle.table_check.proofs.spots.spot_by_place.Goals as goal

pub returns-clause-low : goal.returns-clause-low
returns-clause-low c = (in_range c.args.table.now c.count-few.ensures.table c.args.rank c.at_place.result.1
    (c.at_place.ensures.0, c.at_place.ensures.1)).0

pub returns-clause-small : goal.returns-clause-small
returns-clause-small c = (in_range c.args.table.now c.count-few.ensures.table c.args.rank c.at_place.result.1
    (c.at_place.ensures.0, c.at_place.ensures.1)).1
