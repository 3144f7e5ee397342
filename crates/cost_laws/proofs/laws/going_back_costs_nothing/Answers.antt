use Rattle.cost_laws.proofs.CellLaws.{quiet_rises, rows_rise, potential_rises}
use Rattle.cost_laws.proofs.laws.going_back_costs_nothing.Goals as goal

pub returns-clause-quiet : goal.returns-clause-quiet
returns-clause-quiet c = quiet_rises

pub returns-clause-rows : goal.returns-clause-rows
returns-clause-rows c = rows_rise

pub returns-clause-potential : goal.returns-clause-potential
returns-clause-potential c = potential_rises
