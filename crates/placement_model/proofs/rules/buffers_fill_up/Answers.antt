use Rattle.placement_model.proofs.RiseLaws.{CellsRise-itself, CellsRise-then, CellsRise-with_entry, taken-rises}
use Rattle.placement_model.proofs.rules.buffers_fill_up.Goals as goal

pub returns-clause-sums : goal.returns-clause-sums
returns-clause-sums c kept grid j rise = taken-rises kept grid rise j

pub returns-clause-itself : goal.returns-clause-itself
returns-clause-itself c = CellsRise-itself

pub returns-clause-charge : goal.returns-clause-charge
returns-clause-charge c kept grid j class size rise in_grid in_row =
    CellsRise-then kept grid _ rise (CellsRise-with_entry grid j class size in_grid in_row)
