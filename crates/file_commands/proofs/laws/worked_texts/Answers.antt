use Rattle.std.specs.Prelude.{refl}
use Rattle.std.specs.Fmt.{digits}
use Rattle.byte_ranges.specs.Lists.{below}
use Rattle.size_class.specs.Classes.{zero_grid, zero_row}
use Rattle.command_face.specs.Lines.{numbered}
use Rattle.file_commands.proofs.laws.worked_texts.Goals as goal

pub returns-clause-check_still : goal.returns-clause-check_still
unfolding digits numbered
returns-clause-check_still c = refl

pub returns-clause-check_moving : goal.returns-clause-check_moving
unfolding digits numbered
returns-clause-check_moving c = refl

pub returns-clause-map_still : goal.returns-clause-map_still
unfolding digits numbered below zero_row zero_grid
returns-clause-map_still c = refl

pub returns-clause-map_moving : goal.returns-clause-map_moving
unfolding digits numbered below zero_row zero_grid
returns-clause-map_moving c = refl
