use Rattle.std.proofs.Common.{arith}
use Rattle.std.proofs.lemmas.Grind.{common_steps}
use Rattle.data_area.proofs.put.put_piece.Goals as goal

pub returns : goal.returns
returns g c = grind (arith, common_steps)

pub returns-in_err-map_err : goal.returns-in_err-map_err
returns-in_err-map_err g c = grind (arith, common_steps)
