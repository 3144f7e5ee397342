use Rattle.std.specs.Prelude.{refl}
use Rattle.std.specs.Fmt.{digits}
use Rattle.command_face.specs.Lines.{numbered}
use Rattle.work_command.specs.Summaries.{count_line}
use Rattle.work_command.proofs.laws.worked_counts.Goals as goal

pub returns : goal.returns
unfolding digits numbered count_line
returns c = refl
