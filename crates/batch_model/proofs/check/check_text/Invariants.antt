use Rattle.std.proofs.Common.{length}
use Rattle.batch_model.specs.Parts.{IsChecked}
use Rattle.batch_model.proofs.check.check_text.Given as goal

abbrev pub invariant-parts : goal.invariant-parts
invariant-parts l = IsChecked l.text l.rest l.before l.n

abbrev pub decreases-parts : goal.decreases-parts
decreases-parts l = length l.rest
