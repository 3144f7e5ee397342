use Rattle.std.specs.Prelude.{◌≤◌, ◌<◌, ◌+◌, List}
use Rattle.std.proofs.Common.{length}
use Rattle.map_model.specs.Requests.{Change}
use Rattle.batch_model.specs.Batches.{IsBatch}
use Rattle.batch_core.specs.Doing.{IsCounting}
use Rattle.batch_core.proofs.fit.first_misfit.Given as goal

abbrev pub invariant-parts : goal.invariant-parts
invariant-parts g l = ((changes : List Change) → IsBatch l.text changes
    → IsCounting l.again l.store changes l.rest l.count l.n) × (l.count < l.cap)
    × (l.n + length l.rest ≤ length l.text + 1)

abbrev pub decreases-parts : goal.decreases-parts
decreases-parts g l = length l.rest
