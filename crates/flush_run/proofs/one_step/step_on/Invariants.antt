use Rattle.std.specs.Prelude.{◌≡◌, ◌-◌}
use Rattle.flush_run.specs.Parts.{parts_of}
use Rattle.flush_run.specs.Phases.{rank_of}
use Rattle.flush_run.specs.Steps.{InStep}
use Rattle.flush_run.proofs.one_step.step_on.Given as goal

abbrev pub invariant-phases : goal.invariant-phases
invariant-phases g l = (l.disk ≡ l.fn.disk)
    × InStep {C = g.row.C} (parts_of l.fn.hands) (parts_of l.hands) l.fn.at l.at
    (g.D.Disk.state l.disk)

abbrev pub decreases-phases : goal.decreases-phases
decreases-phases g l = 3 - rank_of {C = g.row.C} l.at
