use Rattle.std.specs.Prelude.{◌+◌, ◌-◌}
use Rattle.flush_run.specs.Parts.{parts_of}
use Rattle.flush_run.specs.Runs.{InRun}
use Rattle.flush_run.specs.Phases.{rank_of, steps_left}
use Rattle.flush_run.proofs.whole.go_on.Given as goal

abbrev pub invariant-steps : goal.invariant-steps
invariant-steps g l =
    let D = g.D.Disk in
    InRun {C = g.row.C} (D.state l.fn.disk) (D.state l.disk) (parts_of l.fn.hands) (parts_of l.hands)
    l.fn.phase l.at

abbrev pub decreases-steps : goal.decreases-steps
decreases-steps g l = steps_left {C = g.row.C} l.at l.hands.table + (3 - rank_of {C = g.row.C} l.at)
