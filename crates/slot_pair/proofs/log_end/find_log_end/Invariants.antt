use Rattle.std.specs.Prelude.{◌-◌}
use Rattle.slot_pair.proofs.LogEndLaws.{EntriesSoFar}
use Rattle.slot_pair.proofs.log_end.find_log_end.Given as goal

abbrev pub invariant-entries : goal.invariant-entries
invariant-entries g l =
    let D = g.D.Disk in
    EntriesSoFar l.at l.top (D.state l.fn.disk) (D.state l.disk) l.log

abbrev pub decreases-entries : goal.decreases-entries
decreases-entries g l = l.top - l.log.end
