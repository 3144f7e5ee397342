use Rattle.std.proofs.Common.{subst}
use Rattle.std.specs.Prelude.{◌<◌}
use Rattle.disk_history.specs.Histories.{EndedBy}
use Rattle.lent_disk.specs.Notings.{IsLog, LacksSpace, Noting}
use Rattle.lent_disk.proofs.disk.LentDisk.is_noted.Goals as goal

pub returns-clause-log : goal.returns-clause-log
returns-clause-log c =
    subst (λ (n : Noting). IsLog n.start n.history n.text) c.self.view_is c.self.invariant.log

pub returns-clause-ended : goal.returns-clause-ended
returns-clause-ended c =
    subst (λ (n : Noting). EndedBy n.history.turn n.history.calls) c.self.view_is c.self.invariant.ended

pub returns-clause-cause : goal.returns-clause-cause
returns-clause-cause c =
    subst (λ (n : Noting). n.start.faults < n.history.faults → LacksSpace n) c.self.view_is
    c.self.invariant.cause
