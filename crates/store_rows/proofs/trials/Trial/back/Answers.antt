use Rattle.store_rows.proofs.ServedLaws.{served_back}
use Rattle.store_rows.proofs.trials.Trial.back.Goals as goal

pub invariant_of-self : goal.invariant_of-self
invariant_of-self g c = served_back c.back.result c.self.inside.store c.back.new.self
    (g.D.Disk.state c.self.inside.disk) c.self.invariant c.back.ensures.unchanged c.back.ensures.back
    c.back.ensures.over
