use Rattle.store_rows.proofs.ServedLaws.{served_after}
use Rattle.store_rows.proofs.trials.Trial.del.Goals as goal

pub invariant_of-self : goal.invariant_of-self
invariant_of-self g c = served_after _ c.self.inside.store _ (g.D.Disk.state c.self.inside.disk) _
    c.del.result c.self.invariant c.del.ensures.change
