use Rattle.cache_rows.proofs.ServedLaws.{after_change}
use Rattle.cache_rows.proofs.trials.CacheTrial.put.Goals as goal

pub invariant_of-self : goal.invariant_of-self
invariant_of-self g c = after_change c.self.inside.cached c.put.new.self
    (g.D.Disk.state c.self.inside.disk) (g.D.Disk.state c.put.new.disk) c.self.invariant
    c.put.ensures.coherent _ c.put.result c.put.ensures.change
