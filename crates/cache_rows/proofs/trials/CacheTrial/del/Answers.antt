use Rattle.cache_rows.proofs.ServedLaws.{after_change}
use Rattle.cache_rows.proofs.trials.CacheTrial.del.Goals as goal

pub invariant_of-self : goal.invariant_of-self
invariant_of-self g c = after_change c.self.inside.cached c.del.new.self
    (g.D.Disk.state c.self.inside.disk) (g.D.Disk.state c.del.new.disk) c.self.invariant
    c.del.ensures.coherent _ c.del.result c.del.ensures.change
