use Rattle.store_rows.proofs.ServedLaws.{served_kept}
use Rattle.store_rows.proofs.trials.Trial.keep.Goals as goal

pub invariant_of-self : goal.invariant_of-self
invariant_of-self g c = served_kept _ c.self.inside.store _ (g.D.Disk.state c.self.inside.disk) _
    c.keep.result c.self.invariant c.keep.ensures.refused c.keep.ensures.kept c.keep.ensures.over
