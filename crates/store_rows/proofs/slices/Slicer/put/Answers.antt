use Rattle.store_rows.proofs.SlicedLaws.{after_put}
use Rattle.store_rows.proofs.slices.Slicer.put.Goals as goal

pub invariant_of-self : goal.invariant_of-self
invariant_of-self g c = after_put c.self.inside.store (g.D.Disk.state c.self.inside.disk) c.self.invariant _
    c.put.new.self (g.D.Disk.state c.put.new.disk) c.put.result c.put.ensures.change
