use Rattle.store_rows.proofs.SlicedLaws.{after_read}
use Rattle.store_rows.proofs.slices.Slicer.get.Goals as goal

pub invariant_of-self : goal.invariant_of-self
invariant_of-self g c = after_read c.self.inside.store (g.D.Disk.state c.self.inside.disk) c.self.invariant
    c.get.new.self (g.D.Disk.state c.get.new.disk) c.get.ensures.store c.get.ensures.frame
