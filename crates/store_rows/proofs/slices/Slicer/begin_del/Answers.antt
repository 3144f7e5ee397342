use Rattle.store_rows.proofs.SlicedLaws.{after_begin}
use Rattle.store_rows.proofs.slices.Slicer.begin_del.Goals as goal

pub invariant_of-self : goal.invariant_of-self
invariant_of-self g c = after_begin c.self.inside.store (g.D.Disk.state c.self.inside.disk) c.self.invariant _
    c.begin_del.new.self (g.D.Disk.state c.begin_del.new.disk) c.begin_del.result c.begin_del.ensures.begins
