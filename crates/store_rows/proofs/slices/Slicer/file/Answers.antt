use Rattle.std.specs.Prelude.{refl}
use Rattle.store_rows.proofs.SlicedLaws.{after_read}
use Rattle.store_rows.proofs.slices.Slicer.file.Goals as goal

pub invariant_of-self : goal.invariant_of-self
invariant_of-self g c = after_read c.self.inside.store (g.D.Disk.state c.self.inside.disk) c.self.invariant
    c.self.inside.store (g.D.Disk.state c.file_on.new.disk) refl c.file_on.ensures
