use Rattle.std.specs.Prelude.{IsSome}
use Rattle.std.proofs.Common.{arith, rules}
use Rattle.store_rows.proofs.SlicedLaws.{after_step, steps_half}
use Rattle.store_rows.proofs.slices.Slicer.step.Goals as goal

pub step-requires : goal.step-requires
step-requires g c =
    let some : IsSome c.self.inside.store.in_hand = search rules in (
      omega arith,
      (
        c.self.invariant.ready,
        steps_half c.self.inside.store (g.D.Disk.state c.self.inside.disk) c.self.invariant some,
      ),
    )

pub invariant_of-self : goal.invariant_of-self
invariant_of-self g c = after_step c.self.inside.store (g.D.Disk.state c.self.inside.disk) c.self.invariant
    c.step.new.self (g.D.Disk.state c.step.new.disk) c.step.result c.step.ensures.frame c.step.ensures.over
