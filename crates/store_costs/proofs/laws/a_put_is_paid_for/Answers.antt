use Rattle.store_costs.proofs.ChangeLaws.{change_pays}
use Rattle.store_costs.proofs.laws.a_put_is_paid_for.Goals as goal

pub returns : goal.returns
returns g c = record {
  paid = λ C cost change old new before now result is x.
      change_pays change old new (g.D.Disk.state before) (g.D.Disk.state now) result x.call x.fine x.sound
      x.full x.counts cost is;
}
