use Rattle.store_core.proofs.store.Store.get.Goals as goal

pub returns : goal.returns
returns g c = c.read.ensures
