use Rattle.store_core.proofs.store.Store.old.Goals as goal

pub returns : goal.returns
returns g c = c.read.ensures
