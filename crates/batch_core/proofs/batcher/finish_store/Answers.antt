use Rattle.batch_core.specs.StoresOn.{store_on}
use Rattle.batch_core.proofs.FetchLaws.{fault_finishes}
use Rattle.batch_core.proofs.batcher.finish_store.Goals as goal

pub returns-in-Err-clause-finishes : goal.returns-in-Err-clause-finishes
returns-in-Err-clause-finishes g c =
    fault_finishes (store_on c.args.store.now (g.D.Disk.state c.args.disk.now)) c.requires.go
    (g.D.Disk.state c.fetch_batch.new.disk) c.in-Err.ensures.fetched.frame c.fetch_batch.new.text
    c.in-Err.fault
    c.in-Err.ensures.fetched.fetched c.in-Err.ensures.fetched.cause
