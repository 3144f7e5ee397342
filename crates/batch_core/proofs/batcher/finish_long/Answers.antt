use Rattle.std.proofs.Common.{arith}
use Rattle.batch_core.specs.StoresOn.{store_on}
use Rattle.batch_core.proofs.FetchLaws.{fetch_small}
use Rattle.batch_core.proofs.batcher.finish_long.Goals as goal

pub finish_store-requires : goal.finish_store-requires
finish_store-requires g c = (
  omega arith,
  (
    c.requires.go,
    omega (
      arith,
      c.requires.room,
      fetch_small (store_on c.args.store.now (g.D.Disk.state c.args.disk.now)) c.requires.go,
    ),
  ),
)
