use Rattle.std.proofs.Common.{arith}
use Rattle.batch_core.specs.Doing.{all_changes, ended}
use Rattle.batch_core.specs.StoresOn.{store_on}
use Rattle.batch_core.proofs.DoLaws.{can_end, then_or}
use Rattle.batch_core.proofs.run.do_batch.Goals as goal

pub returns-in-Err-clause-went : goal.returns-in-Err-clause-went
returns-in-Err-clause-went g c = c.in-Err.ensures

pub end_batch-requires : goal.end_batch-requires
end_batch-requires g c =
    let b = c.requires.0 in
    let can = c.requires.1 in (
      omega arith,
      (
        b,
        can_end (store_on c.args.store.now (g.D.Disk.state c.args.disk.now))
            c.args.text.now b can (store_on c.do_changes.new.store (g.D.Disk.state c.do_changes.new.disk))
            (c.in-Ok.ensures b can),
      ),
    )

pub returns-in-Ok-clause-went : goal.returns-in-Ok-clause-went
returns-in-Ok-clause-went g c b can =
    let x = (store_on c.args.store.now (g.D.Disk.state c.args.disk.now)) in
    let y = (store_on c.do_changes.new.store (g.D.Disk.state c.do_changes.new.disk)) in
    let first = c.in-Ok.ensures b can in
    then_or b x y (store_on c.end_batch.new.store (g.D.Disk.state c.end_batch.new.disk))
    (all_changes b) (ended b) first c.end_batch.result
    (c.end_batch.ensures.went b (can_end x c.args.text.now b can y first))

pub returns-in-Ok-clause-kept : goal.returns-in-Ok-clause-kept
returns-in-Ok-clause-kept g c = c.end_batch.ensures.kept
