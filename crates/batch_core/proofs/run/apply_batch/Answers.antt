use Rattle.std.proofs.Common.{arith, refl}
use Rattle.batch_core.specs.Doing.{all_applied, all_done, begun}
use Rattle.batch_core.specs.StoresOn.{store_on}
use Rattle.batch_core.proofs.ApplyLaws.{apply_begin, apply_do}
use Rattle.batch_core.proofs.DoLaws.{as_or, then_or}
use Rattle.batch_core.proofs.run.apply_batch.Goals as goal

pub begin_batch-requires : goal.begin_batch-requires
begin_batch-requires g c =
    let b = c.requires.0 in
    let can = c.requires.1 in (
      omega arith,
      (
        b,
        apply_begin (store_on c.args.store.now (g.D.Disk.state c.args.disk.now))
            c.args.text.now b can,
      ),
    )

pub returns-in-Err-clause-went : goal.returns-in-Err-clause-went
returns-in-Err-clause-went g c b can = c.in-Err.ensures b
    (apply_begin (store_on c.args.store.now (g.D.Disk.state c.args.disk.now)) c.args.text.now b can)

pub do_batch-requires : goal.do_batch-requires
do_batch-requires g c =
    let b = c.requires.0 in
    let can = c.requires.1 in
    let x = (store_on c.args.store.now (g.D.Disk.state c.args.disk.now)) in (
      omega arith,
      (
        b,
        apply_do x c.args.text.now b can
            (store_on c.begin_batch.new.store (g.D.Disk.state c.begin_batch.new.disk))
            (c.in-Ok.ensures b (apply_begin x c.args.text.now b can)),
      ),
    )

pub returns-in-Ok-clause-went : goal.returns-in-Ok-clause-went
returns-in-Ok-clause-went g c b can =
    let x = (store_on c.args.store.now (g.D.Disk.state c.args.disk.now)) in
    let y = (store_on c.begin_batch.new.store (g.D.Disk.state c.begin_batch.new.disk)) in
    let z = (store_on c.do_batch.new.store (g.D.Disk.state c.do_batch.new.disk)) in
    let first = c.in-Ok.ensures b (apply_begin x c.args.text.now b can) in
    as_or _ b x z _ (all_applied b).requests (all_applied b).made (all_applied b).map c.do_batch.result refl
    (omega arith) refl (then_or b x y z (begun b) (all_done b) first c.do_batch.result
    (c.do_batch.ensures.went b (apply_do x c.args.text.now b can y first)))

pub returns-in-Ok-clause-kept : goal.returns-in-Ok-clause-kept
returns-in-Ok-clause-kept g c = c.do_batch.ensures.kept
