use Rattle.std.specs.Prelude.{Result, Option, ℕ}
use Rattle.std.proofs.Common.{arith, inl, sym, subst}
use Rattle.batch_core.specs.Answers.{IsFetched}
use Rattle.batch_core.specs.StoresOn.{store_on}
use Rattle.batch_core.specs.declared.fault.BatchFault.{BatchFault}
use Rattle.batch_core.proofs.FetchLaws.{fetch_is}
use Rattle.batch_core.proofs.batcher.fetch_batch.Goals as goal

pub fetch-answer-requires : goal.fetch-answer-requires
fetch-answer-requires g c = (
  omega arith,
  (
    c.requires.go.ready,
    (
      inl c.requires.go.over,
      c.requires.room,
    ),
  ),
)

pub returns-clause-fetched : goal.returns-clause-fetched
returns-clause-fetched g c = subst (λ (r : Result (Option ℕ) BatchFault). IsFetched
    (store_on c.args.store.now (g.D.Disk.state c.args.disk.now)) (g.D.Disk.state c.fetch-answer.new.disk)
    c.fetch-answer.new.out r)
    (sym c.fetched.ensures)
    (fetch_is (store_on c.args.store.now (g.D.Disk.state c.args.disk.now)) c.requires.go
    (g.D.Disk.state c.fetch-answer.new.disk) c.fetch-answer.new.out
    (omega (arith, c.requires.room, c.fetch-answer.auto.out))
    c.fetch-answer.result
    c.fetch-answer.ensures.answer c.fetch-answer.ensures.fetched c.fetch-answer.ensures.judged
    c.fetch-answer.ensures.frame c.fetch-answer.ensures.disk_cause)
