use Rattle.std.proofs.Common.{rules, length}
use Rattle.lent_store.specs.Readings.{CanCopy}
use Rattle.store_model.specs.Readings.{asks_for}
use Rattle.lent_store.proofs.CopyLaws.{not_into, read_into}
use Rattle.lent_store.proofs.store.LentStore.read.Goals as goal

pub returns-in-Ok : goal.returns-in-Ok
returns-in-Ok c =
    let e = c.args.self.now in
    let r = asks_for c.args.moment c.args.name.now in
    let fits : CanCopy e r (length c.args.out.now) = search rules in
    read_into e r c.args.out.now _ c.fetch.result fits c.fetch.ensures.answer c.fetch.ensures.object
    c.fetch.ensures.same_length

pub returns-in-Err : goal.returns-in-Err
returns-in-Err c =
    not_into c.args.self.now (asks_for c.args.moment c.args.name.now) c.args.out.now c.in-Err.refusal
    c.in-Err.ensures.refused
