use Rattle.std.proofs.Common.{◌∙◌, sym, arith, refl}
use Rattle.placement_model.proofs.OrderLaws.{behind_all}
use Rattle.reopen.proofs.RecordLaws.{behind_is, rises_after, through_more, through_none, through_refused}
use Rattle.reopen.proofs.records.set_records.Goals as goal

pub records-init : goal.records-init
records-init c = through_none c.args.version c.args.len c.args.text.now c.args.at c.args.n c.args.last.now
    c.args.load.now c.requires.set

pub record_at-requires-clause-within : goal.record_at-requires-clause-within
record_at-requires-clause-within c =
    behind_is c.args.len c.records.i c.args.n c.args.text.now (omega arith) c.requires.long

pub returns-in-Err-clause-refused : goal.returns-in-Err-clause-refused
returns-in-Err-clause-refused c =
    let said = sym c.record_at.ensures.value ∙ c.in-Err.is in
    through_refused c.args.version c.args.len c.requires.len c.args.text.now c.args.at c.args.n c.records.i
    c.args.last.now c.records.last
    c.args.load.now c.records.load c.in-Err.fault _ (omega arith) c.requires.long
    c.records.invariant said refl

pub records-preserved : goal.records-preserved
records-preserved c =
    let said = sym c.record_at.ensures.value ∙ c.in-Ok.is in
    through_more c.args.version c.args.len c.requires.len c.args.text.now c.args.at c.args.n c.records.i
    c.args.last.now c.records.last
    c.args.load.now c.records.load c.push.new.self c.in-Ok.record (omega arith) c.requires.long
    c.records.invariant said c.in-Ok.ensures.named c.in-Ok.ensures.digested c.push.ensures.now
    c.push.ensures.digests c.push.ensures.kept c.push.ensures.names

pub push-requires-clause-behind : goal.push-requires-clause-behind
push-requires-clause-behind c =
    let said = sym c.record_at.ensures.value ∙ c.in-Ok.is in
    behind_all c.records.last c.records.load.now c.in-Ok.record.name c.records.invariant.set.upto
    (rises_after c.args.version _ c.records.last c.in-Ok.record said)
