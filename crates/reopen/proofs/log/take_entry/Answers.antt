use Rattle.std.proofs.Common.{◌-◌, ◌^◌, arith, length, rules, subst, sym}
use Rattle.reopen.specs.Entries.{EndWithin, IsOrderly}
use Rattle.reopen.proofs.EntryLaws.{parts_orderly}
use Rattle.reopen.proofs.LogLaws.{entry_keeps, entry_making, entry_over, entry_refused, entry_taken, parts_within}
use Rattle.reopen.proofs.log.take_entry.Goals as goal

pub take_parts-requires-clause-orderly : goal.take_parts-requires-clause-orderly
take_parts-requires-clause-orderly g c =
    subst IsOrderly (sym c.parts_of.ensures) (parts_orderly c.args.head.now c.args.at)

pub take_parts-requires-clause-small : goal.take_parts-requires-clause-small
take_parts-requires-clause-small g c =
    subst (λ xs. EndWithin xs (2 ^ 63 - 1)) (sym c.parts_of.ensures)
    (parts_within c.args.head.now c.args.at (2 ^ 63 - 1) (omega (arith, c.requires.small)))

pub take_parts-requires-clause-within : goal.take_parts-requires-clause-within
take_parts-requires-clause-within g c = λ told.
    let file = (g.D.Disk.state c.args.disk.now).file in
    subst (λ xs. EndWithin xs (length file)) (sym c.parts_of.ensures)
    (parts_within c.args.head.now c.args.at (length file) (c.requires.within told))

pub returns-in_err-take_parts-clause-refused : goal.returns-in_err-take_parts-clause-refused
returns-in_err-take_parts-clause-refused g c = λ told.
    let bad = entry_refused c.args.cap c.args.at (g.D.Disk.state c.args.disk.now).file c.args.header.now
    c.begin.new.header c.args.load.now c.args.head.now c.parts_of.result c.in_err-take_parts.field-0.0
    (record { parts_are = c.parts_of.ensures; begins = c.begin.ensures })
    (c.in_err-take_parts.ensures.refused told) in
    search rules

pub returns-in_err-take_parts-clause-rest : goal.returns-in_err-take_parts-clause-rest
returns-in_err-take_parts-clause-rest g c =
    entry_keeps c.args.cap c.take_parts.new.header.count c.args.header.now c.begin.new.header
    c.take_parts.new.header c.args.load.now c.take_parts.new.load c.args.head.now c.begin.ensures
    c.take_parts.ensures.rest

pub returns-then-progress-clause-refused : goal.returns-then-progress-clause-refused
returns-then-progress-clause-refused g c = λ told.
    entry_over c.args.cap c.args.at (g.D.Disk.state c.args.disk.now).file c.args.header.now c.begin.new.header
    c.take_parts.new.header c.args.load.now c.take_parts.new.load c.args.head.now c.parts_of.result
    c.take_parts.new.progress (record { parts_are = c.parts_of.ensures; begins = c.begin.ensures })
    (c.in_ok-take_parts.ensures.taken told) c.if-progress.true

pub returns-then-progress-clause-rest : goal.returns-then-progress-clause-rest
returns-then-progress-clause-rest g c =
    entry_keeps c.args.cap c.take_parts.new.header.count c.args.header.now c.begin.new.header
    c.take_parts.new.header c.args.load.now c.take_parts.new.load c.args.head.now c.begin.ensures
    c.take_parts.ensures.rest

pub returns-clause-read : goal.returns-clause-read
returns-clause-read g c = λ told.
    let keeps = c.take_parts.ensures.rest in
    let making = c.requires.making in
    entry_taken c.args.cap c.args.at c.count-header.result (g.D.Disk.state c.args.disk.now).file
    c.args.header.now c.begin.new.header c.take_parts.new.header c.args.load.now c.take_parts.new.load
    c.args.head.now c.parts_of.result c.take_parts.new.progress
    (record { parts_are = c.parts_of.ensures; begins = c.begin.ensures })
    (c.in_ok-take_parts.ensures.taken told) c.if-progress.false c.count-header.ensures.table
    (keeps.few (omega (arith, making.few, making.count))) c.count-header.ensures.value

pub returns-clause-making : goal.returns-clause-making
returns-clause-making g c =
    entry_making c.args.cap c.count-header.result c.args.header.now c.begin.new.header
    c.take_parts.new.header c.args.load.now c.take_parts.new.load c.args.head.now c.requires.making
    c.begin.ensures c.take_parts.ensures.rest c.requires.fresh c.requires.head.wall c.requires.head.slack
    c.count-header.ensures.value

pub returns-clause-rest : goal.returns-clause-rest
returns-clause-rest g c =
    entry_keeps c.args.cap c.count-header.result c.args.header.now c.begin.new.header
    c.take_parts.new.header c.args.load.now c.take_parts.new.load c.args.head.now c.begin.ensures
    c.take_parts.ensures.rest
