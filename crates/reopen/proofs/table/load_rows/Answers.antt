use Rattle.std.proofs.Common.{◌≡◌, arith, rules, subst, sym, Ok, IsTrue}
use Rattle.slot_codec.specs.Choice.{chosen_in}
use Rattle.slot_codec.specs.Logs.{table_in}
use Rattle.slot_pair.specs.Finding.{Refuses, chosen_of}
use Rattle.reopen.specs.Tables.{table_there}
use Rattle.reopen.proofs.BehindLaws.{log_there_refused, logged_there, plain_there, three_long}
use Rattle.reopen.proofs.TableLaws.{no_records}
use Rattle.reopen.proofs.table.load_rows.Goals as goal

pub returns-in_err-load_records-clause-refused : goal.returns-in_err-load_records-clause-refused
returns-in_err-load_records-clause-refused g c = λ told.
    let file = (g.D.Disk.state c.args.disk.now).file in
    let fault = c.in_err-load_records.field-0.0 in
    let refused : Refuses (table_in c.args.logged file) fault = no_records c.args.logged file
    (chosen_of c.args.found.now c.args.header.now) fault (c.requires.chosen told).chosen
    (c.in_err-load_records.ensures.refused told) in
    search rules

pub take_log-requires-clause-room : goal.take_log-requires-clause-room
take_log-requires-clause-room g c = omega (
  arith,
  c.requires.room,
  c.in_ok-load_records.ensures.same_room,
  three_long c.args.logged c.args.header.now.version c.if-logged.true c.requires.found.version,
)

pub returns-in_err-take_log-clause-refused : goal.returns-in_err-take_log-clause-refused
returns-in_err-take_log-clause-refused g c = λ told.
    let file = (g.D.Disk.state c.args.disk.now).file in
    let fault = c.in_err-take_log.field-0.0 in
    let frame = c.in_ok-load_records.ensures.frame in
    let told' : IsTrue (g.D.Disk.state c.load_records.new.disk).tells =
    subst IsTrue (sym frame.stays.told) told in
    let same = frame.same_file told in
    let bad = rw same at (c.in_err-take_log.ensures.refused told') in
    let chosen = subst (λ l. chosen_in l file ≡ Ok (chosen_of c.args.found.now c.args.header.now))
    c.if-logged.true (c.requires.chosen told).chosen in
    let refused : Refuses (table_in c.args.logged file) fault =
    subst (λ l. Refuses (table_in l file) fault) (sym c.if-logged.true)
    (log_there_refused file c.args.found.now c.args.header.now c.load_records.new.load fault chosen
    (c.in_ok-load_records.ensures.records told) bad) in
    search rules

pub returns-in_ok-take_log-clause-read : goal.returns-in_ok-take_log-clause-read
returns-in_ok-take_log-clause-read g c = λ told table.
    let file = (g.D.Disk.state c.args.disk.now).file in
    let frame = c.in_ok-load_records.ensures.frame in
    let told' : IsTrue (g.D.Disk.state c.load_records.new.disk).tells =
    subst IsTrue (sym frame.stays.told) told in
    let same = frame.same_file told in
    let behind = rw same at (c.in_ok-take_log.ensures.read told') in
    let chosen = subst (λ l. chosen_in l file ≡ Ok (chosen_of c.args.found.now c.args.header.now))
    c.if-logged.true (c.requires.chosen told).chosen in
    subst
    (λ l. table_in l file
    ≡ Ok (table_there c.args.found.now c.take_log.new.header c.take_log.new.load))
    (sym c.if-logged.true)
    (logged_there file c.args.found.now c.args.header.now c.take_log.new.header c.load_records.new.load
    c.take_log.new.load chosen
    (c.in_ok-load_records.ensures.records told) behind c.in_ok-take_log.ensures.table)

pub returns-else-logged-clause-read : goal.returns-else-logged-clause-read
returns-else-logged-clause-read g c = λ told table.
    let file = (g.D.Disk.state c.args.disk.now).file in
    let chosen = subst (λ l. chosen_in l file ≡ Ok (chosen_of c.args.found.now c.args.header.now))
    c.if-logged.false (c.requires.chosen told).chosen in
    subst
    (λ l. table_in l file
    ≡ Ok (table_there c.args.found.now c.args.header.now c.load_records.new.load))
    (sym c.if-logged.false)
    (plain_there file c.args.found.now c.args.header.now c.load_records.new.load chosen
    (c.in_ok-load_records.ensures.records told) table)
