use Rattle.std.proofs.Common.{◌≡◌, Ok, ◌+◌, ◌<◌, ◌≤◌, ◌∙◌, IsTrue, ap, rules, subst, sym}
use Rattle.slot_pair.specs.Finding.{Refuses}
use Rattle.reopen.specs.Entries.{read_rest}
use Rattle.reopen.specs.Logs.{logged_of}
use Rattle.reopen.proofs.NextLaws.{has_head, next_bad, next_refused, next_taken, next_worn}
use Rattle.reopen.proofs.RowLaws.{rows_count}
use Rattle.reopen.proofs.log.next_entry.Goals as goal

pub returns-in_err-head-clause-refused : goal.returns-in_err-head-clause-refused
returns-in_err-head-clause-refused g c = λ told.
    let making = c.requires.making in
    let bad = next_bad c.args.cap c.args.header.now.count c.args.top c.args.at
    (g.D.Disk.state c.args.disk.now).file (logged_of c.args.header.now c.args.load.now)
    c.in_err-head.field-0.0
    (making.count ∙ sym (rows_count c.args.load.now making.is_table)) (c.in_err-head.ensures.refused told) in
    search rules

pub returns-then-log_worn_from-header-clause-refused : goal.returns-then-log_worn_from-header-clause-refused
returns-then-log_worn_from-header-clause-refused g c = λ told.
    let file = (g.D.Disk.state c.args.disk.now).file in
    let header = c.args.header.now in
    let load = c.args.load.now in
    next_worn c.args.cap header.count c.args.top c.args.at file (logged_of header load) c.in-Some.head
    (has_head c.args.cap c.args.top c.args.at file header load c.in_ok-head.field-0 c.in-Some.head
    c.requires.making (c.in_ok-head.ensures.read told) c.in-Some.is)
    (subst (λ n. n ≤ header.sequence + 1) c.log_worn_from.ensures c.if-log_worn_from-header.true)

pub returns-in_err-take_entry-clause-refused : goal.returns-in_err-take_entry-clause-refused
returns-in_err-take_entry-clause-refused g c = λ told.
    let file = (g.D.Disk.state c.args.disk.now).file in
    let header = c.args.header.now in
    let load = c.args.load.now in
    let frame = c.in_ok-head.ensures.frame in
    let told' : IsTrue (g.D.Disk.state c.next_head.new.disk).tells = subst IsTrue (sym frame.stays.told) told
    in
    let here = subst (λ f. Refuses (read_rest c.args.cap f c.args.at (logged_of header load) c.in-Some.head)
    c.in_err-take_entry.field-0.0) (frame.same_file told) (c.in_err-take_entry.ensures.refused told') in
    let bad = next_refused c.args.cap header.count c.args.top c.args.at file (logged_of header load)
    c.in-Some.head c.in_err-take_entry.field-0.0
    (has_head c.args.cap c.args.top c.args.at file header load c.in_ok-head.field-0 c.in-Some.head
    c.requires.making (c.in_ok-head.ensures.read told) c.in-Some.is)
    (subst (λ n. header.sequence + 1 < n) c.log_worn_from.ensures c.if-log_worn_from-header.false) here in
    search rules

pub returns-clause-read : goal.returns-clause-read
returns-clause-read g c = λ told.
    let file = (g.D.Disk.state c.args.disk.now).file in
    let header = c.args.header.now in
    let load = c.args.load.now in
    let after = logged_of c.take_entry.new.header c.take_entry.new.load in
    let frame = c.in_ok-head.ensures.frame in
    let told' : IsTrue (g.D.Disk.state c.next_head.new.disk).tells = subst IsTrue (sym frame.stays.told) told
    in
    let here = subst (λ f. read_rest c.args.cap f c.args.at (logged_of header load) c.in-Some.head ≡ Ok after)
    (frame.same_file told) (c.in_ok-take_entry.ensures.read told') in
    next_taken c.args.cap header.count c.args.top c.args.at (c.args.at + c.room.result) file
    (logged_of header load) after c.in-Some.head
    (has_head c.args.cap c.args.top c.args.at file header load c.in_ok-head.field-0 c.in-Some.head
    c.requires.making (c.in_ok-head.ensures.read told) c.in-Some.is)
    (subst (λ n. header.sequence + 1 < n) c.log_worn_from.ensures c.if-log_worn_from-header.false) here
    (ap (λ n. c.args.at + n) c.room.ensures)
