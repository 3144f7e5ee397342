use Rattle.std.proofs.Common.{rules, IsTrue, sym, subst}
use Rattle.slot_pair.specs.Finding.{chosen_of}
use Rattle.slot_pair.proofs.RefusalLaws.{no_header}
use Rattle.plain_layout.proofs.Tables.{no_slot, no_records, a_table}
use Rattle.plain_layout.proofs.opened.read_table.Goals as goal

pub returns-in-Err-clause-refused : goal.returns-in-Err-clause-refused
returns-in-Err-clause-refused g c =
    let file = (g.D.Disk.state c.args.disk.now).file in
    no_header file c.in-Err.fault (no_slot file c.in-Err.fault (c.in-Err.ensures.refused c.requires.tells))

pub returns-in-Err-read_chosen_header-clause-refused : goal.returns-in-Err-read_chosen_header-clause-refused
returns-in-Err-read_chosen_header-clause-refused g c =
    let told : IsTrue (g.D.Disk.state c.choose.new.disk).tells =
    subst IsTrue (sym c.choose.ensures.frame.stays.told) c.requires.tells in
    let same = c.choose.ensures.frame.same_file c.requires.tells in
    let bad = rw same at (c.in-Err-read_chosen_header.ensures.refused told) in
    no_header (g.D.Disk.state c.args.disk.now).file c.in-Err-read_chosen_header.fault bad

pub returns-in_err-records-clause-refused : goal.returns-in_err-records-clause-refused
returns-in_err-records-clause-refused g c =
    let told : IsTrue (g.D.Disk.state c.choose.new.disk).tells =
    subst IsTrue (sym c.choose.ensures.frame.stays.told) c.requires.tells in
    let told_later : IsTrue (g.D.Disk.state c.read_chosen_header.new.disk).tells =
    subst IsTrue (sym c.read_chosen_header.ensures.frame.stays.told) told in
    let same = c.choose.ensures.frame.same_file c.requires.tells in
    let same_later = c.read_chosen_header.ensures.frame.same_file told in
    let same_last = c.length_of.ensures.frame.same_file told_later in
    let good = rw same at (c.in-Ok-read_chosen_header.ensures.header told).chosen in
    let bad = rw same at (rw same_later at (rw same_last at c.in_err-records.ensures.refused)) in
    let all = no_records (g.D.Disk.state c.args.disk.now).file
    (chosen_of c.in-Ok.found c.in-Ok-read_chosen_header.header) c.in_err-records.field-0.0 good bad in
    search rules

pub returns-clause-read : goal.returns-clause-read
returns-clause-read g c =
    let told : IsTrue (g.D.Disk.state c.choose.new.disk).tells =
    subst IsTrue (sym c.choose.ensures.frame.stays.told) c.requires.tells in
    let told_later : IsTrue (g.D.Disk.state c.read_chosen_header.new.disk).tells =
    subst IsTrue (sym c.read_chosen_header.ensures.frame.stays.told) told in
    let same = c.choose.ensures.frame.same_file c.requires.tells in
    let same_later = c.read_chosen_header.ensures.frame.same_file told in
    let same_last = c.length_of.ensures.frame.same_file told_later in
    let good = rw same at (c.in-Ok-read_chosen_header.ensures.header told).chosen in
    let read = rw same at (rw same_later at (rw same_last at c.in_ok-records.ensures.read)) in
    a_table (g.D.Disk.state c.args.disk.now).file _ good read
