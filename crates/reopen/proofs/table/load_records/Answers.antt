use Rattle.std.specs.Prelude.{◌+◌, ◌*◌, ◌^◌, ◌<◌, ◌≤◌, IfErr, IsTrue, OnOk, length}
use Rattle.std.proofs.Common.{ap, arith, subst, sym, ◌∙◌}
use Rattle.slot_codec.proofs.CapLaws.{cap-low, records_fit}
use Rattle.slot_codec.proofs.ChoiceLaws.{slot_low}
use Rattle.slot_codec.specs.Reading.{is_version}
use Rattle.slot_codec.specs.Spelling.{record_len}
use Rattle.slot_pair.specs.Finding.{Refuses}
use Rattle.reopen.specs.Records.{AreSet}
use Rattle.reopen.proofs.BehindLaws.{spelled_is, spelled_len, spelled_of}
use Rattle.reopen.proofs.table.load_records.Goals as goal

pub set_all-requires-clause-version : goal.set_all-requires-clause-version
set_all-requires-clause-version g c = subst (λ v. IsTrue (is_version v)) (sym c.spelling.ensures)
    (spelled_is c.args.logged c.args.header.now.version c.requires.found.version)

pub set_all-requires-clause-room : goal.set_all-requires-clause-room
set_all-requires-clause-room g c = omega (
  arith,
  c.requires.room,
  ap record_len c.spelling.ensures ∙ spelled_len c.args.header.now.version,
)

-- the records lie within the slot's bytes for them
pub set_all-requires-clause-small : goal.set_all-requires-clause-small
set_all-requires-clause-small g c =
    let f = c.requires.found in
    let names = c.args.found.now.block.names in
    let h = c.args.header.now in
    let len = ap record_len c.spelling.ensures ∙ spelled_len h.version in
    subst (λ n. c.slot_at.result + 8488 + n * h.count < 2 ^ 63) (sym len) (omega (
      arith,
      records_fit names h.version h.count f.count,
      slot_low names c.args.found.now.slot f.slot.slot,
      c.slot_at.ensures,
      f.slot.block.names_high,
    ))

pub set_all-requires-clause-within : goal.set_all-requires-clause-within
set_all-requires-clause-within g c = λ told.
    let f = c.requires.found in
    let names = c.args.found.now.block.names in
    let h = c.args.header.now in
    let len = ap record_len c.spelling.ensures ∙ spelled_len h.version in
    subst (λ n. c.slot_at.result + 8488 + n * h.count ≤ length (g.D.Disk.state c.args.disk.now).file)
    (sym len) (omega (
      arith,
      records_fit names h.version h.count f.count,
      slot_low names c.args.found.now.slot f.slot.slot,
      c.slot_at.ensures,
      c.requires.long told,
    ))

pub set_all-requires-clause-names : goal.set_all-requires-clause-names
set_all-requires-clause-names g c =
    let names = c.args.found.now.block.names in
    omega (arith, c.requires.found.count, cap-low names c.args.header.now.version, c.requires.names)

pub returns-clause-records : goal.returns-clause-records
returns-clause-records g c = λ told. subst (λ rs. OnOk c.set_all.result (AreSet rs c.set_all.new.load))
    (spelled_of (g.D.Disk.state c.args.disk.now).file c.args.found.now c.args.header.now c.spelling.result
    c.slot_at.result c.spelling.ensures c.slot_at.ensures)
    (c.set_all.ensures.read told)

pub returns-clause-refused : goal.returns-clause-refused
returns-clause-refused g c = λ told. subst (λ rs. IfErr c.set_all.result (Refuses rs))
    (spelled_of (g.D.Disk.state c.args.disk.now).file c.args.found.now c.args.header.now c.spelling.result
    c.slot_at.result c.spelling.ensures c.slot_at.ensures)
    (c.set_all.ensures.refused told)
