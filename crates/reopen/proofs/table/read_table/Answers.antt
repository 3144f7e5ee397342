use Rattle.std.proofs.Common.{◌≡◌, ap, arith, rules, subst, sym, ◌∙◌, Ok, IsTrue, ◌-◌, length}
use Rattle.slot_codec.proofs.CapLaws.{cap-low}
use Rattle.slot_codec.specs.Choice.{slot_in}
use Rattle.slot_codec.specs.Logs.{table_in}
use Rattle.slot_codec.specs.Spelling.{head_len}
use Rattle.slot_codec.specs.declared.codec.Header.{Header}
use Rattle.slot_pair.specs.Finding.{in_use_of}
use Rattle.extent_table.specs.Extents.{Extents, IsTable, with_now_kept}
use Rattle.reopen.specs.Refusals.{RefusesBy}
use Rattle.reopen.specs.Tables.{table_there}
use Rattle.reopen.proofs.BehindLaws.{slot_there}
use Rattle.reopen.proofs.TableLaws.{no_header_there}
use Rattle.reopen.proofs.table.read_table.Goals as goal

pub returns-in_err-header-clause-refused : goal.returns-in_err-header-clause-refused
returns-in_err-header-clause-refused g c = λ told.
    let file = (g.D.Disk.state c.args.disk.now).file in
    let refused : RefusesBy (table_in c.args.logged file) c.in_err-header.field-0.0 =
    no_header_there c.args.logged file c.in_err-header.field-0.0 (c.in_err-header.ensures.refused told) in
    search rules

pub narrow-requires-clause-low : goal.narrow-requires-clause-low
narrow-requires-clause-low g c =
    omega (
      arith,
      cap-low c.args.found.block.names c.deref-2.result.now.version,
      c.cap.ensures,
      c.keep.ensures.names,
      ap (λ (e : Extents). e.names) c.into_table-table.ensures,
      c.in_default-read.ensures.names,
      ap (λ (e : Extents). e.names) c.in-Some.ensures.load,
    )

pub returns-clause-told : goal.returns-clause-told
returns-clause-told g c = λ told.
    let file = (g.D.Disk.state c.args.disk.now).file in
    let frame = c.in_ok-header.ensures.frame in
    let told' : IsTrue (g.D.Disk.state c.header_of.new.disk).tells = subst IsTrue (sym frame.stays.told) told in
    let same = frame.same_file told in
    let header = c.load_rows-read.new.header in
    let load = c.load_rows-read.new.load in
    let kept : c.keep.new.self ≡ with_now_kept load =
    c.keep.ensures.only ∙ ap with_now_kept c.into_table-table.ensures in
    let read = rw same at (c.in_default-read.ensures.read told' (subst IsTable kept c.keep.ensures.table)) in
    let length_same : IsTrue (g.D.Disk.state c.load_rows-read.new.disk).tells =
    subst IsTrue (sym c.in_default-read.ensures.frame.stays.told) told' in
    let behind : c.saturating_sub.result ≡ length file - head_len c.args.found.block.names = omega (
      arith,
      c.saturating_sub.ensures,
      c.head_len.ensures,
      c.in-Ok.ensures.length length_same,
      ap length same,
      ap length (c.in_default-read.ensures.frame.same_file told'),
    ) in
    record {
      slot = λ plain. slot_there file c.args.found header c.deref-3.result.now.sequence
          (subst (λ l. slot_in l file ≡ Ok (in_use_of c.args.found)) plain (c.requires.there told).slot)
          (ap (λ (h : Header). h.sequence) (c.in_default-read.ensures.plain plain ∙ c.deref_mut.ensures.value)
          ∙ (c.in_ok-header.ensures.read told).sequence)
          (ap (λ (h : Header). h.sequence) c.deref-3.ensures);
      table = read ∙ ap (λ (e : Extents). Ok (table_there c.args.found header e)) (sym kept)
          ∙ ap (λ (e : Extents). Ok (table_there c.args.found header e)) (sym c.narrow.ensures.only);
      behind = behind;
    }
