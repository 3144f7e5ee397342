use Rattle.std.proofs.Common.{◌∙◌, ap, arith, sym}
use Rattle.std.proofs.lemmas.List.{length-take-le}
use Rattle.byte_ranges.specs.Ranges.{bytes_at}
use Rattle.reopen.proofs.ReadLaws.{IsHeadText, head_long, head_refused, head_taken, read_well, sector_below}
use Rattle.reopen.proofs.log.next_head.Goals as goal

pub read-requires-clause-within : goal.read-requires-clause-within
read-requires-clause-within g c = λ told.
    omega (
      arith,
      length-take-le 56 c.args.buf.now c.requires.room,
      sector_below c.args.at c.args.top c.requires.place,
      c.requires.within told,
    )

pub read_entry_head-requires-clause-len : goal.read_entry_head-requires-clause-len
read_entry_head-requires-clause-len g c =
    head_long c.read.new.out (omega (
      arith,
      c.read.auto.out,
      length-take-le 56 c.args.buf.now
          c.requires.room,
    ))

pub returns-in-Ok-clause-read : goal.returns-in-Ok-clause-read
returns-in-Ok-clause-read g c = λ told.
    let there : IsHeadText (g.D.Disk.state c.args.disk.now).file c.read.new.out c.args.at = record {
      long = omega (arith, c.read.auto.out, length-take-le 56 c.args.buf.now c.requires.room);
      there = read_well c.read.result (sym c.is_err.ensures.value ∙ c.if-is_err.false) (c.read.ensures.bytes
          told)
          ∙ ap (bytes_at (g.D.Disk.state c.args.disk.now).file c.args.at)
          (length-take-le 56 c.args.buf.now c.requires.room);
    } in
    head_taken c.args.cap c.args.count c.args.top c.args.at (g.D.Disk.state c.args.disk.now).file
    c.read.new.out
    c.in-Ok.head there c.if-text.false (sym c.read_entry_head.ensures.value ∙ c.in-Ok.is)

pub returns-in-Err-clause-refused : goal.returns-in-Err-clause-refused
returns-in-Err-clause-refused g c = λ told.
    let there : IsHeadText (g.D.Disk.state c.args.disk.now).file c.read.new.out c.args.at = record {
      long = omega (arith, c.read.auto.out, length-take-le 56 c.args.buf.now c.requires.room);
      there = read_well c.read.result (sym c.is_err.ensures.value ∙ c.if-is_err.false) (c.read.ensures.bytes
          told)
          ∙ ap (bytes_at (g.D.Disk.state c.args.disk.now).file c.args.at)
          (length-take-le 56 c.args.buf.now c.requires.room);
    } in
    head_refused c.args.cap c.args.count c.args.top c.args.at (g.D.Disk.state c.args.disk.now).file
    c.read.new.out c.in-Err.fault there c.if-text.false (sym c.read_entry_head.ensures.value ∙ c.in-Err.is)
