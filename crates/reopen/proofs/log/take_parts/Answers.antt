use Rattle.std.proofs.Common.{IsTrue, add-one, ap, arith, get_or, length, rules, subst, sym}
use Rattle.std.proofs.lemmas.Option.{slice_get-get_or}
use Rattle.reopen.specs.declared.items.Items.{Items}
use Rattle.reopen.specs.declared.items.Part.TheVariants as part
use Rattle.reopen.proofs.EntryLaws.{PartsThrough, room_for_items, through_all, through_bad, through_more, through_none}
use Rattle.reopen.proofs.log.take_parts.Goals as goal

-- what stands past the end of parts
abbrev none : Items
none = record { part = part.Cells; at = 0; count = 0 }

pub parts-init : goal.parts-init
parts-init g c = (
  c.requires.room,
  through_none c.args.parts.now c.args.cap c.args.progress.now c.args.header.now c.args.load.now
      (g.D.Disk.state c.args.disk.now) c.requires.ready,
)

pub parts-preserved : goal.parts-preserved
parts-preserved g c =
    let xs = c.args.parts.now in
    let k = c.parts.items-index in
    let here = slice_get-get_or xs k none c.parts-test.true in (
      omega (arith, c.take_part.auto.buf, c.parts.invariant.0),
      subst (λ n. PartsThrough xs c.args.cap n c.args.progress.now c.take_part.new.progress c.args.header.now
          c.take_part.new.header c.args.load.now c.take_part.new.load (g.D.Disk.state c.args.disk.now)
          (g.D.Disk.state c.take_part.new.disk)) (sym (add-one k)) (through_more xs c.args.cap k
          (get_or xs k none)
          c.args.progress.now c.parts.progress c.take_part.new.progress c.args.header.now c.parts.header
          c.take_part.new.header c.args.load.now c.parts.load c.take_part.new.load
          (g.D.Disk.state c.args.disk.now)
          (g.D.Disk.state c.parts.disk) (g.D.Disk.state c.take_part.new.disk) c.requires.orderly here
          c.parts.invariant.1 c.take_part.ensures.rest c.in_ok-take_part.ensures.taken
          c.take_part.ensures.frame
          (c.in_ok-take_part.ensures.cause.calm (λ e. cc))),
    )

pub returns-in_err-take_part-clause-refused : goal.returns-in_err-take_part-clause-refused
returns-in_err-take_part-clause-refused g c = λ told p stands.
    let xs = c.args.parts.now in
    let k = c.parts.items-index in
    let here = slice_get-get_or xs k none c.parts-test.true in
    let bad = through_bad xs c.args.cap k (get_or xs k none) c.args.progress.now c.parts.progress
    c.args.header.now c.parts.header c.args.load.now c.parts.load (g.D.Disk.state c.args.disk.now)
    (g.D.Disk.state c.parts.disk) c.in_err-take_part.field-0.0 here c.parts.invariant.1
    c.in_err-take_part.ensures.refused told p stands in
    search rules

pub take_part-requires-clause-small : goal.take_part-requires-clause-small
take_part-requires-clause-small g c =
    let xs = c.args.parts.now in
    let k = c.parts.items-index in
    omega (arith, c.requires.small k (get_or xs k none) (slice_get-get_or xs k none c.parts-test.true))

pub take_part-requires-clause-within : goal.take_part-requires-clause-within
take_part-requires-clause-within g c = λ told.
    let xs = c.args.parts.now in
    let k = c.parts.items-index in
    let at_first : IsTrue (g.D.Disk.state c.args.disk.now).tells =
    subst IsTrue c.parts.invariant.1.frame.stays.told told in
    omega (
      arith,
      c.requires.within at_first k (get_or xs k none) (slice_get-get_or xs k none c.parts-test.true),
      ap length (c.parts.invariant.1.frame.same_file at_first),
    )

pub take_part-requires-clause-room : goal.take_part-requires-clause-room
take_part-requires-clause-room g c =
    room_for_items (get_or c.args.parts.now c.parts.items-index none).part _ c.parts.invariant.0

pub returns-clause-taken : goal.returns-clause-taken
returns-clause-taken g c = λ told.
    through_all c.args.parts.now c.args.cap c.parts.items-index c.args.progress.now c.parts.progress
    c.args.header.now c.parts.header c.args.load.now c.parts.load (g.D.Disk.state c.args.disk.now)
    (g.D.Disk.state c.parts.disk) (omega arith) c.parts.invariant.1 told
