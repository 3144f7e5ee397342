use Rattle.std.proofs.Common.{◌++◌, IsTrue, arith, subst, sym}
use Rattle.disk_face.proofs.FrameLaws.{asks_nothing, asks_then}
use Rattle.disk_face.proofs.MomentLaws.{Leaves-weaken}
use Rattle.load_stream.specs.Steps.{passed}
use Rattle.load_stream.proofs.LoadLaws.{formatted_left, leaves_new, leaves_store, none_or_empty, reads_new}
use Rattle.load_stream.proofs.loading.fill_new.Goals as goal

pub returns-in-Ok-clause-file : goal.returns-in-Ok-clause-file
returns-in-Ok-clause-file g c told =
    let i = g.I.Source.state in
    leaves_new c.args.block.k c.args.block.names c.args.plan.now (passed (i c.args.input.now).tells
    (c.args.ahead.now ++ (i c.args.input.now).left)
    (c.fill_formatted.new.ahead ++ (i c.fill_formatted.new.input).left))
    (g.D.Disk.state c.fill_formatted.new.disk).file c.fill_formatted.result
    (c.fill_formatted.ensures.file (subst IsTrue (sym c.format.ensures.frame.stays.told) told))

pub returns-in-Ok-clause-past : goal.returns-in-Ok-clause-past
returns-in-Ok-clause-past g c told more =
    let i = g.I.Source.state in
    leaves_store c.args.block.k c.args.block.names c.args.plan.now (passed (i c.args.input.now).tells
    (c.args.ahead.now ++ (i c.args.input.now).left)
    (c.fill_formatted.new.ahead ++ (i c.fill_formatted.new.input).left))
    (g.D.Disk.state c.fill_formatted.new.disk).file c.fill_formatted.result
    (c.fill_formatted.ensures.file (subst IsTrue (sym c.format.ensures.frame.stays.told) told))

pub returns-in-Ok-clause-images : goal.returns-in-Ok-clause-images
returns-in-Ok-clause-images g c told only =
    let s = g.D.Disk.state in
    let i = g.I.Source.state in
    let b = c.args.block in
    formatted_left b.k b.names c.args.plan.now
    (passed (i c.args.input.now).tells (c.args.ahead.now ++ (i c.args.input.now).left)
    (c.fill_formatted.new.ahead ++ (i c.fill_formatted.new.input).left))
    (s c.args.disk.now) (s c.format.new.disk)
    (s c.fill_formatted.new.disk) (c.format.ensures.images told only)
    (c.fill_formatted.ensures.images (subst IsTrue (sym c.format.ensures.frame.stays.told) told))

pub returns-in-Err-clause-file : goal.returns-in-Err-clause-file
returns-in-Err-clause-file g c told =
    let b = c.args.block in
    none_or_empty b.k b.names c.args.plan.now _
    (g.D.Disk.state c.format.new.disk).file (c.format.ensures.stopped told)

pub returns-in-Err-clause-past : goal.returns-in-Err-clause-past
returns-in-Err-clause-past g c told more = absurd (omega (arith, more, c.format.ensures.calls.most))

pub returns-in-Err-clause-images : goal.returns-in-Err-clause-images
returns-in-Err-clause-images g c told only =
    let b = c.args.block in
    Leaves-weaken _ (none_or_empty b.k b.names c.args.plan.now _)
    (c.format.ensures.images told only)

pub returns-in-Ok-clause-read : goal.returns-in-Ok-clause-read
returns-in-Ok-clause-read g c =
    let s = g.D.Disk.state in
    let i = g.I.Source.state in
    reads_new c.args.plan.now
    (passed (i c.args.input.now).tells (c.args.ahead.now ++ (i c.args.input.now).left)
    (c.fill_formatted.new.ahead ++ (i c.fill_formatted.new.input).left)) (s c.args.disk.now)
    (s c.format.new.disk)
    (s c.fill_formatted.new.disk) c.fill_formatted.result c.in-Ok.ensures.calls.all
    c.fill_formatted.ensures.read

pub returns-in-Ok-clause-asks : goal.returns-in-Ok-clause-asks
returns-in-Ok-clause-asks g c = asks_then c.format.ensures.asks c.fill_formatted.ensures.asks
    (omega arith) (omega (arith, c.requires.plan.base)) (omega arith)

pub returns-in-Err-clause-asks : goal.returns-in-Err-clause-asks
returns-in-Err-clause-asks g c = asks_then c.format.ensures.asks
    (asks_nothing (g.D.Disk.state c.format.new.disk)) (omega arith) (omega (arith, c.requires.plan.base))
    (omega arith)
