use Rattle.std.proofs.Common.{arith, rules}
use Rattle.reopen.proofs.ItemLaws.{so_far_all, so_far_bad, so_far_more, so_far_none}
use Rattle.reopen.proofs.items.take_part.Goals as goal

pub pieces-init : goal.pieces-init
pieces-init g c = (
  c.requires.room,
  so_far_none c.args.items c.args.cap c.args.progress.now c.args.header.now c.args.load.now
      (g.D.Disk.state c.args.disk.now) c.requires.ready,
)

pub pieces-preserved : goal.pieces-preserved
pieces-preserved g c = (
  omega (arith, c.take_piece.auto.buf, c.pieces.invariant.0),
  so_far_more c.args.items c.args.cap c.item_len-len.result c.pieces.done c.min.result c.args.progress.now
      c.pieces.progress c.take_piece.new.progress c.args.header.now c.pieces.header c.take_piece.new.header
      c.args.load.now c.pieces.load c.take_piece.new.load (g.D.Disk.state c.args.disk.now)
      (g.D.Disk.state c.pieces.disk) (g.D.Disk.state c.take_piece.new.disk) c.item_len-len.ensures.value
      (omega arith) c.pieces.invariant.1 c.take_piece.ensures.rest c.in_ok-take_piece.ensures.taken
      c.take_piece.ensures.frame c.in_ok-take_piece.ensures.calm,
)

pub returns-in_err-take_piece-clause-refused : goal.returns-in_err-take_piece-clause-refused
returns-in_err-take_piece-clause-refused g c = λ told p stands.
    let bad = so_far_bad c.args.items c.args.cap c.item_len-len.result c.pieces.done c.min.result
    c.args.progress.now c.pieces.progress c.args.header.now c.pieces.header c.args.load.now c.pieces.load
    (g.D.Disk.state c.args.disk.now) (g.D.Disk.state c.pieces.disk) c.in_err-take_piece.field-0.0
    c.item_len-len.ensures.value (omega arith) c.pieces.invariant.1 c.in_err-take_piece.ensures.refused told p
    stands in
    search rules

pub returns-clause-taken : goal.returns-clause-taken
returns-clause-taken g c = λ told.
    so_far_all c.args.items c.args.cap c.pieces.done c.args.progress.now c.pieces.progress c.args.header.now
    c.pieces.header c.args.load.now c.pieces.load (g.D.Disk.state c.args.disk.now)
    (g.D.Disk.state c.pieces.disk) (omega arith) c.pieces.invariant.1 told
