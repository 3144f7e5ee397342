use Rattle.std.proofs.Common.{◌+◌, ◌≤◌, IsTrue, ap, arith, length, rules, subst}
use Rattle.std.proofs.Math.Nat.{mul-le-mul_left}
use Rattle.reopen.proofs.PieceLaws.{read_all, read_more, read_none, read_refused}
use Rattle.reopen.proofs.records.set_pieces.Goals as goal

pub pieces-init : goal.pieces-init
pieces-init g c = (
  c.requires.room,
  read_none c.args.version c.args.len c.args.at c.args.count c.args.load.now
      (g.D.Disk.state c.args.disk.now) c.requires.ready c.requires.empty,
)

pub returns-in_err-set_piece-clause-refused : goal.returns-in_err-set_piece-clause-refused
returns-in_err-set_piece-clause-refused g c = λ told.
    let bad = read_refused c.args.version c.args.len c.args.at c.args.count c.pieces.done c.min-n.result
    c.pieces.last c.args.load.now c.pieces.load (g.D.Disk.state c.args.disk.now)
    (g.D.Disk.state c.pieces.disk)
    c.in_err-set_piece.field-0.0
    (omega arith) c.pieces.invariant.1 told c.in_err-set_piece.ensures.refused in
    search rules

pub pieces-preserved : goal.pieces-preserved
pieces-preserved g c = (
  omega (arith, c.set_piece.ensures.same_room, c.pieces.invariant.0),
  read_more c.args.version c.args.len c.args.at c.args.count c.pieces.done c.min-n.result c.pieces.last
      c.set_piece.new.last c.args.load.now c.pieces.load c.set_piece.new.load (g.D.Disk.state c.args.disk.now)
      (g.D.Disk.state c.pieces.disk) (g.D.Disk.state c.set_piece.new.disk) (omega arith) c.pieces.invariant.1
      c.in_ok-set_piece.ensures.set c.in_ok-set_piece.ensures.count c.in_ok-set_piece.ensures.kept
      c.in_ok-set_piece.ensures.names c.in_ok-set_piece.ensures.read c.set_piece.ensures.frame
      c.in_ok-set_piece.ensures.calm,
)

pub returns-clause-read : goal.returns-clause-read
returns-clause-read g c = λ told.
    read_all c.args.version c.args.len c.args.at c.args.count c.pieces.done c.pieces.last
    c.args.load.now c.pieces.load (g.D.Disk.state c.args.disk.now) (g.D.Disk.state c.pieces.disk)
    (omega arith)
    c.pieces.invariant.1 told

pub set_piece-requires-clause-room : goal.set_piece-requires-clause-room
set_piece-requires-clause-room g c =
    let few : c.min-n.result ≤ 512 = omega arith in
    omega (arith, mul-le-mul_left c.args.len few, c.pieces.invariant.0)

pub set_piece-requires-clause-small : goal.set_piece-requires-clause-small
set_piece-requires-clause-small g c =
    let far : c.pieces.done + c.min-n.result ≤ c.args.count = omega arith in
    omega (arith, mul-le-mul_left c.args.len far, c.requires.small)

pub set_piece-requires-clause-within : goal.set_piece-requires-clause-within
set_piece-requires-clause-within g c = λ told.
    let far : c.pieces.done + c.min-n.result ≤ c.args.count = omega arith in
    let at_first : IsTrue (g.D.Disk.state c.args.disk.now).tells =
    subst IsTrue c.pieces.invariant.1.frame.stays.told told in
    omega (
      arith,
      mul-le-mul_left c.args.len far,
      c.requires.within at_first,
      ap length (c.pieces.invariant.1.frame.same_file at_first),
    )
