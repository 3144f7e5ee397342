use Rattle.std.proofs.Common.{◌++◌, arith}
use Rattle.ask_session.proofs.BodyLemmas.{fill_more}
use Rattle.ask_session.proofs.body.fill_front.Goals as goal

pub pieces-preserved : goal.pieces-preserved
pieces-preserved g c = record {
  within = omega (arith, c.in_ok-n.ensures.bound);
  there = omega (arith, c.in_ok-n.ensures.long);
  room = omega arith;
  told = grind arith;
  calm = grind (arith, c.in_ok-n.ensures.cause.calm);
  filled = λ told. fill_more (c.args.ahead.now ++ (g.I.Source.state c.args.input.now).left)
      c.pieces.body.items c.take_piece.new.body.items
      (c.pieces.ahead ++ (g.I.Source.state c.pieces.input).left)
      (c.take_piece.new.ahead ++ (g.I.Source.state c.take_piece.new.input).left) c.pieces.done c.in_ok-n.n
      (grind arith) (c.pieces.invariant.filled told) (c.in_ok-n.ensures.taken (grind arith));
}
