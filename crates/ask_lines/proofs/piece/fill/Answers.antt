use Rattle.std.proofs.Common.{◌≡◌, ◌+◌, ◌-◌, ◌<◌, ◌++◌, ◌∙◌, IsTrue, length, arith, subst, sym}
use Rattle.ask_lines.proofs.PieceLemmas.{fill_more, length-rest}
use Rattle.ask_lines.proofs.piece.fill.Goals as goal

pub parts-preserved : goal.parts-preserved
parts-preserved g c =
    let was = c.parts.invariant in
    let bound = c.in_ok-n.ensures.bound in
    record {
      within = omega (arith, bound, length-rest c.parts.piece c.parts.done, was.within);
      told = c.take.ensures.told ∙ was.told;
      calm = c.in_ok-n.ensures.cause.calm ∙ was.calm;
      filled = λ told.
          let here : IsTrue (g.I.Source.state c.parts.input).tells = subst IsTrue (sym was.told) told in
          fill_more (c.args.ahead.now ++ (g.I.Source.state c.args.input.now).left) c.parts.piece
          c.take.new.out (c.parts.ahead ++ (g.I.Source.state c.parts.input).left)
          (c.take.new.self ++ (g.I.Source.state c.take.new.input).left) c.parts.done c.in_ok-n.n was.within
          (omega (arith, bound)) (was.filled told) (c.in_ok-n.ensures.taken here).first;
    }
