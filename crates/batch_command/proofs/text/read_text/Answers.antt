use Rattle.std.proofs.Common.{◌++◌, ◌+◌, IsTrue, arith, ap, sym, ◌∙◌, subst, take, List, ℕ}
use Rattle.batch_command.proofs.ReadLaws.{piece_more, put_end}
use Rattle.batch_command.proofs.text.read_text.Goals as goal

pub pieces-preserved : goal.pieces-preserved
pieces-preserved g c =
    let was = c.pieces.invariant in
    let same = put_end c.pieces.text c.take.new.out c.pieces.filled was.within (omega arith) in
    record {
      within = omega (arith, c.in_ok-n.ensures.bound);
      long = omega arith;
      told = c.in_ok-n.ensures.told ∙ was.told;
      calm = c.in_ok-n.ensures.cause.calm ∙ was.calm;
      whole = λ told.
          piece_more (g.I.Source.state c.args.input.now).left c.pieces.text
          (g.I.Source.state c.pieces.input).left c.take.new.out (g.I.Source.state c.take.new.self).left
          c.pieces.filled c.in_ok-n.n was.within (was.whole told)
          ((c.in_ok-n.ensures.taken (subst IsTrue (sym was.told) told)).first)
          ∙ ap (λ (t : List ℕ). take (c.pieces.filled + c.in_ok-n.n) t
          ++ (g.I.Source.state c.take.new.self).left) (sym same);
    }
