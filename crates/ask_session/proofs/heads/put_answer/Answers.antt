use Rattle.std.specs.Prelude.{Result}
use Rattle.std.proofs.Common.{Err, refl, subst, sym}
use Rattle.ask_text.specs.declared.reply.Reply.{Reply}
use Rattle.ask_session.specs.Putting.{PutsAnswer}
use Rattle.ask_text.specs.declared.ends.End.{End}
use Rattle.ask_session.proofs.heads.put_answer.Goals as goal

pub returns-in-Ok : goal.returns-in-Ok
returns-in-Ok g c = subst (λ (x : Result Reply End). PutsAnswer (g.O.Sink.state c.args.output.now)
    (g.O.Sink.state c.put_head.new.output) x c.put_head.result) (sym c.in-Ok.is) (record {
      put = c.put_head.ensures.put;
      kept = c.put_head.ensures.kept;
      only = c.put_head.ensures.only;
      cause = c.put_head.ensures.cause;
      ended = tt;
      same = tt;
      faults = tt;
      told = c.put_head.ensures.cause.told;
    })

pub returns-in-Err : goal.returns-in-Err
returns-in-Err g c = subst (λ (x : Result Reply End). PutsAnswer (g.O.Sink.state c.args.output.now)
    (g.O.Sink.state c.args.output.now) x (Err c.in-Err.end)) (sym c.in-Err.is) (record {
      put = λ told. tt;
      kept = tt;
      only = tt;
      cause = tt;
      ended = refl;
      same = refl;
      faults = refl;
      told = refl;
    })
