use Rattle.batch_core.proofs.JudgeLaws.{judged_text}
use Rattle.batch_core.proofs.judge.judge.Goals as goal

pub returns-in-Ok : goal.returns-in-Ok
returns-in-Ok g c = c.judge_batch.ensures

pub returns-in-Err : goal.returns-in-Err
returns-in-Err g c = judged_text c.args.again c.args.store.now c.args.text.now c.in-Err.n c.no_batch.result
    c.no_batch.ensures c.in-Err.ensures.stops
