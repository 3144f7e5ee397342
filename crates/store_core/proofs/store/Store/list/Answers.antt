use Rattle.store_model.proofs.StepLaws.{always, list_step}
use Rattle.store_core.proofs.store.Store.list.Goals as goal

pub returns-clause-step : goal.returns-clause-step
returns-clause-step g c file idle over = always c.put_lines.result
    (list_step c.args.self.now file (c.is_broken.ensures.sound c.if-is_broken.false idle) over)
