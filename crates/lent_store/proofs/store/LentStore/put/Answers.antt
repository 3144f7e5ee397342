use Rattle.lent_store.proofs.MountLaws.{change_mount}
use Rattle.lent_store.proofs.NotedLaws.{noted_call}
use Rattle.lent_store.proofs.store.LentStore.put.Goals as goal

pub returns-clause-noted : goal.returns-clause-noted
returns-clause-noted c =
    noted_call c.put-answer.new.self c.put-answer.new.disk c.self.view_is c.empty_log.ensures
    (change_mount c.put-answer.ensures.change) c.is_noted.ensures.log c.is_noted.ensures.ended
    c.is_noted.ensures.cause
