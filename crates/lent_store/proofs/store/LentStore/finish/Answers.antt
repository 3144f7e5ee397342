use Rattle.lent_store.proofs.NotedLaws.{noted_call}
use Rattle.lent_store.proofs.store.LentStore.finish.Goals as goal

pub returns-clause-noted : goal.returns-clause-noted
returns-clause-noted c =
    noted_call c.finish_in-answer.new.store c.finish_in-answer.new.disk c.self.view_is c.empty_log.ensures
    c.finish_in-answer.ensures.frame.stays.same_mount c.is_noted.ensures.log c.is_noted.ensures.ended
    c.is_noted.ensures.cause
