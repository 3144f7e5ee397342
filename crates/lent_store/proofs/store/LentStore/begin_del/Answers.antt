use Rattle.lent_store.proofs.MountLaws.{begin_mount}
use Rattle.lent_store.proofs.NotedLaws.{noted_call}
use Rattle.lent_store.proofs.store.LentStore.begin_del.Goals as goal

pub returns-clause-noted : goal.returns-clause-noted
returns-clause-noted c =
    noted_call c.begin_del-answer.new.self c.begin_del-answer.new.disk c.self.view_is c.empty_log.ensures
    (begin_mount c.begin_del-answer.ensures.begins) c.is_noted.ensures.log c.is_noted.ensures.ended
    c.is_noted.ensures.cause
