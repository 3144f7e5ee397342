use Rattle.lent_store.proofs.MountLaws.{keep_mount}
use Rattle.lent_store.proofs.NotedLaws.{noted_call}
use Rattle.lent_store.proofs.store.LentStore.keep.Goals as goal

pub returns-clause-noted : goal.returns-clause-noted
returns-clause-noted c =
    noted_call c.keep-answer.new.self c.keep-answer.new.disk c.self.view_is c.empty_log.ensures
    (keep_mount c.keep-answer.ensures.refused c.keep-answer.ensures.kept) c.is_noted.ensures.log
    c.is_noted.ensures.ended
    c.is_noted.ensures.cause
