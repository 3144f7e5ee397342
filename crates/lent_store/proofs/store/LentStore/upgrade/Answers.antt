use Rattle.lent_store.proofs.MountLaws.{upgrade_mount}
use Rattle.lent_store.proofs.NotedLaws.{noted_call}
use Rattle.lent_store.proofs.store.LentStore.upgrade.Goals as goal

pub returns-clause-noted : goal.returns-clause-noted
returns-clause-noted c =
    noted_call c.upgrade-answer.new.self c.upgrade-answer.new.disk c.self.view_is c.empty_log.ensures
    (upgrade_mount c.upgrade-answer.ensures.idle c.upgrade-answer.ensures.upgrades) c.is_noted.ensures.log
    c.is_noted.ensures.ended
    c.is_noted.ensures.cause
