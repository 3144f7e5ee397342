use Rattle.std.proofs.Common.{◌∙◌, ap, subst}
use Rattle.std.specs.Prelude.{Err}
use Rattle.size_class.specs.declared.TheConstants.{CLASSES}
use Rattle.store_model.specs.Opened.{IsOpening}
use Rattle.lent_disk.specs.Disks.{lent_state}
use Rattle.lent_disk.specs.Notings.{Noting}
use Rattle.lent_store.proofs.CauseLaws.{refuses_lent}
use Rattle.lent_store.proofs.MadeLaws.{opening_noted}
use Rattle.lent_store.proofs.store.LentStore.open.Goals as goal

pub returns-in-Ok-clause-noted : goal.returns-in-Ok-clause-noted
returns-in-Ok-clause-noted c =
    opening_noted c.args.room.file c.args.room.most c.args.log.most c.in-Ok.store
    c.open-opened.new.disk
    (c.open-opened.ensures.frame.stays.same_mount
    ∙ ap (λ (n : Noting). (lent_state n).last_mount) c.new-disk.ensures) c.is_noted.ensures.log
    c.is_noted.ensures.ended

pub returns-in-Err-clause-refused : goal.returns-in-Err-clause-refused
returns-in-Err-clause-refused c =
    refuses_lent c.args.room c.args.log c.open-opened.new.disk
    (c.open-opened.ensures.frame.stays.same_mount
    ∙ ap (λ (n : Noting). (lent_state n).last_mount) c.new-disk.ensures) c.is_noted.ensures.cause c.in-Err.fault
    c.end.ensures.fits (subst (λ (n : Noting). IsOpening CLASSES (lent_state n)
    (lent_state c.open-opened.new.disk) (Err c.in-Err.fault)) c.new-disk.ensures c.in-Err.ensures)
