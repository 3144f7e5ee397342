use Rattle.std.proofs.Common.{ap, refl, rules}
use Rattle.disk_history.specs.Changes.RecordedCall.{Synced}
use Rattle.lent_disk.specs.Notings.{changes}
use Rattle.lent_disk.proofs.FrameLaws.{after_no_sync, after_sync_made, made_is, only_made, refused_is}
use Rattle.lent_disk.proofs.LogLaws.{noting_made, noting_refused}
use Rattle.lent_disk.proofs.Seen.{file_in, seen_of}
use Rattle.lent_disk.proofs.disk.LentDiskDisk.sync.Goals as goal

pub invariant_of-self : goal.invariant_of-self
invariant_of-self c =
    let s = c.self.inside in let asked = c.sync.new.self.history in
    noting_refused Synced (seen_of s.course s.start.value s.asked.history s.room s.log)
    (seen_of c.fail.new.self s.start.value asked s.room s.log) (file_in s.room) c.self.invariant
    (refused_is refl c.fail.ensures.history refl refl (ap (λ h. changes h.calls) c.sync.ensures) refl refl)
    (search rules)

pub invariant_of-self-2 : goal.invariant_of-self-2
invariant_of-self-2 c =
    let s = c.self.inside in let asked = c.sync.new.self.history in
    noting_made Synced (seen_of s.course s.start.value s.asked.history s.room s.log)
    (seen_of c.sync-2.new.self s.start.value asked s.room c.add.new.self)
    (file_in s.room) (file_in s.room) c.self.invariant tt tt
    (made_is refl c.sync-2.ensures refl c.add.ensures.text (ap (λ h. changes h.calls) c.sync.ensures) refl
    c.add.ensures.most) refl

pub returns-then-not-fits-clause-frame : goal.returns-then-not-fits-clause-frame
returns-then-not-fits-clause-frame c =
    let s = c.self.inside in let asked = c.sync.new.self.history in
    after_no_sync c.self.view_is c.self.invariant
    (seen_of c.fail.new.self s.start.value asked s.room s.log)
    (refused_is c.self.view_is c.fail.ensures.history refl refl (ap (λ h. changes h.calls) c.sync.ensures)
    refl refl)

pub returns-clause-rests : goal.returns-clause-rests
returns-clause-rests c =
    let s = c.self.inside in let asked = c.sync.new.self.history in
    only_made c.args.self.now
    (seen_of c.sync-2.new.self s.start.value asked s.room c.add.new.self)
    (made_is c.self.view_is c.sync-2.ensures refl c.add.ensures.text
    (ap (λ h. changes h.calls) c.sync.ensures) refl c.add.ensures.most)

pub returns-clause-frame : goal.returns-clause-frame
returns-clause-frame c =
    let s = c.self.inside in let asked = c.sync.new.self.history in
    after_sync_made c.self.view_is c.self.invariant
    (seen_of c.sync-2.new.self s.start.value asked s.room c.add.new.self)
    (made_is c.self.view_is c.sync-2.ensures refl c.add.ensures.text
    (ap (λ h. changes h.calls) c.sync.ensures) refl c.add.ensures.most)
