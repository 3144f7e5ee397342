use Rattle.std.proofs.Common.{ap, arith, refl, rules}
use Rattle.disk_history.specs.Changes.RecordedCall.{Sized}
use Rattle.lent_disk.specs.Notings.{changes}
use Rattle.lent_disk.proofs.FrameLaws.{after_length, after_no_length, made_is, refused_is}
use Rattle.lent_disk.proofs.LogLaws.{noting_made, noting_refused}
use Rattle.lent_disk.proofs.Seen.{file_in, seen_of}
use Rattle.lent_disk.proofs.disk.LentDiskDisk.set_len.Goals as goal

pub invariant_of-self : goal.invariant_of-self
invariant_of-self c =
    let s = c.self.inside in let asked = c.set_len.new.self.history in
    noting_refused (Sized c.args.n) (seen_of s.course s.start.value s.asked.history s.room s.log)
    (seen_of c.fail.new.self s.start.value asked s.room s.log) (file_in s.room) c.self.invariant
    (refused_is refl c.fail.ensures.history refl refl (ap (λ h. changes h.calls) c.set_len.ensures) refl refl)
    (search rules)

pub invariant_of-self-2 : goal.invariant_of-self-2
invariant_of-self-2 c =
    let s = c.self.inside in let asked = c.set_len.new.self.history in
    noting_made (Sized c.args.n) (seen_of s.course s.start.value s.asked.history s.room s.log)
    (seen_of c.set_len-2.new.self s.start.value asked c.resize.new.self c.add.new.self)
    (file_in s.room) (file_in c.resize.new.self) c.self.invariant (omega arith) tt
    (made_is refl c.set_len-2.ensures refl c.add.ensures.text (ap (λ h. changes h.calls) c.set_len.ensures)
    c.resize.ensures.most c.add.ensures.most) c.resize.ensures.file

pub returns-then-n-most-clause-frame : goal.returns-then-n-most-clause-frame
returns-then-n-most-clause-frame c =
    let s = c.self.inside in let asked = c.set_len.new.self.history in
    after_no_length c.self.view_is c.self.invariant c.args.n
    (seen_of c.fail.new.self s.start.value asked s.room s.log)
    (refused_is c.self.view_is c.fail.ensures.history refl refl
    (ap (λ h. changes h.calls) c.set_len.ensures) refl refl)

pub returns-clause-frame : goal.returns-clause-frame
returns-clause-frame c =
    let s = c.self.inside in let asked = c.set_len.new.self.history in
    after_length c.self.view_is c.self.invariant c.args.n
    (seen_of c.set_len-2.new.self s.start.value asked c.resize.new.self c.add.new.self)
    (made_is c.self.view_is c.set_len-2.ensures refl c.add.ensures.text
    (ap (λ h. changes h.calls) c.set_len.ensures) c.resize.ensures.most c.add.ensures.most)
