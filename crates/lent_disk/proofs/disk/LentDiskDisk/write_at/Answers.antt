use Rattle.std.proofs.Common.{arith, rules, refl, ap, length, ◌≤◌, ◌+◌, ◌∙◌}
use Rattle.disk_history.specs.Changes.RecordedCall.{Wrote}
use Rattle.lent_disk.specs.Notings.{changes}
use Rattle.lent_disk.proofs.FrameLaws.{after_no_write, after_write, made_is, refused_is}
use Rattle.lent_disk.proofs.LogLaws.{noting_made, noting_refused}
use Rattle.lent_disk.proofs.Seen.{file_in, seen_of}
use Rattle.lent_disk.proofs.disk.LentDiskDisk.write_at.Goals as goal
use Rattle.disk_history.proofs.HistoryLaws.{changed_within}

pub invariant_of-self : goal.invariant_of-self
invariant_of-self c =
    let s = c.self.inside in let asked = c.write.new.self.history in
    noting_refused (Wrote c.args.pos c.args.bytes.now)
    (seen_of s.course s.start.value s.asked.history s.room s.log)
    (seen_of c.fail.new.self s.start.value asked s.room s.log) (file_in s.room) c.self.invariant
    (refused_is refl c.fail.ensures.history refl refl (ap (λ h. changes h.calls) c.write.ensures) refl refl)
    (search rules)

pub invariant_of-self-2 : goal.invariant_of-self-2
invariant_of-self-2 c =
    let s = c.self.inside in let asked = c.write.new.self.history in
    let within : c.args.pos + length c.args.bytes.now ≤ length (file_in s.room) = search rules in
    noting_made (Wrote c.args.pos c.args.bytes.now)
    (seen_of s.course s.start.value s.asked.history s.room s.log)
    (seen_of c.write-2.new.self s.start.value asked c.put.new.self c.add.new.self)
    (file_in s.room) (file_in c.put.new.self) c.self.invariant (omega arith, omega arith) within
    (made_is refl c.write-2.ensures refl c.add.ensures.text (ap (λ h. changes h.calls) c.write.ensures)
    c.put.ensures.most c.add.ensures.most)
    (c.put.ensures.file ∙ changed_within (file_in s.room) c.args.pos c.args.bytes.now within)

pub returns-then-not-fits-clause-frame : goal.returns-then-not-fits-clause-frame
returns-then-not-fits-clause-frame c =
    let s = c.self.inside in let asked = c.write.new.self.history in
    after_no_write c.self.view_is c.self.invariant c.args.pos c.args.bytes.now
    (seen_of c.fail.new.self s.start.value asked s.room s.log)
    (refused_is c.self.view_is c.fail.ensures.history refl refl (ap (λ h. changes h.calls) c.write.ensures)
    refl refl)

pub returns-clause-frame : goal.returns-clause-frame
returns-clause-frame c =
    let s = c.self.inside in let asked = c.write.new.self.history in
    after_write c.self.view_is c.self.invariant c.args.pos c.args.bytes.now
    (seen_of c.write-2.new.self s.start.value asked c.put.new.self c.add.new.self)
    (made_is c.self.view_is c.write-2.ensures refl c.add.ensures.text
    (ap (λ h. changes h.calls) c.write.ensures) c.put.ensures.most c.add.ensures.most)
