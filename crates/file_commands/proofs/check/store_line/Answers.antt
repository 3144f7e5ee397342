use Rattle.std.proofs.Common.{◌≡◌, ◌∙◌, IsTrue, Ok, ap, inr, length, rules, subst, sym}
use Rattle.std.specs.Prelude.{None}
use Rattle.reopen.specs.Loads.{table_seen, unboxed}
use Rattle.command_face.specs.Refusing.{IsNotRead}
use Rattle.file_commands.specs.Texts.{IsChecked, check_text}
use Rattle.file_commands.proofs.AnswerLaws.{stops_more}
use Rattle.file_commands.proofs.TextLaws.{told_of}
use Rattle.file_commands.proofs.LooksLaws.{looks_failed, looks_ok}
use Rattle.file_commands.proofs.check.store_line.Goals as goal

pub returns-in_err-loaded-clause-stopped : goal.returns-in_err-loaded-clause-stopped
returns-in_err-loaded-clause-stopped g c = λ told.
    let file = (g.D.Disk.state c.args.disk.now).file in
    let all = stops_more (IsNotRead file) (IsChecked file) (λ answer is. inr is) c.in_err-loaded.field-0.0
    (c.in_err-loaded.ensures.stopped told) in
    search rules

pub returns-in_default-clause-stopped : goal.returns-in_default-clause-stopped
returns-in_default-clause-stopped g c = λ told. tt

pub returns-in_default-clause-looks : goal.returns-in_default-clause-looks
returns-in_default-clause-looks g c =
    looks_failed (g.D.Disk.state c.args.disk.now) (g.D.Disk.state c.load.new.disk)
    (g.D.Disk.state c.length_of.new.disk) c.in_ok-loaded.loaded c.in_ok-loaded.ensures.looks
    c.in_default.ensures.frame _ c.in_default.ensures.cause

pub returns-clause-looks : goal.returns-clause-looks
returns-clause-looks g c =
    looks_ok (g.D.Disk.state c.args.disk.now) (g.D.Disk.state c.load.new.disk)
    (g.D.Disk.state c.length_of.new.disk) c.in_ok-loaded.loaded c.in_ok-loaded.ensures.looks
    c.in-Ok.ensures.frame c.line_of.result c.in-Ok.length c.in-Ok.ensures.cause

pub returns-clause-found : goal.returns-clause-found
returns-clause-found g c = λ told.
    let same = c.in_ok-loaded.ensures.looks.frame in
    let here : IsTrue (g.D.Disk.state c.load.new.disk).tells = subst IsTrue (sym same.stays.told) told in
    let file = (g.D.Disk.state c.args.disk.now).file in
    let long : c.in-Ok.length ≡ length file = c.in-Ok.ensures.length here ∙ ap length (same.same_file told) in
    subst (λ line. IsChecked file (Ok line))
    (sym (c.line_of.ensures ∙ ap (check_text (table_seen (unboxed c.in_ok-loaded.loaded) None)) long))
    (told_of check_text file (unboxed c.in_ok-loaded.loaded) (c.in_ok-loaded.ensures.told told))
