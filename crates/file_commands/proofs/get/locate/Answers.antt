use Rattle.std.proofs.Common.{◌≡◌, ℕ, List, Result, Ok, Err, inr, rules, subst, sym}
use Rattle.std.specs.Prelude.{IfErr}
use Rattle.command_face.specs.Refusing.{IsNotRead}
use Rattle.command_face.specs.declared.stop.StopReason.{StopReason}
use Rattle.command_face.specs.declared.stop.StopReason.TheVariants as stop
use Rattle.file_commands.specs.Getting.{IsObject, StopsAs}
use Rattle.file_commands.proofs.AnswerLaws.{stops_more}
use Rattle.file_commands.proofs.LooksLaws.{looks_through, missing_plain}
use Rattle.file_commands.proofs.get.locate.Goals as goal

pub returns-in_err-loaded-clause-stopped : goal.returns-in_err-loaded-clause-stopped
returns-in_err-loaded-clause-stopped g c = λ told.
    let file = (g.D.Disk.state c.args.disk.now).file in
    let why = c.in_err-loaded.field-0.0 in
    let all = stops_more (IsNotRead file) (IsObject c.args.name.now file) (λ answer is. inr is) why
    (c.in_err-loaded.ensures.stopped told) in
    search rules

pub returns-clause-found : goal.returns-clause-found
returns-clause-found g c told = c.located_in.ensures.found (g.D.Disk.state c.args.disk.now).file
    (c.in_ok-loaded.ensures.told told)

pub returns-clause-within : goal.returns-clause-within
returns-clause-within g c told = c.located_in.ensures.within (g.D.Disk.state c.args.disk.now).file
    (c.in_ok-loaded.ensures.told told)

-- a name that isn't there is no failure of the disk or of memory
stops : {X : Type 0} (answer : Result (List ℕ) StopReason → Type 0) (r : Result X StopReason)
    → IfErr r (λ why. why ≡ stop.Missing) → IfErr r (λ why. answer (Err why)) → IfErr r (StopsAs answer)
stops answer (Ok x) only missing = tt
stops answer (Err why) only missing =
    subst (StopsAs answer) (sym only) (subst (λ w. answer (Err w)) only missing)

pub returns-clause-stopped : goal.returns-clause-stopped
returns-clause-stopped g c told = stops (IsObject c.args.name.now (g.D.Disk.state c.args.disk.now).file)
    c.located_in.result c.located_in.ensures.only
    (c.located_in.ensures.missing (g.D.Disk.state c.args.disk.now).file (c.in_ok-loaded.ensures.told told))

pub returns-clause-looks : goal.returns-clause-looks
returns-clause-looks g c =
    looks_through (g.D.Disk.state c.args.disk.now) (g.D.Disk.state c.load.new.disk) c.in_ok-loaded.loaded
    c.in_ok-loaded.ensures.looks c.located_in.result c.located_in.ensures.only

pub returns-clause-plain : goal.returns-clause-plain
returns-clause-plain g c = missing_plain c.located_in.result c.located_in.ensures.only
