-- Each command, from what its crate says of it.
use Rattle.std.proofs.Common.{◌≡◌, Ok, ap, refl, subst, sym}
use Rattle.disk_face.specs.Devices.{devices}
use Rattle.file_commands.specs.Getting.{IsObject}
use Rattle.file_commands.specs.Texts.{IsChecked, IsMapped}
use Rattle.costore_top.specs.Answering.{IsAnswer}
use Rattle.costore_top.specs.Commands.{batch, cached, check, desk, dump, format, get, help, load, map_of, run, upgrade, version, work}
use Rattle.costore_top.specs.Words.{IsCommand, command_of}
use Rattle.costore_top.specs.declared.help.TheConstants.{HELP, VERSION}
use Rattle.costore_top.proofs.CommandLaws.{check_answer, dumping, formatting, get_answer, help_answer, map_answer, reading, telling, version_answer, writing}
use Rattle.costore_top.proofs.OtherLaws.{batching_known, desking_not_one, loading_known, loading_silent, session_not_one, upgrading_not_one, upgrading_plain, working_not_one, working_plain}
use Rattle.costore_top.proofs.PlainLaws.{does_as, plain_does}
use Rattle.costore_top.proofs.command.do_command.Goals as goal

pub returns-in-Format : goal.returns-in-Format
returns-in-Format g c =
    let e = c.format_in.ensures in
    let f = c.finish.ensures in
    let disk = g.B.Disk.state c.args.bay.now in
    let new = g.B.Disk.state c.format_in.new.bay in
    let out = c.args.output.now in
    let put = c.format_in.new.output in
    let from = g.I.Source.state c.args.input.now in
    let bay = c.format_in.new.bay ≡ c.args.bay.now in
    let input = c.args.input.now ≡ c.args.input.now in
    let command = format c.in-Format.file.now c.in-Format.k c.in-Format.names in
    let layer = formatting g.O.Sink.state disk new out put bay c.format_in.result c.in-Format.file.now
    c.in-Format.k c.in-Format.names e.never.0 e.never.1 e.mounted e.answers e.nothing_put e.plain e.formats
    e.silent e.keeps in
    does_as (ap command_of c.in-Format.is)
    (plain_does g.O.Sink.state command refl disk new out put (g.O.Sink.state c.finish.new.output)
    from from bay input refl c.format_in.result c.finish.result f.status f.line f.told
    f.later f.calm layer)

pub format_in-requires-clause-sizes : goal.format_in-requires-clause-sizes
format_in-requires-clause-sizes g c =
    let valid = subst IsCommand (ap command_of c.in-Format.is) c.requires.valid in
    valid.1

pub returns-in-Get : goal.returns-in-Get
returns-in-Get g c =
    let e = c.get_from.ensures in
    let f = c.finish-in-Get.ensures in
    let disk = g.B.Disk.state c.args.bay.now in
    let new = g.B.Disk.state c.get_from.new.bay in
    let out = c.args.output.now in
    let put = c.get_from.new.output in
    let from = g.I.Source.state c.args.input.now in
    let bay = c.get_from.new.bay ≡ c.args.bay.now in
    let input = c.args.input.now ≡ c.args.input.now in
    let command = get c.in-Get.file.now c.in-Get.name in
    let layer = reading g.O.Sink.state disk new out put bay c.get_from.result command
    (IsObject c.in-Get.name disk.file) refl refl refl refl
    (get_answer c.in-Get.file.now c.in-Get.name disk.file) e.words e.mounted e.answers
    e.nothing_put e.plain e.frame e.keeps in
    does_as (ap command_of c.in-Get.is)
    (plain_does g.O.Sink.state command refl disk new out put (g.O.Sink.state c.finish-in-Get.new.output)
    from from bay input refl c.get_from.result c.finish-in-Get.result f.status f.line f.told
    f.later f.calm layer)

pub returns-in-Check : goal.returns-in-Check
returns-in-Check g c =
    let e = c.check_from.ensures in
    let f = c.finish-in-Check.ensures in
    let disk = g.B.Disk.state c.args.bay.now in
    let new = g.B.Disk.state c.check_from.new.bay in
    let out = c.args.output.now in
    let put = c.check_from.new.output in
    let from = g.I.Source.state c.args.input.now in
    let bay = c.check_from.new.bay ≡ c.args.bay.now in
    let input = c.args.input.now ≡ c.args.input.now in
    let command = check c.in-Check.file.now in
    let layer = reading g.O.Sink.state disk new out put bay c.check_from.result command
    (IsChecked disk.file) refl refl refl refl (check_answer c.in-Check.file.now disk.file) e.words e.mounted
    e.answers e.nothing_put e.plain e.frame e.keeps in
    does_as (ap command_of c.in-Check.is)
    (plain_does g.O.Sink.state command refl disk new out put (g.O.Sink.state c.finish-in-Check.new.output)
    from from bay input refl c.check_from.result c.finish-in-Check.result f.status f.line f.told
    f.later f.calm layer)

pub returns-in-Map : goal.returns-in-Map
returns-in-Map g c =
    let e = c.map_from.ensures in
    let f = c.finish-in-Map.ensures in
    let disk = g.B.Disk.state c.args.bay.now in
    let new = g.B.Disk.state c.map_from.new.bay in
    let out = c.args.output.now in
    let put = c.map_from.new.output in
    let from = g.I.Source.state c.args.input.now in
    let bay = c.map_from.new.bay ≡ c.args.bay.now in
    let input = c.args.input.now ≡ c.args.input.now in
    let command = map_of c.in-Map.file.now in
    let layer = reading g.O.Sink.state disk new out put bay c.map_from.result command
    (IsMapped disk.file) refl refl refl refl
    (map_answer c.in-Map.file.now disk.file) e.words e.mounted e.answers
    e.nothing_put e.plain e.frame e.keeps in
    does_as (ap command_of c.in-Map.is)
    (plain_does g.O.Sink.state command refl disk new out put (g.O.Sink.state c.finish-in-Map.new.output)
    from from bay input refl c.map_from.result c.finish-in-Map.result f.status f.line f.told
    f.later f.calm layer)

pub returns-in-Dump : goal.returns-in-Dump
returns-in-Dump g c =
    let e = c.dump_from.ensures in
    let f = c.finish-in-Dump.ensures in
    let disk = g.B.Disk.state c.args.bay.now in
    let new = g.B.Disk.state c.dump_from.new.bay in
    let out = c.args.output.now in
    let put = c.dump_from.new.output in
    let from = g.I.Source.state c.args.input.now in
    let bay = c.dump_from.new.bay ≡ c.args.bay.now in
    let input = c.args.input.now ≡ c.args.input.now in
    let command = dump c.in-Dump.file.now in
    let layer = dumping g.O.Sink.state disk new out put bay c.dump_from.result c.in-Dump.file.now e.words
    e.mounted e.dumps e.nothing_put e.plain e.frame e.keeps in
    does_as (ap command_of c.in-Dump.is)
    (plain_does g.O.Sink.state command refl disk new out put (g.O.Sink.state c.finish-in-Dump.new.output)
    from from bay input refl c.dump_from.result c.finish-in-Dump.result f.status f.line f.told
    f.later f.calm layer)

pub returns-in-Help : goal.returns-in-Help
returns-in-Help g c =
    let e = c.put_whole.ensures in
    let f = c.finish-in-Help.ensures in
    let disk = g.B.Disk.state c.args.bay.now in
    let out = c.args.output.now in
    let put = c.put_whole.new.output in
    let from = g.I.Source.state c.args.input.now in
    let bay = c.args.bay.now ≡ c.args.bay.now in
    let input = c.args.input.now ≡ c.args.input.now in
    let text = c.as_bytes.result.now in
    let is : text ≡ HELP.now = cc in
    let answer = subst (λ xs. IsAnswer help disk.file (Ok xs)) (sym is) (help_answer disk.file) in
    let layer = telling g.O.Sink.state help text disk out put bay refl refl refl refl refl answer
    c.put_whole.result e.put e.only e.told e.cause in
    does_as (ap command_of c.in-Help.is)
    (plain_does g.O.Sink.state help refl disk disk out put (g.O.Sink.state c.finish-in-Help.new.output)
    from from bay input refl c.put_whole.result c.finish-in-Help.result f.status f.line f.told f.later
    f.calm layer)

pub returns-in-Version : goal.returns-in-Version
returns-in-Version g c =
    let e = c.put_whole-in-Version.ensures in
    let f = c.finish-in-Version.ensures in
    let disk = g.B.Disk.state c.args.bay.now in
    let out = c.args.output.now in
    let put = c.put_whole-in-Version.new.output in
    let from = g.I.Source.state c.args.input.now in
    let bay = c.args.bay.now ≡ c.args.bay.now in
    let input = c.args.input.now ≡ c.args.input.now in
    let text = c.as_bytes-in-Version.result.now in
    let is : text ≡ VERSION.now = cc in
    let answer = subst (λ xs. IsAnswer version disk.file (Ok xs)) (sym is) (version_answer disk.file) in
    let layer = telling g.O.Sink.state version text disk out put bay refl refl refl refl refl answer
    c.put_whole-in-Version.result e.put e.only e.told e.cause in
    does_as (ap command_of c.in-Version.is)
    (plain_does g.O.Sink.state version refl disk disk out put (g.O.Sink.state c.finish-in-Version.new.output)
    from from bay input refl c.put_whole-in-Version.result c.finish-in-Version.result f.status f.line f.told
    f.later f.calm layer)

-- ---- commands that write objects

pub returns-in-Run : goal.returns-in-Run
returns-in-Run g c =
    let e = c.run_file.ensures in
    let old = devices (g.B.Disk.state c.args.bay.now) (g.O.Sink.state c.args.output.now) in
    let new = devices (g.B.Disk.state c.run_file.new.bay) (g.O.Sink.state c.run_file.new.output) in
    let from = g.I.Source.state c.args.input.now in
    let rest = g.I.Source.state c.run_file.new.input in
    let bay = c.run_file.new.bay ≡ c.args.bay.now in
    let input = c.run_file.new.input ≡ c.args.input.now in
    does_as (ap command_of c.in-Run.is)
    (writing (run c.in-Run.file.now) refl refl refl refl c.run_file.result old new from rest bay input
    (session_not_one c.run_file.result.status e.known) e.mounted (λ _. e.refused) (λ is. absurd (cc))
    (λ is. absurd (cc)) (λ is. absurd (cc)) (λ is. absurd (cc))
    (record { headline = e.headline; known = e.known; always = e.serves }))

pub returns-in-Work : goal.returns-in-Work
returns-in-Work g c =
    let e = c.work_file.ensures in
    let old = devices (g.B.Disk.state c.args.bay.now) (g.O.Sink.state c.args.output.now) in
    let new = devices (g.B.Disk.state c.work_file.new.bay) (g.O.Sink.state c.work_file.new.output) in
    let from = g.I.Source.state c.args.input.now in
    let bay = c.work_file.new.bay ≡ c.args.bay.now in
    let input = c.args.input.now ≡ c.args.input.now in
    let none = working_plain c.work_file.result.status e.keeps.known in
    does_as (ap command_of c.in-Work.is)
    (writing (work c.in-Work.file.now c.in-Work.number c.in-Work.count) refl refl refl refl
    c.work_file.result old new from from bay input
    (working_not_one c.work_file.result.status e.keeps.known) e.mounted (λ _. e.refused) (λ is. absurd (cc))
    (λ _. (refl, none.0, none.1))
    (λ _. none.2) (λ _. e.numbers) (e.works, e.keeps))

pub work_file-requires-clause-least : goal.work_file-requires-clause-least
work_file-requires-clause-least g c =
    let valid = subst IsCommand (ap command_of c.in-Work.is) c.requires.valid in
    valid.1.1

pub work_file-requires-clause-most : goal.work_file-requires-clause-most
work_file-requires-clause-most g c =
    let valid = subst IsCommand (ap command_of c.in-Work.is) c.requires.valid in
    valid.1.2

pub returns-in-Cached : goal.returns-in-Cached
returns-in-Cached g c =
    let e = c.cached_file.ensures in
    let old = devices (g.B.Disk.state c.args.bay.now) (g.O.Sink.state c.args.output.now) in
    let new = devices (g.B.Disk.state c.cached_file.new.bay) (g.O.Sink.state c.cached_file.new.output) in
    let from = g.I.Source.state c.args.input.now in
    let bay = c.cached_file.new.bay ≡ c.args.bay.now in
    let input = c.args.input.now ≡ c.args.input.now in
    let none = working_plain c.cached_file.result.status e.keeps.known in
    does_as (ap command_of c.in-Cached.is)
    (writing (cached c.in-Cached.file.now c.in-Cached.number c.in-Cached.count c.in-Cached.entries) refl refl
    refl refl c.cached_file.result old new from from bay input
    (working_not_one c.cached_file.result.status e.keeps.known) e.mounted (λ _. e.refused)
    (λ is. absurd (cc)) (λ _. (refl, none.0, none.1))
    (λ _. none.2) (λ _. e.numbers) (e.works, e.keeps))

pub cached_file-requires-clause-least : goal.cached_file-requires-clause-least
cached_file-requires-clause-least g c =
    let valid = subst IsCommand (ap command_of c.in-Cached.is) c.requires.valid in
    valid.1.1

pub cached_file-requires-clause-most : goal.cached_file-requires-clause-most
cached_file-requires-clause-most g c =
    let valid = subst IsCommand (ap command_of c.in-Cached.is) c.requires.valid in
    valid.1.2

pub cached_file-requires-clause-some : goal.cached_file-requires-clause-some
cached_file-requires-clause-some g c =
    let valid = subst IsCommand (ap command_of c.in-Cached.is) c.requires.valid in
    valid.2

pub cached_file-requires-clause-few : goal.cached_file-requires-clause-few
cached_file-requires-clause-few g c =
    let valid = subst IsCommand (ap command_of c.in-Cached.is) c.requires.valid in
    valid.3

pub returns-in-Upgrade : goal.returns-in-Upgrade
returns-in-Upgrade g c =
    let e = c.upgrade_file.ensures in
    let old = devices (g.B.Disk.state c.args.bay.now) (g.O.Sink.state c.args.output.now) in
    let new = devices (g.B.Disk.state c.upgrade_file.new.bay) (g.O.Sink.state c.upgrade_file.new.output) in
    let from = g.I.Source.state c.args.input.now in
    let bay = c.upgrade_file.new.bay ≡ c.args.bay.now in
    let input = c.args.input.now ≡ c.args.input.now in
    let none = upgrading_plain c.upgrade_file.result.status e.keeps.serves.known in
    does_as (ap command_of c.in-Upgrade.is)
    (writing (upgrade c.in-Upgrade.file.now) refl refl refl refl c.upgrade_file.result old new from from bay
    input (upgrading_not_one c.upgrade_file.result.status e.keeps.serves.known) e.mounted (λ _. e.refused)
    (λ is. absurd (cc)) (λ _. (refl, none.0, none.1))
    (λ _. none.2) (λ _. e.numbers) (e.upgrades, e.keeps))

pub returns-in-Batch : goal.returns-in-Batch
returns-in-Batch g c =
    let e = c.batch_file.ensures in
    let old = devices (g.B.Disk.state c.args.bay.now) (g.O.Sink.state c.args.output.now) in
    let new = devices (g.B.Disk.state c.batch_file.new.bay) (g.O.Sink.state c.batch_file.new.output) in
    let from = g.I.Source.state c.args.input.now in
    let rest = g.I.Source.state c.batch_file.new.input in
    let bay = c.batch_file.new.bay ≡ c.args.bay.now in
    let input = c.batch_file.new.input ≡ c.args.input.now in
    let none = batching_known c.batch_file.result.status e.keeps.serves.known in
    does_as (ap command_of c.in-Batch.is)
    (writing (batch c.in-Batch.file.now) refl refl refl refl c.batch_file.result old new from rest bay input
    none.0 e.mounted (λ _. e.refused) (λ is. absurd (cc)) (λ is. absurd (cc))
    (λ _. none.1) (λ _. e.numbers)
    (e.batches, e.keeps, e.reads))

pub returns-in-Desk : goal.returns-in-Desk
returns-in-Desk g c =
    let e = c.desk_file.ensures in
    let old = devices (g.B.Disk.state c.args.bay.now) (g.O.Sink.state c.args.output.now) in
    let new = devices (g.B.Disk.state c.desk_file.new.bay) (g.O.Sink.state c.desk_file.new.output) in
    let from = g.I.Source.state c.args.input.now in
    let rest = g.I.Source.state c.desk_file.new.input in
    let bay = c.desk_file.new.bay ≡ c.args.bay.now in
    let input = c.desk_file.new.input ≡ c.args.input.now in
    does_as (ap command_of c.in-Desk.is)
    (writing (desk c.in-Desk.file.now) refl refl refl refl c.desk_file.result old new from rest bay input
    (desking_not_one c.desk_file.result.status e.keeps.serves.known) e.mounted (λ _. e.refused)
    (λ is. absurd (cc)) (λ is. absurd (cc)) (λ is. absurd (cc)) (λ _. e.numbers)
    (e.desks, e.keeps, e.reads))

pub returns-in-Load : goal.returns-in-Load
returns-in-Load g c =
    let e = c.load_file.ensures in
    let old = devices (g.B.Disk.state c.args.bay.now) (g.O.Sink.state c.args.output.now) in
    let new = devices (g.B.Disk.state c.load_file.new.bay) (g.O.Sink.state c.load_file.new.output) in
    let from = g.I.Source.state c.args.input.now in
    let rest = g.I.Source.state c.load_file.new.input in
    let bay = c.load_file.new.bay ≡ c.args.bay.now in
    let input = c.load_file.new.input ≡ c.args.input.now in
    let status = c.load_file.result.status in
    let none = loading_known status e.keeps.known in
    does_as (ap command_of c.in-Load.is)
    (writing (load c.in-Load.file.now c.in-Load.k c.in-Load.names) refl refl refl refl c.load_file.result old
    new from rest bay input none.0 e.mounted (λ is. absurd (cc))
    (λ _ told seven. loading_silent status old new e.keeps told seven) (λ is. absurd (cc))
    (λ _. none.1) (λ _. e.numbers) (e.loads, e.keeps, e.reads))

pub load_file-requires-clause-sizes : goal.load_file-requires-clause-sizes
load_file-requires-clause-sizes g c =
    let valid = subst IsCommand (ap command_of c.in-Load.is) c.requires.valid in
    valid.1
