use Rattle.std.proofs.Common.{◌≡◌, IsTrue, arith, length, refl, rules, subst, sym}
use Rattle.std.proofs.lemmas.Grind.{common_steps}
use Rattle.std.proofs.lemmas.Bool.{eq-eqb}
use Rattle.disk_face.specs.Counts.{counted}
use Rattle.disk_face.specs.Moments.{Rests}
use Rattle.slot_pair.specs.Formats.{HasFirstTable, formatted_file}
use Rattle.file_commands.specs.Formatting.{IsDone, IsFormatted}
use Rattle.command_face.specs.declared.stop.StopReason.TheVariants as stop
use Rattle.file_commands.specs.Formatting.{format_answer}
use Rattle.file_commands.proofs.AnswerLaws.{stopped}
use Rattle.file_commands.proofs.Formatting.{formats_later, formats_now, formatted_now}
use Rattle.file_commands.proofs.command.format.Goals as goal
use Rattle.disk_face.proofs.FrameLaws.{untouched}

pub returns-in_err-map_err-clause-formats : goal.returns-in_err-map_err-clause-formats
returns-in_err-map_err-clause-formats g c = λ told empty.
    let same = c.length_of.ensures.frame in
    let here : IsTrue (g.D.Disk.state c.length_of.new.disk).tells = subst IsTrue (sym same.stays.told) told in
    let done = IsDone c.from_residual-in_err-map_err.result in
    formats_later c.args.k c.args.names done (untouched same) told empty
    (formats_now c.args.k c.args.names done (grind (arith, same.same_file told, empty))
    (c.format.ensures.stopped here) (c.format.ensures.images here) (λ is. absurd (search rules)))

pub returns-in_err-map_err-clause-answers : goal.returns-in_err-map_err-clause-answers
returns-in_err-map_err-clause-answers g c = λ told.
    let output = g.O.Sink.state c.args.output.now in
    let all = stopped (λ answer. answer ≡ format_answer (g.D.Disk.state c.args.disk.now).file) output output
    stop.Disk refl (λ is. cc) tt in
    search rules

pub returns-clause-answers : goal.returns-clause-answers
returns-clause-answers g c = λ told.
    let is = c.length_of.ensures.length told in
    let none : length (g.D.Disk.state c.args.disk.now).file ≡ 0 = grind (arith, is) in
    let test = eq-eqb _ _ none in
    rw test (search rules)

pub returns-clause-formats : goal.returns-clause-formats
returns-clause-formats g c = λ told empty.
    let same = c.length_of.ensures.frame in
    let here : IsTrue (g.D.Disk.state c.length_of.new.disk).tells = subst IsTrue (sym same.stays.told) told in
    let now = g.D.Disk.state c.format.new.disk in
    let file : now.file ≡ formatted_file c.args.k c.args.names = search rules in
    let table : HasFirstTable c.args.k c.args.names now.file = search rules in
    let rests : Rests now = search rules in
    let calls : now.turn ≡ counted (g.D.Disk.state c.length_of.new.disk).turn 10 = search rules in
    let whole : IsFormatted c.args.k c.args.names (g.D.Disk.state c.length_of.new.disk) now =
    formatted_now c.args.k c.args.names file table rests calls in
    let done = IsDone c.put_whole.result in
    formats_later c.args.k c.args.names done (untouched same) told empty
    (formats_now c.args.k c.args.names done (grind (arith, same.same_file told, empty))
    (c.format.ensures.stopped here) (c.format.ensures.images here) (λ is. whole))

pub returns-clause-keeps : goal.returns-clause-keeps
returns-clause-keeps g c = record {
  causes = search rules;
  told = search rules;
  images_told = search rules;
  few = search rules;
  taken = λ told some.
      let is = c.length_of.ensures.length told in
      let none : length (g.D.Disk.state c.args.disk.now).file ≡ 0 = grind (arith, is) in
      absurd (omega (arith, none, some));
}

pub returns-in_err-map_err-clause-keeps : goal.returns-in_err-map_err-clause-keeps
returns-in_err-map_err-clause-keeps g c = record {
  causes = record {
    later = search rules;
    rose = search rules;
    calm = λ fine. absurd (fine (search rules));
    sink_later = search rules;
    sink_rose = search rules;
    sink_calm = search rules;
    sink_told = search rules;
  };
  told = search rules;
  images_told = search rules;
  few = search rules;
  taken = λ told some.
      let is = c.length_of.ensures.length told in
      let none : length (g.D.Disk.state c.args.disk.now).file ≡ 0 = grind (arith, is) in
      absurd (omega (arith, none, some));
}

pub returns-in_err-length : goal.returns-in_err-length
returns-in_err-length g c = grind (arith, common_steps)

pub returns-then-length-ne0 : goal.returns-then-length-ne0
returns-then-length-ne0 g c = grind (arith, common_steps)
