use Rattle.std.proofs.Common.{IsTrue, arith, rules, subst, sym}
use Rattle.disk_face.specs.Frames.{Untouched}
use Rattle.file_commands.specs.Formatting.{IsDone}
use Rattle.file_commands.proofs.Formatting.{formats_later}
use Rattle.file_commands.proofs.command.format_in.Goals as goal

pub returns-in-Ok-There : goal.returns-in-Ok-There
returns-in-Ok-There g c = record {
  never = (search rules, search rules);
  mounted = search rules;
  answers = search rules;
  nothing_put = search rules;
  plain = search rules;
  formats = λ told empty.
      let same : Untouched (g.B.Disk.state c.args.bay.now) (g.B.Disk.state c.mount.new.self) = search rules in
      let here : IsTrue (g.B.Disk.state c.mount.new.self).tells = subst IsTrue (sym same.told) told in
      formats_later c.args.k c.args.names (IsDone c.format.result) same told empty
      (c.format.ensures.formats here (grind (arith, same.same_file told, empty)));
  silent = search rules;
  keeps = search rules;
}
