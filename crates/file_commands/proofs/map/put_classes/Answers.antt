use Rattle.std.proofs.Common.{rules, arith, IsTrue}
use Rattle.byte_ranges.specs.Lists.{below}
use Rattle.file_commands.specs.Texts.{class_line}
use Rattle.byte_ranges.proofs.ListLaws.{length-below}
use Rattle.file_commands.proofs.GatherLaws.{got_below, line_more, line_stopped, lines_all}
use Rattle.file_commands.proofs.map.put_classes.Goals as goal

pub returns-in_err-make_room-clause-gathered : goal.returns-in_err-make_room-clause-gathered
returns-in_err-make_room-clause-gathered g c = λ told.
    let there : IsTrue (g.O.Sink.state c.classes.output).tells = grind (arith, c.classes.invariant.told) in
    let all = line_stopped (class_line c.args.k c.args.header.now) (below 32) c.classes.c
    c.in_err-make_room.field-0.0 (c.classes.invariant.so_far told)
    (c.in_err-make_room.ensures.gathered there) in
    search rules

pub classes-preserved : goal.classes-preserved
classes-preserved g c = record {
  so_far = λ told.
      let there : IsTrue (g.O.Sink.state c.classes.output).tells = grind (arith, c.classes.invariant.told) in
      line_more (class_line c.args.k c.args.header.now) (below 32) c.classes.c c.classes.c
      (c.classes.invariant.so_far told) (c.in_ok-make_room.ensures.gathered there) c.push_class.ensures
      (got_below 32 c.classes.c (omega arith));
  calm = grind (arith, c.in_ok-make_room.ensures.cause.calm, c.classes.invariant.calm);
  told = grind (arith, c.make_room.ensures.told, c.classes.invariant.told);
}

pub returns-clause-gathered : goal.returns-clause-gathered
returns-clause-gathered g c = λ told.
    lines_all (class_line c.args.k c.args.header.now) (below 32) c.classes.c (omega (arith, length-below 32))
    (c.classes.invariant.so_far told)
