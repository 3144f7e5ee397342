use Rattle.std.proofs.Common.{arith, rules, IsTrue}
use Rattle.extent_table.specs.Extents.{record_of, records_of}
use Rattle.file_commands.specs.Texts.{object_line}
use Rattle.file_commands.proofs.GatherLaws.{line_more, line_stopped, lines_all}
use Rattle.file_commands.proofs.TextLaws.{count_of, record_at}
use Rattle.file_commands.proofs.map.put_objects.Goals as goal

pub returns-in_err-make_room-clause-gathered : goal.returns-in_err-make_room-clause-gathered
returns-in_err-make_room-clause-gathered g c = λ told.
    let there : IsTrue (g.O.Sink.state c.names.output).tells = grind (arith, c.names.invariant.told) in
    let all = line_stopped object_line (records_of c.args.table.now.now) c.names.n
    c.in_err-make_room.field-0.0 (c.names.invariant.so_far told)
    (c.in_err-make_room.ensures.gathered there) in
    search rules

pub names-preserved : goal.names-preserved
names-preserved g c = record {
  so_far = λ told.
      let there : IsTrue (g.O.Sink.state c.names.output).tells = grind (arith, c.names.invariant.told) in
      let name = c.in_order-name.result.1 in
      let spot = c.in_order-name.result.2 in
      line_more object_line (records_of c.args.table.now.now) c.names.n (record_of (name, spot))
      (c.names.invariant.so_far told) (c.in_ok-make_room.ensures.gathered there) c.push_object.ensures
      (record_at c.args.table.now c.requires c.names.n name spot c.in_order-name.ensures.entry);
  calm = grind (arith, c.in_ok-make_room.ensures.cause.calm, c.names.invariant.calm);
  told = grind (arith, c.make_room.ensures.told, c.names.invariant.told);
}

pub returns-clause-gathered : goal.returns-clause-gathered
returns-clause-gathered g c = λ told.
    lines_all object_line (records_of c.args.table.now.now) c.names.n
    (omega (arith, count_of c.args.table.now c.requires)) (c.names.invariant.so_far told)
