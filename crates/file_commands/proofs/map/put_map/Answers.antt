use Rattle.std.proofs.Common.{[], IsTrue, Ok, Err, arith, rules}
use Rattle.std.specs.Prelude.{flat_map}
use Rattle.reopen.specs.Loads.{unboxed}
use Rattle.extent_table.specs.Extents.{records_of}
use Rattle.file_commands.specs.Texts.{moving_line, object_line}
use Rattle.file_commands.proofs.GatherLaws.{gathered_put, gathered_then, pushed, stopped_put}
use Rattle.file_commands.proofs.map.put_map.Goals as goal

pub returns-in_err-put_classes-clause-put : goal.returns-in_err-put_classes-clause-put
returns-in_err-put_classes-clause-put g c = λ told.
    let x = unboxed c.args.loaded.now in
    let same = c.deref-header.ensures in
    let line = moving_line x.header x.header.kind in
    let given = (g.O.Sink.state c.args.output.now).given in
    let first = pushed given [] c.push_moving.new.piece.items line cc in
    let why = c.in_err-put_classes.field-0.0 in
    let all = stopped_put (flat_map object_line (records_of x.table.now)) why
    (gathered_then first (Err why) (rw same at (c.in_err-put_classes.ensures.gathered told))) in
    search rules

pub returns-in_err-put_objects-clause-put : goal.returns-in_err-put_objects-clause-put
returns-in_err-put_objects-clause-put g c = λ told.
    let x = unboxed c.args.loaded.now in
    let same = c.deref-header.ensures in
    let line = moving_line x.header x.header.kind in
    let given = (g.O.Sink.state c.args.output.now).given in
    let first = pushed given [] c.push_moving.new.piece.items line cc in
    let second = gathered_then first (Ok tt) (rw same at (c.in_ok-put_classes.ensures.gathered told)) in
    let there : IsTrue (g.O.Sink.state c.put_classes.new.output).tells =
    grind (arith, c.put_classes.ensures.told) in
    let why = c.in_err-put_objects.field-0.0 in
    let all = gathered_then second (Err why) (c.in_err-put_objects.ensures.gathered there) in
    let front = all.front in
    search rules

pub returns-clause-put : goal.returns-clause-put
returns-clause-put g c = λ told.
    let x = unboxed c.args.loaded.now in
    let same = c.deref-header.ensures in
    let line = moving_line x.header x.header.kind in
    let given = (g.O.Sink.state c.args.output.now).given in
    let first = pushed given [] c.push_moving.new.piece.items line cc in
    let second = gathered_then first (Ok tt) (rw same at (c.in_ok-put_classes.ensures.gathered told)) in
    let there : IsTrue (g.O.Sink.state c.put_classes.new.output).tells =
    grind (arith, c.put_classes.ensures.told) in
    let third = gathered_then second (Ok tt) (c.in_ok-put_objects.ensures.gathered there) in
    let later : IsTrue (g.O.Sink.state c.put_objects.new.output).tells =
    grind (arith, c.put_objects.ensures.told) in
    gathered_put third c.put_rest.result (c.put_rest.ensures.put later)
