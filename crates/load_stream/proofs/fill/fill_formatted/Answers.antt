use Rattle.std.proofs.Common.{◌≡◌, ◌+◌, ◌∙◌, ◌++◌, Err, IsTrue, length, arith, rules, ap, subst, sym, inl}
use Rattle.byte_ranges.proofs.RangeLaws.{length-resized}
use Rattle.disk_face.proofs.MomentLaws.{Leaves-weaken}
use Rattle.segment_layout.specs.Layouts.{caps_of, divisor_of}
use Rattle.segment_layout.specs.Shapes.{end_of}
use Rattle.load_stream.specs.Steps.{passed}
use Rattle.load_stream.proofs.CauseLaws.{causes_behind}
use Rattle.load_stream.proofs.FillLaws.{IsFilled, filled, filled_asks, filled_file, filled_left, grown_asks, grown_file, grown_left, grown_of, leaves_empty, reads_body, saved_asks, saved_beside, saved_either, saved_left, saved_like, saved_read, saved_told}
use Rattle.load_stream.proofs.fill.fill_formatted.Goals as goal

pub returns-in_err-grow-clause-file : goal.returns-in_err-grow-clause-file
returns-in_err-grow-clause-file g c told =
    let s = g.D.Disk.state in
    let b = c.args.block in
    let p = c.args.plan.now in
    let grown = grown_of b p (s c.args.disk.now) (s c.grow.new.disk) c.requires.ranges c.requires.plan
    c.requires.first c.requires.rests c.grow.ensures.frame c.grow.ensures.either told in
    let is : c.from_residual.result ≡ Err c.in_err-grow.field-0.0 = search rules in
    leaves_empty b.k b.names p _ _ c.in_err-grow.field-0.0 c.from_residual.result is
    (grown_file b.k b.names p (s c.args.disk.now) (s c.grow.new.disk) grown)

pub returns-in_err-grow-clause-images : goal.returns-in_err-grow-clause-images
returns-in_err-grow-clause-images g c told =
    let s = g.D.Disk.state in
    let b = c.args.block in
    let p = c.args.plan.now in
    let grown = grown_of b p (s c.args.disk.now) (s c.grow.new.disk) c.requires.ranges c.requires.plan
    c.requires.first c.requires.rests c.grow.ensures.frame c.grow.ensures.either told in
    Leaves-weaken _ (λ image empty. inl empty)
    (grown_left b.k b.names p (s c.args.disk.now) (s c.grow.new.disk) grown)

pub load_all-requires-clause-plan : goal.load_all-requires-clause-plan
load_all-requires-clause-plan g c =
    let p = c.args.plan.now in
    let file = (g.D.Disk.state c.args.disk.now).file in
    record {
      base = c.requires.plan.low;
      end = c.requires.plan.end;
      long = λ here. omega (
        arith,
        ap length (c.in_ok-grow.ensures.resized (subst IsTrue c.grow.ensures.frame.stays.told here)),
        length-resized file (p.base + end_of (divisor_of p.layout) (caps_of p.layout)),
      );
    }

pub returns-in_err-load_all-clause-file : goal.returns-in_err-load_all-clause-file
returns-in_err-load_all-clause-file g c told =
    let s = g.D.Disk.state in
    let b = c.args.block in
    let p = c.args.plan.now in
    let grown = grown_of b p (s c.args.disk.now) (s c.grow.new.disk) c.requires.ranges c.requires.plan
    c.requires.first c.requires.rests c.grow.ensures.frame c.grow.ensures.either told in
    let is : c.from_residual-in_err-load_all.result ≡ Err c.in_err-load_all.field-0.0 = search rules in
    leaves_empty b.k b.names p _ _ c.in_err-load_all.field-0.0 c.from_residual-in_err-load_all.result is
    (filled_file b.k b.names p (s c.args.disk.now) (s c.grow.new.disk) grown
    (s c.load_all.new.disk) c.load_all.ensures.writes)

pub returns-in_err-load_all-clause-images : goal.returns-in_err-load_all-clause-images
returns-in_err-load_all-clause-images g c told =
    let s = g.D.Disk.state in
    let b = c.args.block in
    let p = c.args.plan.now in
    let grown = grown_of b p (s c.args.disk.now) (s c.grow.new.disk) c.requires.ranges c.requires.plan
    c.requires.first c.requires.rests c.grow.ensures.frame c.grow.ensures.either told in
    Leaves-weaken _ (λ image empty. inl empty)
    (filled_left b.k b.names p (s c.args.disk.now) (s c.grow.new.disk) grown
    (s c.load_all.new.disk) c.load_all.ensures.writes)

pub returns-in_err-load_all-clause-stops : goal.returns-in_err-load_all-clause-stops
returns-in_err-load_all-clause-stops g c told n is = c.in_err-load_all.ensures.stops told n (search rules)

pub save_loaded-requires-clause-first : goal.save_loaded-requires-clause-first
save_loaded-requires-clause-first g c here =
    let told : IsTrue (g.D.Disk.state c.args.disk.now).tells =
    subst IsTrue c.grow.ensures.frame.stays.told (subst IsTrue c.load_all.ensures.writes.stays.told here) in
    let s = g.D.Disk.state in
    let b = c.args.block in
    let p = c.args.plan.now in
    let grown = grown_of b p (s c.args.disk.now) (s c.grow.new.disk) c.requires.ranges c.requires.plan
    c.requires.first c.requires.rests c.grow.ensures.frame c.grow.ensures.either told in
    ((filled b.k b.names p (s c.args.disk.now) (s c.grow.new.disk) grown
    (s c.load_all.new.disk) c.load_all.ensures.writes).file here).in_use

pub returns-in-Ok-clause-file : goal.returns-in-Ok-clause-file
returns-in-Ok-clause-file g c told =
    let s = g.D.Disk.state in
    let b = c.args.block in
    let p = c.args.plan.now in
    let grown = grown_of b p (s c.args.disk.now) (s c.grow.new.disk) c.requires.ranges c.requires.plan
    c.requires.first c.requires.rests c.grow.ensures.frame c.grow.ensures.either told in
    let at = s c.load_all.new.disk in
    let now = c.load_all.new.so_far in
    let x = passed (g.I.Source.state c.args.input.now).tells
    (c.args.ahead.now ++ (g.I.Source.state c.args.input.now).left)
    (c.load_all.new.ahead ++ (g.I.Source.state c.load_all.new.input).left) in
    let e = c.into_table-table.result in
    let full : IsFilled b.k b.names p (s c.args.disk.now) (s c.grow.new.disk) at now x e = record {
      grown = grown;
      grew = c.in_ok-grow.ensures.resized told;
      writes = c.load_all.ensures.writes;
      all = c.in_ok-load_all.ensures.loaded;
      same = c.into_table-table.ensures;
    } in
    saved_read b.k b.names p (s c.args.disk.now) (s c.grow.new.disk) at now x e full
    (s c.save_loaded.new.disk).file (c.in-Ok.ensures.saved
    (saved_told b.k b.names p (s c.args.disk.now) (s c.grow.new.disk) at now x e full)
    (saved_beside b.k b.names p (s c.args.disk.now) (s c.grow.new.disk) at now x e full))

pub returns-in-Ok-clause-images : goal.returns-in-Ok-clause-images
returns-in-Ok-clause-images g c told =
    let s = g.D.Disk.state in
    let b = c.args.block in
    let p = c.args.plan.now in
    let grown = grown_of b p (s c.args.disk.now) (s c.grow.new.disk) c.requires.ranges c.requires.plan
    c.requires.first c.requires.rests c.grow.ensures.frame c.grow.ensures.either told in
    let at = s c.load_all.new.disk in
    let now = c.load_all.new.so_far in
    let x = passed (g.I.Source.state c.args.input.now).tells
    (c.args.ahead.now ++ (g.I.Source.state c.args.input.now).left)
    (c.load_all.new.ahead ++ (g.I.Source.state c.load_all.new.input).left) in
    let e = c.into_table-table.result in
    let full : IsFilled b.k b.names p (s c.args.disk.now) (s c.grow.new.disk) at now x e = record {
      grown = grown;
      grew = c.in_ok-grow.ensures.resized told;
      writes = c.load_all.ensures.writes;
      all = c.in_ok-load_all.ensures.loaded;
      same = c.into_table-table.ensures;
    } in
    saved_left b.k b.names p (s c.args.disk.now) (s c.grow.new.disk) at now x e full
    (s c.save_loaded.new.disk) (c.save_loaded.ensures.images
    (saved_told b.k b.names p (s c.args.disk.now) (s c.grow.new.disk) at now x e full)
    (saved_beside b.k b.names p (s c.args.disk.now) (s c.grow.new.disk) at now x e full)
    (saved_like b.k b.names p (s c.args.disk.now) (s c.grow.new.disk) at now x e full))

pub returns-in-Ok-clause-rests : goal.returns-in-Ok-clause-rests
returns-in-Ok-clause-rests g c told =
    c.in-Ok.ensures.rests (subst IsTrue
    (sym (c.load_all.ensures.writes.stays.told ∙ c.grow.ensures.frame.stays.told)) told)

pub returns-in-Ok-clause-causes : goal.returns-in-Ok-clause-causes
returns-in-Ok-clause-causes g c =
    causes_behind (c.grow.ensures.cause.calm (search rules)) (search rules) (search rules)
    c.load_all.ensures.causes c.save_loaded.ensures.calls.cause (search rules) (search rules) (search rules)

pub returns-in-Ok-clause-read : goal.returns-in-Ok-clause-read
returns-in-Ok-clause-read g c =
    let s = g.D.Disk.state in
    let i = g.I.Source.state in
    reads_body c.args.plan.now c.load_all.new.so_far (passed (i c.args.input.now).tells
    (c.args.ahead.now ++ (i c.args.input.now).left) (c.load_all.new.ahead ++ (i c.load_all.new.input).left))
    c.into_table-table.result (s c.args.disk.now) (s c.grow.new.disk) (s c.load_all.new.disk)
    (s c.save_loaded.new.disk) c.in_ok-load_all.ensures.loaded c.into_table-table.ensures
    c.grow.ensures.frame.one_turn c.in-Ok.ensures.calls.all

pub returns-clause-file : goal.returns-clause-file
returns-clause-file g c told =
    let s = g.D.Disk.state in
    let b = c.args.block in
    let p = c.args.plan.now in
    let grown = grown_of b p (s c.args.disk.now) (s c.grow.new.disk) c.requires.ranges c.requires.plan
    c.requires.first c.requires.rests c.grow.ensures.frame c.grow.ensures.either told in
    let at = s c.load_all.new.disk in
    let now = c.load_all.new.so_far in
    let x = passed (g.I.Source.state c.args.input.now).tells
    (c.args.ahead.now ++ (g.I.Source.state c.args.input.now).left)
    (c.load_all.new.ahead ++ (g.I.Source.state c.load_all.new.input).left) in
    let e = c.into_table-table.result in
    let full : IsFilled b.k b.names p (s c.args.disk.now) (s c.grow.new.disk) at now x e = record {
      grown = grown;
      grew = c.in_ok-grow.ensures.resized told;
      writes = c.load_all.ensures.writes;
      all = c.in_ok-load_all.ensures.loaded;
      same = c.into_table-table.ensures;
    } in
    saved_either b.k b.names p (s c.args.disk.now) (s c.grow.new.disk) at now x e full
    (s c.save_loaded.new.disk).file (c.save_loaded.ensures.stopped
    (saved_told b.k b.names p (s c.args.disk.now) (s c.grow.new.disk) at now x e full)
    (saved_beside b.k b.names p (s c.args.disk.now) (s c.grow.new.disk) at now x e full))

pub returns-clause-images : goal.returns-clause-images
returns-clause-images g c told =
    let s = g.D.Disk.state in
    let b = c.args.block in
    let p = c.args.plan.now in
    let grown = grown_of b p (s c.args.disk.now) (s c.grow.new.disk) c.requires.ranges c.requires.plan
    c.requires.first c.requires.rests c.grow.ensures.frame c.grow.ensures.either told in
    let at = s c.load_all.new.disk in
    let now = c.load_all.new.so_far in
    let x = passed (g.I.Source.state c.args.input.now).tells
    (c.args.ahead.now ++ (g.I.Source.state c.args.input.now).left)
    (c.load_all.new.ahead ++ (g.I.Source.state c.load_all.new.input).left) in
    let e = c.into_table-table.result in
    let full : IsFilled b.k b.names p (s c.args.disk.now) (s c.grow.new.disk) at now x e = record {
      grown = grown;
      grew = c.in_ok-grow.ensures.resized told;
      writes = c.load_all.ensures.writes;
      all = c.in_ok-load_all.ensures.loaded;
      same = c.into_table-table.ensures;
    } in
    saved_left b.k b.names p (s c.args.disk.now) (s c.grow.new.disk) at now x e full
    (s c.save_loaded.new.disk) (c.save_loaded.ensures.images
    (saved_told b.k b.names p (s c.args.disk.now) (s c.grow.new.disk) at now x e full)
    (saved_beside b.k b.names p (s c.args.disk.now) (s c.grow.new.disk) at now x e full)
    (saved_like b.k b.names p (s c.args.disk.now) (s c.grow.new.disk) at now x e full))

pub returns-clause-causes : goal.returns-clause-causes
returns-clause-causes g c =
    causes_behind (c.grow.ensures.cause.calm (search rules)) (search rules) (search rules)
    c.load_all.ensures.causes c.save_loaded.ensures.calls.cause (search rules) (search rules) (search rules)

pub returns-in_err-grow-clause-asks : goal.returns-in_err-grow-clause-asks
returns-in_err-grow-clause-asks g c = grown_asks c.args.plan.now (g.D.Disk.state c.args.disk.now)
    (g.D.Disk.state c.grow.new.disk) c.grow.ensures.frame

pub returns-in_err-load_all-clause-asks : goal.returns-in_err-load_all-clause-asks
returns-in_err-load_all-clause-asks g c =
    let s = g.D.Disk.state in
    filled_asks c.args.plan.now (s c.args.disk.now) (s c.grow.new.disk) c.grow.ensures.frame
    (s c.load_all.new.disk) c.load_all.ensures.asks

pub returns-in-Ok-clause-asks : goal.returns-in-Ok-clause-asks
returns-in-Ok-clause-asks g c =
    let s = g.D.Disk.state in
    saved_asks c.args.plan.now (s c.args.disk.now) (s c.grow.new.disk) c.grow.ensures.frame
    (s c.load_all.new.disk) c.load_all.ensures.asks c.load_all.new.so_far _ c.into_table-table.result
    (s c.save_loaded.new.disk) c.in_ok-load_all.ensures.loaded c.into_table-table.ensures
    c.save_loaded.ensures.asks

pub returns-clause-asks : goal.returns-clause-asks
returns-clause-asks g c =
    let s = g.D.Disk.state in
    saved_asks c.args.plan.now (s c.args.disk.now) (s c.grow.new.disk) c.grow.ensures.frame
    (s c.load_all.new.disk) c.load_all.ensures.asks c.load_all.new.so_far _ c.into_table-table.result
    (s c.save_loaded.new.disk) c.in_ok-load_all.ensures.loaded c.into_table-table.ensures
    c.save_loaded.ensures.asks
