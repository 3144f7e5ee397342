use Rattle.std.proofs.Common.{◌≡◌, ◌+◌, ◌<◌, ◌≤◌, ◌∙◌, ◌++◌, Ok, true, IsTrue, length, arith, rules, ap, subst, sym, refl}
use Rattle.std.specs.FinMap as fin
use Rattle.disk_face.proofs.WriteLaws.{within-none, within-trans}
use Rattle.slot_codec.specs.Names.{name_cmp}
use Rattle.segment_layout.specs.Layouts.{caps_of, divisor_of}
use Rattle.segment_layout.specs.Shapes.{end_of}
use Rattle.extent_table.specs.declared.spot.Spot.{Spot}
use Rattle.load_stream.specs.Steps.{StopsIn}
use Rattle.load_stream.proofs.LoopLaws.{asks_all, asks_due, loads_count, loads_more, loads_none, loads_stop}
use Rattle.load_stream.proofs.objects.load_objects.Goals as goal

pub objects-init : goal.objects-init
objects-init g c =
    let d = g.D.Disk.state c.args.disk.now in
    let p = c.args.plan.now in
    record {
      to = loads_none p c.args.so_far.now (g.I.Source.state c.args.input.now).tells
          (c.args.ahead.now ++ (g.I.Source.state c.args.input.now).left) d p.layout.caps.shape.full
          c.requires.start.empty c.requires.start.zero c.requires.start.none;
      keeps = record { table = c.requires.start.table; names = refl; buf = refl };
      count = ap fin.len c.requires.start.empty ∙ fin.len-empty name_cmp Spot;
      writes = within-none p.base (end_of (divisor_of p.layout) (caps_of p.layout)) d c.requires.ready;
      calm = refl;
      source_calm = refl;
      told = refl;
    }

pub returns-in_err-stood-clause-writes : goal.returns-in_err-stood-clause-writes
returns-in_err-stood-clause-writes g c = within-trans c.objects.invariant.writes c.load_object.ensures.writes

pub returns-then-not-stood-clause-writes : goal.returns-then-not-stood-clause-writes
returns-then-not-stood-clause-writes g c = within-trans c.objects.invariant.writes
    c.load_object.ensures.writes

pub returns-then-not-stood-clause-stops : goal.returns-then-not-stood-clause-stops
returns-then-not-stood-clause-stops g c told n is =
    let p = c.args.plan.now in
    let input = c.args.ahead.now ++ (g.I.Source.state c.args.input.now).left in
    let here : IsTrue (g.I.Source.state c.objects.input).tells =
    subst IsTrue (sym c.objects.invariant.told) told in
    let same : c.objects.n + 1 ≡ n = cc in
    let low : c.objects.n < p.head.count = omega arith in
    subst (StopsIn (caps_of p.layout) p.head.count input) same
    (loads_stop p c.objects.so_far (g.I.Source.state c.args.input.now).tells input
    (c.objects.ahead ++ (g.I.Source.state c.objects.input).left) c.objects.n p.head.count
    (g.D.Disk.state c.args.disk.now) (g.D.Disk.state c.objects.disk) low c.objects.invariant.to told
    (c.in_ok-stood.ensures.none here (search rules)))

pub objects-preserved : goal.objects-preserved
objects-preserved g c =
    let state = g.D.Disk.state in
    let source = g.I.Source.state in
    let was = c.objects.invariant in
    let p = c.args.plan.now in
    let stood : Ok c.in_ok-stood.stood ≡ Ok true = search rules in
    let calm = c.in_ok-stood.ensures.causes.disk_cause.calm (λ is. absurd (cc)) in
    let source_calm = c.in_ok-stood.ensures.causes.source_cause.calm (λ is. absurd (cc)) in
    let told = c.in_ok-stood.ensures.causes.source_cause.told in
    let kept = c.in_ok-stood.ensures.keeps stood in
    let here : IsTrue (state c.args.disk.now).tells → IsTrue (state c.objects.disk).tells =
    λ t. subst IsTrue (sym was.writes.stays.told) t in
    let long : IsTrue (state c.args.disk.now).tells
    → p.base + end_of (divisor_of p.layout) (caps_of p.layout) ≤ length (state c.objects.disk).file =
    λ t. omega (arith, c.requires.plan.long t, (was.writes.others t).same_length) in
    let low : c.objects.n < 65536 = omega (arith, c.requires.few) in
    let to = loads_more p p.layout.caps.shape.full c.objects.so_far c.load_object.new.so_far
    (source c.args.input.now).tells (source c.objects.input).tells
    (c.args.ahead.now ++ (source c.args.input.now).left) (c.objects.ahead ++ (source c.objects.input).left)
    (c.load_object.new.ahead ++ (source c.load_object.new.input).left) c.objects.n (state c.args.disk.now)
    (state c.objects.disk) (state c.load_object.new.disk) long here was.told low was.to
    (c.in_ok-stood.ensures.object stood) in
    record {
      to = to;
      keeps = record {
        table = kept.table;
        names = kept.names ∙ was.keeps.names;
        buf = kept.buf ∙ was.keeps.buf;
      };
      count = loads_count p c.load_object.new.so_far _ (c.objects.n + 1) (state c.args.disk.now)
          (state c.load_object.new.disk) to;
      writes = within-trans was.writes c.load_object.ensures.writes;
      calm = calm ∙ was.calm;
      source_calm = source_calm ∙ was.source_calm;
      told = told ∙ was.told;
    }

pub returns-in_err-stood-clause-asks : goal.returns-in_err-stood-clause-asks
returns-in_err-stood-clause-asks g c =
    let p = c.args.plan.now in
    asks_due p p.layout.caps.shape.full c.objects.so_far _ c.objects.n (g.D.Disk.state c.args.disk.now)
    (g.D.Disk.state c.objects.disk) c.objects.invariant.to p.head.count
    (g.D.Disk.state c.load_object.new.disk) (omega arith) c.load_object.ensures.asks

pub returns-then-not-stood-clause-asks : goal.returns-then-not-stood-clause-asks
returns-then-not-stood-clause-asks g c =
    let p = c.args.plan.now in
    asks_due p p.layout.caps.shape.full c.objects.so_far _ c.objects.n (g.D.Disk.state c.args.disk.now)
    (g.D.Disk.state c.objects.disk) c.objects.invariant.to p.head.count
    (g.D.Disk.state c.load_object.new.disk) (omega arith) c.load_object.ensures.asks

pub returns-clause-asks : goal.returns-clause-asks
returns-clause-asks g c =
    let p = c.args.plan.now in
    asks_all p p.layout.caps.shape.full c.objects.so_far _ c.objects.n (g.D.Disk.state c.args.disk.now)
    (g.D.Disk.state c.objects.disk) c.objects.invariant.to p.head.count (omega arith)
