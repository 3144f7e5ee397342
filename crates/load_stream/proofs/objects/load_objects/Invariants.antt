use Rattle.std.proofs.Common.{◌≡◌, ◌++◌}
use Rattle.std.specs.FinMap as fin
use Rattle.disk_face.specs.Writes.{WritesWithin}
use Rattle.segment_layout.specs.Layouts.{caps_of, divisor_of}
use Rattle.segment_layout.specs.Shapes.{end_of}
use Rattle.load_stream.specs.Steps.{KeepsRoom, LoadsTo, passed}
use Rattle.load_stream.proofs.objects.load_objects.Given as goal

abbrev pub invariant-objects : goal.invariant-objects
invariant-objects g l = record {
  to : LoadsTo l.plan l.so_far (passed (g.I.Source.state l.fn.input).tells
      (l.fn.ahead ++ (g.I.Source.state l.fn.input).left) (l.ahead ++ (g.I.Source.state l.input).left))
      l.n (g.D.Disk.state l.fn.disk) (g.D.Disk.state l.disk);
  keeps : KeepsRoom l.fn.so_far l.so_far;
  count : fin.len l.so_far.load.now ≡ l.n;
  writes : WritesWithin l.plan.base (end_of (divisor_of l.plan.layout) (caps_of l.plan.layout))
      (g.D.Disk.state l.fn.disk) (g.D.Disk.state l.disk);
  calm : (g.D.Disk.state l.disk).faults ≡ (g.D.Disk.state l.fn.disk).faults;
  source_calm : (g.I.Source.state l.input).faults ≡ (g.I.Source.state l.fn.input).faults;
  told : (g.I.Source.state l.input).tells ≡ (g.I.Source.state l.fn.input).tells;
}
