use Rattle.std.proofs.Common.{◌≤◌, ◌≡◌, [], IsTrue, length, take}
use Rattle.disk_face.specs.Frames.{Unchanged}
use Rattle.extent_table.specs.Extents.{digests_seen}
use Rattle.dump_stream.specs.Dumps.{objects_text}
use Rattle.dump_stream.specs.Dumping.{AreSound, Gathers, read_entries}
use Rattle.dump_stream.proofs.putting.put_objects.Given as goal

abbrev pub invariant-names : goal.invariant-names
invariant-names g l = record {
  gathered : IsTrue (g.D.Disk.state l.fn.disk).tells → IsTrue (g.O.Sink.state l.fn.output).tells
      → Gathers [] (objects_text (take l.n (read_entries l.base (g.D.Disk.state l.fn.disk).file l.table.now)))
      (g.O.Sink.state l.fn.output).given (g.O.Sink.state l.output).given (take l.held l.buf);
  within : l.held ≤ length l.buf;
  sound : IsTrue (g.D.Disk.state l.fn.disk).tells → AreSound (digests_seen l.version l.table.digests)
      (take l.n (read_entries l.base (g.D.Disk.state l.fn.disk).file l.table.now));
  frame : Unchanged (g.D.Disk.state l.fn.disk) (g.D.Disk.state l.disk);
  calm : (g.D.Disk.state l.disk).faults ≡ (g.D.Disk.state l.fn.disk).faults;
  sink_calm : (g.O.Sink.state l.output).faults ≡ (g.O.Sink.state l.fn.output).faults;
  sink_told : (g.O.Sink.state l.output).tells ≡ (g.O.Sink.state l.fn.output).tells;
  room : length l.buf ≡ length l.fn.buf;
}
