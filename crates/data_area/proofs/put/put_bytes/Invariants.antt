use Rattle.std.proofs.Common.{◌-◌, ◌+◌, ◌≡◌, ◌++◌, ◌≤◌, IsTrue, length}
use Rattle.byte_ranges.specs.Ranges.{bytes_at}
use Rattle.disk_face.specs.Frames.{Unchanged}
use Rattle.data_area.proofs.put.put_bytes.Given as goal

abbrev pub invariant-pieces : goal.invariant-pieces
invariant-pieces g l = record {
  within : l.done ≤ l.size;
  room : length l.buf ≡ length l.fn.buf;
  put : IsTrue (g.D.Disk.state l.fn.disk).tells → IsTrue (g.O.Sink.state l.fn.sink).tells
      → (g.O.Sink.state l.sink).given ≡ (g.O.Sink.state l.fn.sink).given
      ++ bytes_at (g.D.Disk.state l.fn.disk).file l.at l.done;
  number : IsTrue (g.O.Sink.state l.fn.sink).tells
      → length (g.O.Sink.state l.sink).given ≡ length (g.O.Sink.state l.fn.sink).given + l.done;
  frame : Unchanged (g.D.Disk.state l.fn.disk) (g.D.Disk.state l.disk);
  calm : (g.D.Disk.state l.disk).faults ≡ (g.D.Disk.state l.fn.disk).faults;
  sink_calm : (g.O.Sink.state l.sink).faults ≡ (g.O.Sink.state l.fn.sink).faults;
  sink_told : (g.O.Sink.state l.sink).tells ≡ (g.O.Sink.state l.fn.sink).tells;
}

abbrev pub decreases-pieces : goal.decreases-pieces
decreases-pieces g l = l.size - l.done
