use Rattle.std.proofs.Common.{◌≡◌, ◌-◌, ◌++◌, ◌≤◌, IsTrue, length}
use Rattle.disk_face.specs.Frames.{Asks}
use Rattle.disk_face.specs.Writes.{WritesWithin}
use Rattle.data_area.specs.Pieces.{HasMade}
use Rattle.load_stream.specs.Steps.{WritesObject}
use Rattle.load_stream.specs.Weights.{write_weight}
use Rattle.load_stream.proofs.body.write_body.Given as goal

abbrev pub invariant-pieces : goal.invariant-pieces
invariant-pieces g l = record {
  upto : l.done ≤ l.size;
  object : WritesObject (IsTrue (g.I.Source.state l.fn.input).tells) l.at l.done
      (l.fn.ahead ++ (g.I.Source.state l.fn.input).left) (l.ahead ++ (g.I.Source.state l.input).left)
      (g.D.Disk.state l.fn.disk) (g.D.Disk.state l.disk);
  writes : WritesWithin l.at l.size (g.D.Disk.state l.fn.disk) (g.D.Disk.state l.disk);
  made : HasMade (g.D.Disk.state l.fn.disk).turn (g.D.Disk.state l.disk).turn (length l.fn.buf) l.size l.done;
  asks : Asks (write_weight (length l.fn.buf) l.done) 0 (g.D.Disk.state l.fn.disk) (g.D.Disk.state l.disk);
  calm : (g.D.Disk.state l.disk).faults ≡ (g.D.Disk.state l.fn.disk).faults;
  source_calm : (g.I.Source.state l.input).faults ≡ (g.I.Source.state l.fn.input).faults;
  told : (g.I.Source.state l.input).tells ≡ (g.I.Source.state l.fn.input).tells;
  room : length l.buf ≡ length l.fn.buf;
}

abbrev pub decreases-pieces : goal.decreases-pieces
decreases-pieces g l = l.size - l.done
