use Rattle.std.proofs.Common.{◌-◌, length}
use Rattle.segment_layout.specs.Layouts.{divisor_of, caps_of}
use Rattle.layer_rows.proofs.FlushBeginLaws.{CanFlushFirst}
use Rattle.layer_rows.proofs.flush_begins.can_flush.Given as goal

abbrev pub invariant-items : goal.invariant-items
invariant-items g l = CanFlushFirst (divisor_of l.layout) (caps_of l.layout) l.b l.items l.i

abbrev pub decreases-items : goal.decreases-items
decreases-items g l = length l.items - l.i
