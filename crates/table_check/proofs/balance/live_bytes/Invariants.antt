use Rattle.std.proofs.Common.{take}
use Rattle.extent_table.specs.Extents.{records_of}
use Rattle.table_check.specs.Live.{IsLive}
use Rattle.table_check.specs.Placed.{placed}
use Rattle.table_check.proofs.balance.live_bytes.Given as goal

abbrev pub invariant-records : goal.invariant-records
invariant-records l = IsLive (placed l.table l.frame) (take l.rank (records_of l.table.now)) l.live.payload
    l.live.buffers
