use Rattle.std.proofs.Common.{All}
use Rattle.extent_table.specs.Extents.{IsLive}
use Rattle.bench.proofs.table.by_key.live_keys.Given as goal

-- each key so far is that of a live name
abbrev pub invariant-ranks : goal.invariant-ranks
invariant-ranks l = All (IsLive l.table) l.keys.items
