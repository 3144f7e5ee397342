use Rattle.std.proofs.Common.{◌≡◌}
use Rattle.layer_rows.proofs.digests.are_done.Given as goal

abbrev pub invariant-acts : goal.invariant-acts
invariant-acts l = l.table.names ≡ 16
