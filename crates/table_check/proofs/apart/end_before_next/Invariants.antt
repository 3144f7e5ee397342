use Rattle.std.specs.Prelude.{◌^◌}
use Rattle.std.proofs.Common.{◌≡◌, ◌+◌, ◌<◌, ℕ}
use Rattle.extent_table.specs.declared.spot.Spot.{Spot}
use Rattle.table_check.specs.Nexts.{EndBeforeNext, StandsAtRank}
use Rattle.table_check.proofs.apart.end_before_next.Given as goal

abbrev pub invariant-ranks : goal.invariant-ranks
invariant-ranks l = record {
  near : EndBeforeNext l.table.now l.rank;
  last : (p : ℕ) (s : Spot) → p + 1 ≡ l.rank → StandsAtRank l.table.now p s → l.end ≡ s.place + s.size;
  low : l.end < 2 ^ 49;
}
