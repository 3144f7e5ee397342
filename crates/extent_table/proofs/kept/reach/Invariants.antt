use Rattle.std.proofs.Common.{◌≡◌, ℕ, ◌+◌, ◌-◌, ◌≤◌, length, count_by}
use Rattle.std.specs.Prelude.{vec_capacity}
use Rattle.extent_table.specs.Kept.{kept_in, is_change}
use Rattle.extent_table.proofs.kept.reach.Given as goal

-- the records say what they said, and are no more than have room
abbrev pub invariant-records : goal.invariant-records
invariant-records l = record {
  short : length l.kept.items ≤ l.room;
  same : (k : ℕ) → kept_in l.kept.items k ≡ kept_in l.fn.kept.items k;
  count : count_by is_change l.kept.items ≡ count_by is_change l.fn.kept.items;
  capacity : vec_capacity l.kept ≡ vec_capacity l.fn.kept;
}

abbrev pub decreases-records : goal.decreases-records
decreases-records l = l.key + 1 - length l.kept.items
