use Rattle.std.proofs.Common.{◌≡◌, ℕ, ◌<◌, length, get_or}
use Rattle.extent_table.specs.declared.kept.Kept.TheVariants.{Same}
use Rattle.extent_table.specs.Kept.{kept_in}
use Rattle.extent_table.specs.Entries.{once_back, Goes}
use Rattle.extent_table.proofs.sides.back_each.Given as goal

-- the keys so far are settled
abbrev pub invariant-keys : goal.invariant-keys
invariant-keys l = record {
  goes : Goes once_back l.fn.standing.slots l.fn.kept l.standing.slots l.kept;
  done : (i : ℕ) → i < l.key-index → kept_in l.kept (get_or l.changed i 0) ≡ Same;
  long : length l.kept ≡ length l.fn.kept;
  capacity : l.standing.capacity ≡ l.fn.standing.capacity;
}
