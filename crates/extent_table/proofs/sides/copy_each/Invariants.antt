use Rattle.std.proofs.Common.{◌≡◌}
use Rattle.std.specs.Prelude.{vec_capacity}
use Rattle.slab.specs.Slab.{slab_len}
use Rattle.extent_table.specs.Relaid.{AreRelaid}
use Rattle.extent_table.proofs.sides.copy_each.Given as goal

-- the names so far are copied
abbrev pub invariant-keys : goal.invariant-keys
invariant-keys l = record {
  relaid : AreRelaid l.key-index l.standing.slots l.spare.slots l.from l.to.items;
  count : slab_len l.spare ≡ l.key-index;
  capacity : l.spare.capacity ≡ l.fn.spare.capacity;
  to_capacity : vec_capacity l.to ≡ vec_capacity l.fn.to;
}
