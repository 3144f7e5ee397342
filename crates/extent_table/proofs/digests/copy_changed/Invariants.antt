use Rattle.std.proofs.Common.{◌≡◌, ℕ, ◌<◌, get_or}
use Rattle.std.specs.Prelude.{vec_capacity}
use Rattle.extent_table.specs.Parts.{Agree, IsDigestList, digest_in}
use Rattle.extent_table.proofs.digests.copy_changed.Given as goal

-- the keys so far have their digests, and no key that isn't listed needs one
abbrev pub invariant-keys : goal.invariant-keys
invariant-keys l = record {
  list : IsDigestList l.entries.capacity l.to.items (vec_capacity l.to);
  agree : Agree l.entries.changed l.to.items l.from;
  done : (i : ℕ) → i < l.key-index
      → digest_in l.to.items (get_or l.entries.changed i 0) ≡ digest_in l.from (get_or l.entries.changed i 0);
}
