use Rattle.std.proofs.Common.{◌≡◌, ℕ, ◌<◌, get_or}
use Rattle.std.specs.Prelude.{vec_capacity}
use Rattle.extent_table.specs.Parts.{IsDigestList, digest_in}
use Rattle.extent_table.proofs.digests.carry_digests.Given as goal

-- the digests so far stand where they are to
abbrev pub invariant-ranks : goal.invariant-ranks
invariant-ranks l = record {
  list : IsDigestList l.entries.capacity l.carried.items (vec_capacity l.carried);
  carried : (i : ℕ) → i < l.rank
      → digest_in l.carried.items (get_or l.to i 0) ≡ digest_in l.digests (get_or l.from i 0);
}
