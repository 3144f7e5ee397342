use Rattle.std.specs.Prelude.{◌≡◌, ℕ, ◌<◌, ◌≤◌, slice_index}
use Rattle.store_model.specs.Facts.{classes_in}
use Rattle.store_core.proofs.facts.widest.Given as goal

abbrev pub invariant-classes : goal.invariant-classes
invariant-classes g l = record {
  low : l.upto ≤ l.c;
  some : l.upto ≤ classes_in l.caps;
  none : (k : ℕ) → l.upto ≤ k → k < l.c → slice_index l.caps k ≡ 0;
}
