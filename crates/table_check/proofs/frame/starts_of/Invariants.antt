use Rattle.std.proofs.Common.{◌≡◌, ◌≤◌, ◌*◌, ◌^◌, ℕ, length}
use Rattle.std.specs.Prelude.{slice_index}
use Rattle.segment_layout.specs.Shapes.{start_of}
use Rattle.table_check.proofs.frame.starts_of.Given as goal

abbrev pub invariant-classes : goal.invariant-classes
invariant-classes l = record {
  long : length l.starts ≡ 33;
  so_far : (d : ℕ) → d ≤ l.c → slice_index l.starts d ≡ start_of l.k l.caps d;
  small : slice_index l.starts l.c ≤ l.c * 2 ^ 49;
}
