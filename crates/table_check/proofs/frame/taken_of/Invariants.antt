use Rattle.std.proofs.Common.{◌≡◌, ◌<◌, ℕ, length}
use Rattle.std.specs.Prelude.{slice_index}
use Rattle.size_class.specs.Classes.{row}
use Rattle.segment_layout.specs.Shapes.{taken_in}
use Rattle.table_check.proofs.frame.taken_of.Given as goal

abbrev pub invariant-buffers : goal.invariant-buffers
invariant-buffers l = record {
  long : length l.taken ≡ 32;
  so_far : (i : ℕ) → i < l.j → slice_index l.taken i ≡ taken_in l.used i;
  rows : (i : ℕ) → i < l.j → length (row l.used i) ≡ 32;
}
