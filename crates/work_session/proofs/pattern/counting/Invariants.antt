use Rattle.std.proofs.Common.{◌≡◌, ◌<◌, ◌%◌, ℕ, length}
use Rattle.std.specs.Prelude.{slice_index}
use Rattle.work_session.proofs.pattern.counting.Given as goal

abbrev pub invariant-bytes : goal.invariant-bytes
invariant-bytes l = record {
  long : length l.bytes.items ≡ 8447;
  each : (i : ℕ) → i < l.j → slice_index l.bytes.items i ≡ i % 256;
}
