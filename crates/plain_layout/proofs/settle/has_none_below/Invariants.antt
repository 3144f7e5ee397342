use Rattle.std.proofs.Common.{◌≡◌, ◌<◌, ℕ}
use Rattle.std.specs.Prelude.{slice_index}
use Rattle.plain_layout.proofs.settle.has_none_below.Given as goal

abbrev pub invariant-classes : goal.invariant-classes
invariant-classes l = (d : ℕ) → d < l.c → d < l.b → slice_index l.row d ≡ 0
