use Rattle.std.proofs.Common.{◌^◌, ◌<◌, ℕ, slice_index}
use Rattle.size_class.specs.Rows.{cells_of}
use Rattle.layer_rows.proofs.flush_begins.layout_of.Given as goal

abbrev pub invariant-volumes : goal.invariant-volumes
invariant-volumes g l = (c : ℕ) → slice_index (cells_of l.row) c < 2 ^ 48
