use Rattle.std.proofs.Common.{◌≡◌, ◌≤◌, ◌*◌, ◌^◌, take}
use Rattle.std.specs.Prelude.{sum, sum_by}
use Rattle.segment_layout.proofs.BalanceLaws.{bytes_in}
use Rattle.plain_layout.proofs.settle.volume_of.Given as goal

abbrev pub invariant-sizes : goal.invariant-sizes
invariant-sizes l = record {
  so_far : l.bytes ≡ sum_by (λ size. bytes_in l.c size) (take l.size-index l.sizes);
  within : l.bytes ≤ sum (take l.size-index l.sizes);
  small : l.bytes ≤ l.size-index * 2 ^ 64;
}
