use Rattle.std.proofs.Common.{◌≡◌, ◌≤◌, ◌*◌, ◌^◌, take}
use Rattle.std.specs.Prelude.{sum}
use Rattle.layer_rows.proofs.plain_books.sum_of.Given as goal

abbrev pub invariant-sizes : goal.invariant-sizes
invariant-sizes l = record {
  so_far : l.all ≡ sum (take l.size-index l.sizes);
  small : l.all ≤ l.size-index * 2 ^ 64;
}
