use Rattle.std.proofs.Common.{◌≡◌, ◌≤◌, ◌^◌, take}
use Rattle.std.specs.Prelude.{nat_le, count_by}
use Rattle.byte_ranges.specs.Lists.{below}
use Rattle.plain_layout.proofs.class.class_of.Given as goal

abbrev pub invariant-powers : goal.invariant-powers
invariant-powers l = record {
  count : l.powers ≡ count_by (λ c. nat_le (2 ^ c) l.size) (take l.c (below 32));
  few : l.powers ≤ l.c;
}
