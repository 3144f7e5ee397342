use Rattle.std.proofs.Common.{rules, ℕ}
use Rattle.std.proofs.lemmas.List.Sorted.{IsNonDecreasingBy-from_sort_by_key}
use Rattle.table_check.specs.Placed.{ranked}
use Rattle.table_check.proofs.order.sort_by_place.Goals as goal

pub returns-clause-rising : goal.returns-clause-rising
returns-clause-rising c = IsNonDecreasingBy-from_sort_by_key (λ (i : ℕ). (ranked c.args.table.now i).place) _
    c.sort_unstable_by_key.ensures.sorted (λ a r q f. search rules)
