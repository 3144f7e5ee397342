use Rattle.std.proofs.Common.{rules}
use Rattle.std.proofs.lemmas.List.Sorted.{IsNonDecreasingBy-from_sort_by_key}
use Rattle.flush_model.specs.declared.item.Item.{Item}
use Rattle.layer_rows.proofs.list_shelf.sort_by_place.Goals as goal

pub returns-clause-rising : goal.returns-clause-rising
returns-clause-rising c =
    IsNonDecreasingBy-from_sort_by_key (λ (it : Item). it.place) _ c.sort_unstable_by_key.ensures.sorted
    (λ a r q f. search rules)
