use Rattle.std.proofs.Common.{arith, rules, sym, subst, ◌≡◌, IsPermutation, Some, slice_get}
use Rattle.std.proofs.lemmas.List.Sorted.{IsNonDecreasingBy-from_sort_by_key}
use Rattle.std.proofs.lemmas.Option.{get_or_from_slice_get, slice_get_within}
use Rattle.flush_model.specs.declared.item.Item.{Item}
use Rattle.flush_model.specs.Plans.{mover}
use Rattle.flush_model.proofs.ItemLaws.{moved_at}
use Rattle.layer_rows.proofs.ListedLaws.{at_rank, is_shelf}
use Rattle.layer_rows.proofs.list_shelf.ListShelf.relocate.Goals as goal

pub rank-at-requires : goal.rank-at-requires
rank-at-requires c =
    let xs = c.args.self.now.items.items in
    record { rises = is_shelf c.requires.items.0 xs c.requires.items.1 c.requires.rising }

pub index_mut-requires : goal.index_mut-requires
index_mut-requires c =
    let xs = c.args.self.now.items.items in
    omega (
      arith,
      slice_get_within xs c.rank-at.result (mover c.args.mv)
          (at_rank xs (is_shelf c.requires.items.0 xs c.requires.items.1 c.requires.rising) (mover c.args.mv)
          c.requires.has c.rank-at.result c.rank-at.ensures),
      c.args.self.now.items.ok.0,
    )

pub returns-clause-same : goal.returns-clause-same
returns-clause-same c =
    let xs = c.args.self.now.items.items in
    let m = mover c.args.mv in
    let at = c.rank-at.result in
    let got : slice_get xs at ≡ Some m =
    at_rank xs (is_shelf c.requires.items.0 xs c.requires.items.1 c.requires.rising) m c.requires.has at
    c.rank-at.ensures in
    subst (λ ys. IsPermutation ys c.sort_unstable_by_key.new.self.items)
    (moved_at c.requires.items.0 xs c.requires.items.1 at c.args.mv.to m c.index_mut.result.now
    (slice_get_within xs at m got) (sym (get_or_from_slice_get xs at m m got)) c.index_mut.ensures.value)
    c.sort_unstable_by_key.ensures.permutation

pub returns-clause-rising : goal.returns-clause-rising
returns-clause-rising c =
    IsNonDecreasingBy-from_sort_by_key (λ (it : Item). it.place) _ c.sort_unstable_by_key.ensures.sorted
    (λ a r q f. search rules)
