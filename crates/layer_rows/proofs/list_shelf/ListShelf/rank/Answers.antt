use Rattle.std.proofs.Common.{arith, ap}
use Rattle.std.proofs.lemmas.Option.{get_or_from_slice_get, slice_get_within}
use Rattle.flush_model.specs.declared.item.Item.{Item}
use Rattle.layer_rows.proofs.ListedLaws.{rank_before}
use Rattle.layer_rows.proofs.list_shelf.ListShelf.rank.Goals as goal

pub returns-else-index-place : goal.returns-else-index-place
returns-else-index-place c =
    let xs = c.args.self.now.items.items in
    let here = c.index.result.now in
    rank_before xs c.args.place c.objects.rank c.requires.rises c.objects.invariant.0 c.objects.invariant.1
    (λ it at. omega (
      arith,
      c.if-index-place.false,
      ap (λ (x : Item). x.place) (get_or_from_slice_get xs c.objects.rank it here at),
      ap (λ (x : Item). x.place) c.index.ensures,
    ))

pub returns-after-objects : goal.returns-after-objects
returns-after-objects c =
    let xs = c.args.self.now.items.items in
    rank_before xs c.args.place c.objects.rank c.requires.rises c.objects.invariant.0 c.objects.invariant.1
    (λ it at. absurd (omega (arith, slice_get_within xs c.objects.rank it at, c.objects-test.false)))
