use Rattle.std.proofs.Common.{sym, subst, ◌≡◌}
use Rattle.table_check.proofs.OverlapLaws.{NeighboursApart, apart_from_near, near_from_apart}
use Rattle.table_check.proofs.apart.are_apart.Goals as goal

pub returns-clause-apart : goal.returns-clause-apart
returns-clause-apart c =
    let e = c.args.table.now in
    let order = c.order_objects.new.order.items in
    let by = c.order_objects.ensures.order in
    let same : c.deref.result.now ≡ order = c.deref.ensures.value in (
      λ is. apart_from_near e c.args.end order by
          (subst (NeighboursApart e) same (c.are_neighbours_apart.ensures.0 is)),
      λ all. c.are_neighbours_apart.ensures.1
          (subst (NeighboursApart e) (sym same) (near_from_apart e c.args.end order by all)),
    )
