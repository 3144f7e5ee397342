use Rattle.std.proofs.Common.{arith, ◌≡◌, ◌+◌, ◌-◌}
use Rattle.flush_plan.proofs.LastLaws.{front_before, last_on_shelf, none_before}
use Rattle.flush_plan.proofs.pack.last_before.Goals as goal

pub returns-then-rank-eq0-clause-none : goal.returns-then-rank-eq0-clause-none
returns-then-rank-eq0-clause-none g c = λ none items on.
    none_before c.args.start items (g.S.Shelf.items c.args.shelf.now) on c.args.place c.rank_from-rank.result
    c.rank_from-rank.ensures (omega (arith, c.if-rank-eq0.true))

pub returns-then-item-start-clause-none : goal.returns-then-item-start-clause-none
returns-then-item-start-clause-none g c = λ none items on.
    let rank = c.rank_from-rank.result in
    let next : rank - 1 + 1 ≡ rank = omega (arith, c.if-rank-eq0.false) in
    front_before c.args.start items (g.S.Shelf.items c.args.shelf.now) on c.args.place rank
    c.rank_from-rank.ensures (rank - 1) c.item-item.result
    next c.item-item.ensures (omega (arith, c.if-item-start.true))

pub returns-clause-last : goal.returns-clause-last
returns-clause-last g c = λ items on.
    let rank = c.rank_from-rank.result in
    let next : rank - 1 + 1 ≡ rank = omega (arith, c.if-rank-eq0.false) in
    last_on_shelf c.args.start items (g.S.Shelf.items c.args.shelf.now) on c.args.place rank
    c.rank_from-rank.ensures (rank - 1) c.item-item.result
    next c.item-item.ensures (omega (arith, c.if-item-start.false))
