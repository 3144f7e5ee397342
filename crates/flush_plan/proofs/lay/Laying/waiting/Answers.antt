use Rattle.std.proofs.Common.{sym, ap, subst, ◌<◌}
use Rattle.std.specs.Prelude.{is_some}
use Rattle.flush_plan.specs.Shelves.{IsFirstOf}
use Rattle.flush_plan.specs.Lays.{Lay, Lays, StandsPast}
use Rattle.flush_plan.proofs.WaitLaws.{far_first, far_within}
use Rattle.flush_plan.proofs.lay.Laying.waiting.Goals as goal

pub item-requires : goal.item-requires
item-requires g c =
    let C = g.row.C in
    let items = c.requires.lays.0 in
    let shelf = g.S.Shelf.items c.args.shelf.now in
    let mine = subst (λ (v : Lay). Lays C v items shelf) (sym c.self.view_is) c.requires.lays.1 in
    let low = subst (λ (v : Lay). v.class < C) (sym c.self.view_is) c.requires.low in
    let none = subst (λ (v : Lay). StandsPast v items) (sym c.self.view_is)
    (c.at_hand-near.ensures.none (ap is_some c.in_default.is) items c.requires.lays.1) in
    far_within C _ items shelf mine low none c.rank_from-from.result c.of_class_from-far.result
    c.rank_from-from.ensures c.of_class_from-far.ensures.skipped

pub returns : goal.returns
returns g c = λ items lays.
    let C = g.row.C in
    let shelf = g.S.Shelf.items c.args.shelf.now in
    let far = c.of_class_from-far in
    let m = c.item.result in
    let mine = subst (λ (v : Lay). Lays C v items shelf) (sym c.self.view_is) lays in
    let low = subst (λ (v : Lay). v.class < C) (sym c.self.view_is) c.requires.low in
    let none = subst (λ (v : Lay). StandsPast v items) (sym c.self.view_is)
    (c.at_hand-near.ensures.none (ap is_some c.in_default.is) items lays) in
    subst (λ (v : Lay). IsFirstOf items v.class v.to m) c.self.view_is
    (far_first C _ items shelf mine low none c.rank_from-from.result far.result c.rank_from-from.ensures
    far.ensures.skipped far.ensures.low m c.item.ensures (far.ensures.found m c.item.ensures))
