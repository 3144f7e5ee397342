use Rattle.std.proofs.Common.{arith, sym, subst, ◌<◌, ◌≡◌, ℕ, List}
use Rattle.flush_model.specs.declared.item.Item.{Item}
use Rattle.flush_plan.specs.Shelves.{IsFirstOf}
use Rattle.flush_plan.specs.Lays.{Lay, Lays, StandsPast}
use Rattle.flush_plan.proofs.WaitLaws.{near_first, near_none, near_other}
use Rattle.flush_plan.proofs.lay.Laying.at_hand.Goals as goal

-- what is kept of the value is kept of its fields
kept : (C : ℕ) {v w : Lay} (items xs : List Item) → v ≡ w → Lays C w items xs → w.class < C
    → Lays C v items xs × (v.class < C)
kept C items xs same lays low = (
  subst (λ (v : Lay). Lays C v items xs) (sym same) lays,
  subst (λ (v : Lay). v.class < C) (sym same) low,
)

pub returns-then-near-len-clause-none : goal.returns-then-near-len-clause-none
returns-then-near-len-clause-none g c = λ none items lays.
    let mine = kept g.row.C items (g.S.Shelf.items c.args.shelf.now) c.self.view_is lays c.requires.low in
    subst (λ (v : Lay). StandsPast v items) c.self.view_is (near_none g.row.C _ items
    (g.S.Shelf.items c.args.shelf.now) mine.0 mine.1 c.rank_from-near.result c.rank_from-near.ensures
    (omega (arith, c.if-near-len.true, c.len.ensures)))

pub returns-then-item-self-clause-none : goal.returns-then-item-self-clause-none
returns-then-item-self-clause-none g c = λ none items lays.
    let mine = kept g.row.C items (g.S.Shelf.items c.args.shelf.now) c.self.view_is lays c.requires.low in
    subst (λ (v : Lay). StandsPast v items) c.self.view_is (near_other g.row.C _ items
    (g.S.Shelf.items c.args.shelf.now) mine.0 mine.1 c.rank_from-near.result c.rank_from-near.ensures
    c.item-item.result c.item-item.ensures c.if-item-self.true)

pub returns-clause-first : goal.returns-clause-first
returns-clause-first g c = λ items lays.
    let m = c.item-item.result in
    let mine = kept g.row.C items (g.S.Shelf.items c.args.shelf.now) c.self.view_is lays c.requires.low in
    subst (λ (v : Lay). IsFirstOf items v.class v.to m) c.self.view_is
    (near_first g.row.C _ items (g.S.Shelf.items c.args.shelf.now) mine.0 mine.1 c.rank_from-near.result
    c.rank_from-near.ensures m c.item-item.ensures (omega (arith, c.if-item-self.false)))
