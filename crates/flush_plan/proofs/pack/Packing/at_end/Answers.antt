use Rattle.std.proofs.Common.{sym, subst}
use Rattle.flush_model.specs.Phases.{IsPackedWhole}
use Rattle.flush_plan.specs.Packs.{Pack, Packs}
use Rattle.flush_plan.specs.Shelves.{phase_on}
use Rattle.flush_plan.proofs.EndLaws.{end_decided}
use Rattle.flush_plan.proofs.PackGoesLaws.{ends_on_shelf, waits_on_shelf}
use Rattle.flush_plan.proofs.pack.Packing.at_end.Goals as goal

pub returns : goal.returns
returns g c = λ items packs.
    let shelf = g.S.Shelf.items c.args.shelf.now in
    let mine = subst (λ (v : Pack). Packs g.row.C v items shelf) (sym c.self.view_is) packs in
    end_decided c.last_before.result _ (IsPackedWhole (phase_on c.args.self.now.course items))
    c.is_none.result c.is_none.ensures c.last_before.ensures.last
    (λ none. subst (λ (v : Pack). IsPackedWhole (phase_on v.course items)) c.self.view_is
    (ends_on_shelf g.row.C _ items shelf mine (c.last_before.ensures.none none items mine.on)))
    (λ r last whole. waits_on_shelf g.row.C _ items shelf mine r.1 (last items mine.on)
    (subst (λ (v : Pack). IsPackedWhole (phase_on v.course items)) (sym c.self.view_is) whole))
