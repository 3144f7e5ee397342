use Rattle.std.proofs.Common.{sym, ap, subst, true, false, refl}
use Rattle.std.specs.Prelude.{ℕ, ◌-◌, is_some}
use Rattle.std.proofs.lemmas.Bool.{both_ways}
use Rattle.flush_model.specs.declared.item.Item.{Item}
use Rattle.flush_model.specs.declared.item.Move.{Move}
use Rattle.flush_model.specs.Phases.{IsPackedWhole}
use Rattle.flush_model.specs.Steps.{IsPackStep}
use Rattle.flush_plan.specs.Shelves.{phase_on}
use Rattle.flush_plan.specs.Packs.{Pack, Packs}
use Rattle.flush_plan.proofs.PackGoesLaws.{ends_on_shelf, fits_on_shelf, keeps_on_shelf, move_of, step_on_shelf, waits_on_shelf}
use Rattle.flush_plan.proofs.pack.Packing.next.Goals as goal

abbrev moves : Item → ℕ → Move
moves m top = move_of m (top - m.size)

pub returns-in_err-at-clause-end : goal.returns-in_err-at-clause-end
returns-in_err-at-clause-end g c = λ items packs.
    let shelf = g.S.Shelf.items c.args.shelf.now in
    let mine = subst (λ (v : Pack). Packs g.row.C v items shelf) (sym c.self.view_is) packs in (
      λ none. subst (λ (v : Pack). IsPackedWhole (phase_on v.course items)) c.self.view_is
          (ends_on_shelf g.row.C _ items shelf mine
          (c.in_err-at.ensures.none (refl {a = false}) items mine.on)),
      λ whole. ap is_some c.from_residual.ensures,
    )

pub overflow_sub-to : goal.overflow_sub-to
overflow_sub-to g c =
    let items = c.requires.packs.0 in
    let shelf = g.S.Shelf.items c.args.shelf.now in
    let packs = subst (λ (v : Pack). Packs g.row.C v items shelf) (sym c.self.view_is) c.requires.packs.1 in
    fits_on_shelf g.row.C _ items shelf packs c.in_ok-at.item (c.in_ok-at.ensures.last items packs.on)

pub returns-clause-step : goal.returns-clause-step
returns-clause-step g c = λ items packs.
    let shelf = g.S.Shelf.items c.args.shelf.now in
    let mine = subst (λ (v : Pack). Packs g.row.C v items shelf) (sym c.self.view_is) packs in
    subst (λ (v : Pack). IsPackStep (phase_on v.course items) (moves c.in_ok-at.item c.self.inside.top))
    c.self.view_is
    (step_on_shelf g.row.C _ items shelf mine c.in_ok-at.item (c.in_ok-at.ensures.last items mine.on))

pub returns-clause-keeps : goal.returns-clause-keeps
returns-clause-keeps g c = λ items packs.
    let shelf = g.S.Shelf.items c.args.shelf.now in
    let mine = subst (λ (v : Pack). Packs g.row.C v items shelf) (sym c.self.view_is) packs in
    keeps_on_shelf g.row.C _ items shelf mine c.in_ok-at.item (c.in_ok-at.ensures.last items mine.on)

pub returns-clause-end : goal.returns-clause-end
returns-clause-end g c = λ items packs.
    let shelf = g.S.Shelf.items c.args.shelf.now in
    let mine = subst (λ (v : Pack). Packs g.row.C v items shelf) (sym c.self.view_is) packs in (
      λ none. absurd (both_ways true none refl),
      λ whole. absurd (waits_on_shelf g.row.C _ items shelf mine c.in_ok-at.item
          (c.in_ok-at.ensures.last items mine.on)
          (subst (λ (v : Pack). IsPackedWhole (phase_on v.course items)) (sym c.self.view_is) whole)),
    )
