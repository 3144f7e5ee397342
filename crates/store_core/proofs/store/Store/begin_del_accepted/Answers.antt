use Rattle.std.proofs.Common.{◌∙◌, ap, refl, subst, sym, false}
use Rattle.segment_layout.specs.Layouts.{caps_of, divisor_of, grid_of}
use Rattle.store_model.specs.Connection.{IsOver, StoreValue}
use Rattle.store_model.specs.Quiet.{del_of}
use Rattle.store_model.proofs.BegunServeLaws.{begins_quietly}
use Rattle.store_model.proofs.CopyChargesLaws.{charged_quiet, del_plan}
use Rattle.store_model.proofs.EffectLaws.{no_effects}
use Rattle.store_model.proofs.PlanLaws.{del_served}
use Rattle.store_model.proofs.QuietLaws.{del_step, del_value, over_beside}
use Rattle.store_core.proofs.store.Store.begin_del_accepted.Goals as goal

pub returns-in-Some : goal.returns-in-Some
returns-in-Some g c =
    let t = c.args.self.now in
    let name = c.args.name.now in
    let layout = c.charge-charged.result.layout in
    let p = del_plan c.in-Some.field-0 (sym c.place.ensures ∙ c.in-Some.is)
    c.charge-charged.ensures.charges c.requires.served in
    let served = del_served t name c.requires.served in
    let h = c.charge-charged.ensures.sound in
    begins_quietly (charged_quiet c.charge-charged.ensures.charges c.in-Some.field-0
    (sym c.place.ensures ∙ c.in-Some.is))
    (no_effects (del_of name) t c.leave.new.self (g.D.Disk.state c.args.disk.now) (record { kept = false }) h
    (c.requires.over.over served.whole) c.requires.ready (g.met.D.Disk.lawful c.args.disk.now).turn_fits refl
    (del_value t h name name (divisor_of layout) (caps_of layout) (grid_of layout) p c.leave.new.self
    c.leave.ensures))
    (λ told. del_step t h name name (divisor_of layout) (caps_of layout) (grid_of layout) p
    (g.D.Disk.state c.args.disk.now).file (c.requires.over.over served.whole told) c.leave.new.self
    c.leave.ensures)
    (record {
      idle = ap (λ (x : StoreValue). x.in_hand) c.leave.ensures ∙ c.requires.over.idle;
      over = λ whole told. subst (λ (x : StoreValue). IsOver g.row.C x
          (g.D.Disk.state c.args.disk.now).file) (sym c.leave.ensures)
          (over_beside t (g.D.Disk.state c.args.disk.now).file _ _ _ refl
          (c.requires.over.over served.whole told));
    }) (ap (λ (x : StoreValue). x.is_broken) c.leave.ensures ∙ served.whole)

pub returns-in-None : goal.returns-in-None
returns-in-None g c = c.begin_flush.ensures
