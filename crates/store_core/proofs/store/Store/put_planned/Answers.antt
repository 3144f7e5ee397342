use Rattle.std.specs.FinMap as fin
use Rattle.std.proofs.Common.{◌∙◌, ◌+◌, ap, arith, lit<, subst, IsTrue, length, refl, sym}
use Rattle.byte_ranges.specs.Ranges.{overwritten}
use Rattle.segment_layout.specs.Layouts.{caps_of, divisor_of, grid_of}
use Rattle.store_model.specs.Connection.{StoreValue}
use Rattle.store_model.specs.Quiet.{IsCharged, put_of}
use Rattle.store_model.proofs.ChangeLaws.{apart_kept, place_ends}
use Rattle.store_model.proofs.EffectLaws.{calls_err, calls_ok, position_fits, quiet_effects}
use Rattle.store_model.proofs.InsideLaws.{opened}
use Rattle.store_core.proofs.LentLaws.{lent, lent_rest, rest_of}
use Rattle.store_model.proofs.PlanLaws.{put_served}
use Rattle.store_model.proofs.QuietLaws.{put_entered, put_over, put_step, put_value}
use Rattle.store_core.proofs.store.Store.put_planned.Goals as goal

pub write_new-requires-clause-fits : goal.write_new-requires-clause-fits
write_new-requires-clause-fits g c =
    let rest = lent_rest c.self.inside c.args.self.now c.deref.result.now c.self.view_is
    c.self.invariant c.requires.over.idle c.deref.ensures in
    let inside = lent c.self.inside c.deref.result.now c.self.inside.kept_layout.value in
    let t = c.args.self.now in
    let plan = c.args.plan in
    let size = length c.args.bytes.now in
    let served = put_served t c.args.name.now c.args.bytes.now c.requires.plan.served in
    let o = opened inside t rest.view rest.whole served.whole in
    position_fits t inside.hands.base plan.spot.place size c.requires.sound o.base
    (place_ends t c.requires.sound c.args.name.now size plan.spot.place (grid_of plan.layout)
    c.requires.plan.charged)

pub write_new-requires-clause-within : goal.write_new-requires-clause-within
write_new-requires-clause-within g c told =
    let rest = lent_rest c.self.inside c.args.self.now c.deref.result.now c.self.view_is
    c.self.invariant c.requires.over.idle c.deref.ensures in
    let inside = lent c.self.inside c.deref.result.now c.self.inside.kept_layout.value in
    let t = c.args.self.now in
    let plan = c.args.plan in
    let size = length c.args.bytes.now in
    let served = put_served t c.args.name.now c.args.bytes.now c.requires.plan.served in
    let o = opened inside t rest.view rest.whole served.whole in
    let over = c.requires.over.over served.whole told in
    omega (
      arith,
      o.base,
      over.same_length,
      place_ends t c.requires.sound c.args.name.now size plan.spot.place (grid_of plan.layout)
          c.requires.plan.charged,
    )

pub enter-requires : goal.enter-requires
enter-requires g c =
    let t = c.args.self.now in
    let plan = c.args.plan in
    let name = c.args.name.now in
    let p = c.requires.plan in
    let served = put_served t name c.args.bytes.now p.served in (
      lit< tt,
      (
        lit< tt,
        (
          served.whole,
          (
            c.requires.over.idle,
            (
              served.named,
              (
                served.room,
                (
                  omega (arith, served.small, p.size),
                  (
                    p.divisor,
                    (
                      p.same_caps,
                      subst (λ n. IsCharged t.in_use.block.k t.book.caps t.book.grid (fin.get t.now name) n
                          (grid_of plan.layout) plan.spot.place) (sym p.size) p.charged,
                    ),
                  ),
                ),
              ),
            ),
          ),
        ),
      ),
    )

pub returns-in-Ok-clause-quiet : goal.returns-in-Ok-clause-quiet
returns-in-Ok-clause-quiet g c =
    let rest = lent_rest c.self.inside c.args.self.now c.deref.result.now c.self.view_is
    c.self.invariant c.requires.over.idle c.deref.ensures in
    let inside = lent c.self.inside c.deref.result.now c.self.inside.kept_layout.value in
    let t = c.args.self.now in
    let plan = c.args.plan in
    let size = length c.args.bytes.now in
    let served = put_served t c.args.name.now c.args.bytes.now c.requires.plan.served in
    let o = opened inside t rest.view rest.whole served.whole in
    quiet_effects (put_of c.args.name.now c.args.bytes.now) t c.enter.new.self
    (g.D.Disk.state c.args.disk.now)
    (g.D.Disk.state c.write_new.new.disk) _ inside.hands.base plan.spot.place size c.requires.sound
    o.base
    (c.requires.over.over served.whole)
    (apart_kept t c.requires.sound c.args.name.now size plan.spot.place (grid_of plan.layout)
    c.requires.plan.charged) c.write_new.ensures.writes (calls_ok _ _ c.in-Ok.ensures.calls)
    (put_value t c.requires.sound c.args.name.now c.args.bytes.now (divisor_of plan.layout)
    (caps_of plan.layout) (grid_of plan.layout) plan.spot c.requires.plan c.enter.new.self
    (put_entered t c.requires.sound c.args.name.now c.args.bytes.now (divisor_of plan.layout)
    (caps_of plan.layout) (grid_of plan.layout) plan.spot c.requires.plan _
    c.own_digest-digest.ensures.own c.enter.new.self c.enter.ensures))

pub returns-in-Err-clause-quiet : goal.returns-in-Err-clause-quiet
returns-in-Err-clause-quiet g c =
    let rest = lent_rest c.self.inside c.args.self.now c.deref.result.now c.self.view_is
    c.self.invariant c.requires.over.idle c.deref.ensures in
    let inside = lent c.self.inside c.deref.result.now c.self.inside.kept_layout.value in
    let t = c.args.self.now in
    let plan = c.args.plan in
    let size = length c.args.bytes.now in
    let served = put_served t c.args.name.now c.args.bytes.now c.requires.plan.served in
    let o = opened inside t rest.view rest.whole served.whole in
    quiet_effects (put_of c.args.name.now c.args.bytes.now) t _ (g.D.Disk.state c.args.disk.now)
    (g.D.Disk.state c.write_new.new.disk) _ inside.hands.base plan.spot.place size c.requires.sound
    o.base
    (c.requires.over.over served.whole)
    (apart_kept t c.requires.sound c.args.name.now size plan.spot.place (grid_of plan.layout)
    c.requires.plan.charged) c.write_new.ensures.writes (calls_err _ _ c.in-Err.ensures.calls) tt

pub returns-in-Ok-clause-step : goal.returns-in-Ok-clause-step
returns-in-Ok-clause-step g c told =
    let rest = lent_rest c.self.inside c.args.self.now c.deref.result.now c.self.view_is
    c.self.invariant c.requires.over.idle c.deref.ensures in
    let inside = lent c.self.inside c.deref.result.now c.self.inside.kept_layout.value in
    let t = c.args.self.now in
    let plan = c.args.plan in
    let file = (g.D.Disk.state c.args.disk.now).file in
    let served = put_served t c.args.name.now c.args.bytes.now c.requires.plan.served in
    let o = opened inside t rest.view rest.whole served.whole in
    put_step t c.requires.sound c.args.name.now c.args.bytes.now (divisor_of plan.layout)
    (caps_of plan.layout)
    (grid_of plan.layout) plan.spot c.requires.plan file (g.D.Disk.state c.write_new.new.disk).file
    (c.requires.over.over served.whole told)
    (c.in-Ok.ensures.written told
    ∙ ap (λ b. overwritten file (b + plan.spot.place) c.args.bytes.now) o.base)
    c.enter.new.self
    (put_entered t c.requires.sound c.args.name.now c.args.bytes.now (divisor_of plan.layout)
    (caps_of plan.layout) (grid_of plan.layout) plan.spot c.requires.plan _
    c.own_digest-digest.ensures.own c.enter.new.self c.enter.ensures)

pub returns-in-Ok-clause-over : goal.returns-in-Ok-clause-over
returns-in-Ok-clause-over g c =
    let rest = lent_rest c.self.inside c.args.self.now c.deref.result.now c.self.view_is
    c.self.invariant c.requires.over.idle c.deref.ensures in
    let inside = lent c.self.inside c.deref.result.now c.self.inside.kept_layout.value in
    let t = c.args.self.now in
    let plan = c.args.plan in
    let file = (g.D.Disk.state c.args.disk.now).file in
    let served = put_served t c.args.name.now c.args.bytes.now c.requires.plan.served in
    let o = opened inside t rest.view rest.whole served.whole in
    record {
      idle = ap (λ (x : StoreValue). x.in_hand) c.enter.ensures ∙ c.requires.over.idle;
      over = λ whole told.
          let first = subst IsTrue c.write_new.ensures.writes.stays.told told in
          put_over t c.requires.sound c.args.name.now c.args.bytes.now (divisor_of plan.layout)
          (caps_of plan.layout)
          (grid_of plan.layout) plan.spot c.requires.plan file (g.D.Disk.state c.write_new.new.disk).file
          (c.requires.over.over served.whole first)
          (c.in-Ok.ensures.written first
          ∙ ap (λ b. overwritten file (b + plan.spot.place) c.args.bytes.now) o.base)
          c.enter.new.self
          (put_entered t c.requires.sound c.args.name.now c.args.bytes.now (divisor_of plan.layout)
          (caps_of plan.layout) (grid_of plan.layout) plan.spot c.requires.plan _
          c.own_digest-digest.ensures.own c.enter.new.self c.enter.ensures);
    }

pub returns-in-Err-clause-over : goal.returns-in-Err-clause-over
returns-in-Err-clause-over g c =
    let rest = rest_of c.self.inside c.args.self.now c.self.view_is c.self.invariant c.requires.over.idle in
    rw rest.none (record { idle = refl; over = λ sound. absurd (cc) })
