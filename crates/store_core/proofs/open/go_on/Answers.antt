use Rattle.std.specs.Prelude.{Ok}
use Rattle.std.proofs.Common.{lit<, subst, sym}
use Rattle.reopen.specs.Loads.{unboxed}
use Rattle.flush_run.specs.declared.hands.Hands.{Hands}
use Rattle.flush_run.specs.Parts.{parts_of}
use Rattle.flush_run.specs.Shelved.{items_now, phase_now}
use Rattle.flush_plan.specs.Packs.{KeepsPacking}
use Rattle.store_model.specs.Opened.{IsOpening}
use Rattle.store_model.specs.Resuming.{PacksAgain, StartsAgain}
use Rattle.store_model.proofs.GoingLaws.{some_again}
use Rattle.store_model.proofs.OpeningLaws.{no_memory}
use Rattle.store_model.proofs.ResumedLaws.{again_done, again_failed, makes_store}
use Rattle.store_core.proofs.open.go_on.Goals as goal

pub resume-requires : goal.resume-requires
resume-requires g c =
    let r = c.requires in
    let x = unboxed c.args.found in
    let hands = c.deref_mut.result.now in
    let starts = subst (λ (h : Hands g.row.C). StartsAgain x (parts_of h))
    (sym c.deref_mut.ensures.value) c.in-Ok.ensures in
    let phase = c.phase_again-phase.result in
    let packs : PacksAgain x (phase_now phase.course hands.table) =
    subst (λ e. PacksAgain x (phase_now phase.course e)) (sym starts.table)
    c.phase_again-phase.ensures.again in (
      lit< tt,
      (
        lit< tt,
        (
          lit< tt,
          (
            r.ready,
            (
              record { buffer = starts.buffer; few = r.fits },
              (
                some_again x r.loads r.moving r.fits r.wide (parts_of hands)
                    starts _ packs (g.D.Disk.state c.args.disk.now) r.from,
                subst (λ e. KeepsPacking g.row.C phase (items_now phase.course e)) (sym starts.table)
                    c.phase_again-phase.ensures.keeps,
              ),
            ),
          ),
        ),
      ),
    )

pub store_with-requires : goal.store_with-requires
store_with-requires g c =
    let r = c.requires in
    let x = unboxed c.args.found in
    let hands = c.deref_mut.result.now in
    let starts = subst (λ (h : Hands g.row.C). StartsAgain x (parts_of h))
    (sym c.deref_mut.ensures.value) c.in-Ok.ensures in
    let phase = c.phase_again-phase.result in
    let packs : PacksAgain x (phase_now phase.course hands.table) =
    subst (λ e. PacksAgain x (phase_now phase.course e)) (sym starts.table)
    c.phase_again-phase.ensures.again in (
      lit< tt,
      (
        lit< tt,
        (
          lit< tt,
          makes_store x r.loads r.moving r.fits r.wide (parts_of hands) starts
              _ packs (g.D.Disk.state c.args.disk.now) (g.D.Disk.state c.resume.new.disk) r.from
              c.resume.new.hands c.resume.ensures.left c.resume.ensures.made c.resume.ensures.saves.few
              c.resume.ensures.saves.most
              c.in-Ok-resume.ensures.ends c.in-Ok-resume.ensures.done.one,
        ),
      ),
    )

pub returns-in-Ok-resume : goal.returns-in-Ok-resume
returns-in-Ok-resume g c =
    let r = c.requires in
    let x = unboxed c.args.found in
    let hands = c.deref_mut.result.now in
    let a = g.D.Disk.state c.args.disk.now in
    let d = g.D.Disk.state c.resume.new.disk in
    let starts = subst (λ (h : Hands g.row.C). StartsAgain x (parts_of h))
    (sym c.deref_mut.ensures.value) c.in-Ok.ensures in
    let phase = c.phase_again-phase.result in
    let packs : PacksAgain x (phase_now phase.course hands.table) =
    subst (λ e. PacksAgain x (phase_now phase.course e)) (sym starts.table)
    c.phase_again-phase.ensures.again in
    subst (λ s. IsOpening g.row.C a d (Ok s)) (sym c.store_with.ensures)
    (again_done x r.loads r.moving r.fits r.wide (parts_of hands) starts _ packs
    a d r.from c.resume.new.hands c.resume.ensures.left c.resume.ensures.made c.resume.ensures.saves.few
    c.resume.ensures.saves.most
    c.in-Ok-resume.ensures.ends c.in-Ok-resume.ensures.done.one _ c.in-Ok-resume.ensures.done.calls
    c.in-Ok-resume.ensures.cause)

pub returns-in-Err : goal.returns-in-Err
returns-in-Err g c =
    let r = c.requires in
    let x = unboxed c.args.found in
    let hands = c.deref_mut.result.now in
    let starts = subst (λ (h : Hands g.row.C). StartsAgain x (parts_of h))
    (sym c.deref_mut.ensures.value) c.in-Ok.ensures in
    let phase = c.phase_again-phase.result in
    let packs : PacksAgain x (phase_now phase.course hands.table) =
    subst (λ e. PacksAgain x (phase_now phase.course e)) (sym starts.table)
    c.phase_again-phase.ensures.again in
    again_failed x r.loads r.moving r.fits r.wide (parts_of hands) starts _ packs
    (g.D.Disk.state c.args.disk.now) (g.D.Disk.state c.resume.new.disk) r.from c.resume.new.hands
    c.resume.ensures.left c.resume.ensures.made c.resume.ensures.saves.few c.resume.ensures.saves.most
    c.in-Err.field-0 c.in-Err.ensures.cause

pub returns-in_default : goal.returns-in_default
returns-in_default g c = no_memory g.row.C (g.D.Disk.state c.args.disk.now) c.requires.ready
