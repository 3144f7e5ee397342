use Rattle.std.proofs.Common.{refl, subst, sym, ℕ, List}
use Rattle.std.specs.Prelude.{IfErr, OnOk, Result}
use Rattle.reopen.specs.declared.fault.OpenFault.{OpenFault}
use Rattle.lent_store.specs.Sound.{IsSoundFile, RefusesFile}
use Rattle.lent_store.proofs.DumpLaws.{never_fails}
use Rattle.lent_store.proofs.SoundLaws.{sound_loaded}
use Rattle.lent_store.proofs.check.check_file.Goals.{in-Ok, in-Err}
use Rattle.lent_store.proofs.check.check_file.Goals as goal

pub returns-clause-sound : goal.returns-clause-sound
returns-clause-sound c =
    let file = c.args.file.now.file in
    elim c.match-load_state.branch as (λ _. OnOk c.match-load_state.result (IsSoundFile file)) [
      | in-Ok w ↦ subst (λ (r : Result (Unit {0}) OpenFault). OnOk r (IsSoundFile file)) (sym w.result-is)
          (subst IsSoundFile c.of-view.ensures.file
          (sound_loaded c.of-view.result.room.now.file w.in-Ok.field-0 (w.in-Ok.ensures.opened refl)))
      | in-Err w ↦ subst (λ (r : Result (Unit {0}) OpenFault). OnOk r (IsSoundFile file)) (sym w.result-is) tt
    ]

pub returns-clause-refused : goal.returns-clause-refused
returns-clause-refused c =
    let file = c.args.file.now.file in
    elim c.match-load_state.branch as (λ _. IfErr c.match-load_state.result (RefusesFile file)) [
      | in-Ok w ↦ subst (λ (r : Result (Unit {0}) OpenFault). IfErr r (RefusesFile file)) (sym w.result-is) tt
      | in-Err w ↦ subst (λ (r : Result (Unit {0}) OpenFault). IfErr r (RefusesFile file)) (sym w.result-is)
          (subst (λ (x : List ℕ). RefusesFile x w.in-Err.fault) c.of-view.ensures.file
          (record {
            refused = w.in-Err.ensures.refused refl;
            read = λ is. never_fails c.of-view.result.refused c.load_state.new.disk.refused
                c.of-view.ensures.none c.load_state.ensures.frame.same_turn (c.load_state.ensures.cause.rose
                (let e = w.in-Err.is in let f = is in cc));
          }))
    ]
