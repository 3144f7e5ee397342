-- The causes of faults, from step to step.
use Rattle.std.specs.Prelude.{◌≡◌, ◌≢◌, Result, Ok, Err, OnErr, OnOk}
use Rattle.std.proofs.Common.{arith, ◌∙◌, subst}
use Rattle.disk_face.specs.Counts.{HasCause, Rose}
use Rattle.disk_face.specs.States.{State}
use Rattle.disk_face.specs.Streams.{SourceState}
use Rattle.load_stream.specs.declared.fault.LoadFault.{LoadFault}
use Rattle.load_stream.specs.declared.fault.LoadFault.TheVariants as why
use Rattle.load_stream.specs.Causes.{HasCauses}

-- Calls on the disk alone follow a step in which none failed.
pub causes_behind : {T U E : Type 0} {a b c d : State} {x y : SourceState} {before : Result U LoadFault}
    {saved : Result T E} {result : Result Unit LoadFault} → b.faults ≡ a.faults
    → before ≢ Err why.Disk → before ≢ Err why.Source → HasCauses b c x y before
    → HasCause c.faults d.faults saved → (result ≡ Err why.Disk → (e : E) × (saved ≡ Err e))
    → (result ≢ Err why.Disk → (t : T) × (saved ≡ Ok t)) → result ≢ Err why.Source
    → HasCauses a d x y result
causes_behind {c = c} {d = d} {saved = saved} {result = result} grew no_disk no_source all save back on
    other =
    let calm = all.disk_cause.calm no_disk in
    let failed : result ≡ Err why.Disk → Rose c.faults d.faults =
    λ is. subst (λ r. OnErr r (Rose c.faults d.faults)) (back is).1 save.rose in
    record {
      disk_cause = record {
        later = omega (arith, grew, calm, save.later);
        rose = λ is. omega (arith, grew, calm, failed is);
        calm = λ is. subst (λ r. OnOk r (d.faults ≡ c.faults)) (on is).1 save.calm ∙ calm ∙ grew;
      };
      source_cause = record {
        later = omega (arith, all.source_cause.later);
        rose = λ is. absurd (other is);
        calm = λ _. all.source_cause.calm no_source;
        told = all.source_cause.told;
      };
    }
