-- The cause of a device's fault, by that of another answer.
use Rattle.std.specs.Prelude.{◌≡◌, ◌≢◌, ℕ, Result, Err}
use Rattle.std.proofs.Common.{arith, ◌∙◌, subst}
use Rattle.disk_face.specs.Streams.{SinkState}
use Rattle.slot_pair.specs.Finding.{HasDiskCause}
use Rattle.data_area.specs.Causes.{HasSinkCause}

-- ---- another answer, where no call failed

pub calm_disk : {T E : Type 0} {disk : E} {before now : ℕ} {result : Result T E} → result ≢ Err disk
    → now ≡ before → HasDiskCause disk before now result
calm_disk other same = record {
  later = omega (arith, same);
  rose = λ is. absurd (other is);
  calm = λ other. same;
}

pub calm_sink : {T E : Type 0} {sink : E} {before now : SinkState} {result : Result T E} → result ≢ Err sink
    → now.faults ≡ before.faults → now.tells ≡ before.tells → HasSinkCause sink before now result
calm_sink other same told = record {
  later = omega (arith, same);
  rose = λ is. absurd (other is);
  calm = λ other. same;
  told = told;
}

-- ---- after a call in which none failed

pub disk_cause_after : {T E : Type 0} {disk : E} {before mid now : ℕ} {result : Result T E} → mid ≡ before
    → HasDiskCause disk mid now result → HasDiskCause disk before now result
disk_cause_after {disk = disk} {now = now} {result = result} same cause =
    subst (λ (n : ℕ). HasDiskCause disk n now result) same cause

pub sink_cause_after : {T E : Type 0} {sink : E} {before mid now : SinkState} {result : Result T E}
    → mid.faults ≡ before.faults → mid.tells ≡ before.tells → HasSinkCause sink mid now result
    → HasSinkCause sink before now result
sink_cause_after same told cause = record {
  later = omega (arith, cause.later, same);
  rose = λ is. omega (arith, cause.rose is, same);
  calm = λ other. cause.calm other ∙ same;
  told = cause.told ∙ told;
}

-- ---- an answer that says that a device failed just where another one does

module _ {T U E F : Type 0} {fault : E} {named : F} {x : Result T E} {y : Result U F} where
  pub disk_cause_as : {before now : ℕ} → HasDiskCause fault before now x → (y ≡ Err named → x ≡ Err fault)
      → (x ≡ Err fault → y ≡ Err named) → HasDiskCause named before now y
  disk_cause_as cause back on = record {
    later = cause.later;
    rose = λ is. cause.rose (back is);
    calm = λ other. cause.calm (λ is. other (on is));
  }

  pub sink_cause_as : {before now : SinkState} → HasSinkCause fault before now x
      → (y ≡ Err named → x ≡ Err fault) → (x ≡ Err fault → y ≡ Err named) → HasSinkCause named before now y
  sink_cause_as cause back on = record {
    later = cause.later;
    rose = λ is. cause.rose (back is);
    calm = λ other. cause.calm (λ is. other (on is));
    told = cause.told;
  }
