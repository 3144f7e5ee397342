-- A step that looks at a file, and what comes behind it.
use Rattle.std.specs.Prelude.{◌≡◌, Result, Ok, Err, IfErr, OnErr, refl}
use Rattle.std.proofs.Common.{◌∙◌, arith, subst, sym}
use Rattle.disk_face.specs.Counts.{HasCause, Rose}
use Rattle.disk_face.specs.Frames.{Unchanged}
use Rattle.disk_face.specs.States.{State}
use Rattle.disk_face.specs.Streams.{SinkState}
use Rattle.disk_face.proofs.FrameLaws.{Unchanged-trans}
use Rattle.command_face.specs.Layers.{HasCausesAt, IsCommandReason, Looks}
use Rattle.command_face.specs.declared.stop.StopReason.{StopReason}
use Rattle.command_face.specs.declared.stop.StopReason.TheVariants as stop

module _ {T U A E : Type 0} (a b d : State) (x : T) (looks : Looks a b (Ok x)) (same : Unchanged b d) where
  -- both were answered
  pub looks_ok : (y : U) (n : A) → HasCause {T = A} {E = E} b.faults d.faults (Ok n) → Looks a d (Ok y)
  looks_ok y n h = record {
    only = tt;
    cause = record {
      later = omega (arith, looks.cause.later, h.later);
      rose = λ is. absurd (cc);
      calm = λ other. h.calm ∙ looks.cause.calm (λ is. absurd (cc));
    };
    frame = Unchanged-trans looks.frame same;
  }

  -- the length wasn't, since the disk failed
  pub looks_failed : (e : E) → HasCause {T = A} {E = E} b.faults d.faults (Err e) → Looks {T = U} a d
      (Err stop.Disk)
  looks_failed e h = record {
    only = (λ is. absurd (cc), λ is. absurd (cc), λ is. absurd (cc));
    cause = record {
      later = omega (arith, looks.cause.later, h.later);
      rose = λ is. subst (λ n. Rose n d.faults) (looks.cause.calm (λ ok. absurd (cc))) h.rose;
      calm = λ other. absurd (other refl);
    };
    frame = Unchanged-trans looks.frame same;
  }

-- what a step found is looked through, and no device is asked
pub looks_through : {T U : Type 0} (a b : State) (x : T) → Looks a b (Ok x) → (r : Result U StopReason)
    → IfErr r (λ why. why ≡ stop.Missing) → Looks a b r
looks_through a b x looks (Ok y) only = record {
  only = tt;
  cause = record {
    later = looks.cause.later;
    rose = λ is. absurd (cc);
    calm = λ other. looks.cause.calm (λ is. absurd (cc));
  };
  frame = looks.frame;
}
looks_through a b x looks (Err why) only = record {
  only = (λ is. absurd (cc), λ is. absurd (cc), λ is. absurd (cc));
  cause = record {
    later = looks.cause.later;
    rose = λ is. absurd (cc);
    calm = λ other. looks.cause.calm (λ is. absurd (cc));
  };
  frame = looks.frame;
}

-- and a name that isn't there is a reason of a command
pub missing_plain : {U : Type 0} (r : Result U StopReason) → IfErr r (λ why. why ≡ stop.Missing)
    → IfErr r IsCommandReason
missing_plain (Ok y) only = tt
missing_plain (Err why) only = subst IsCommandReason (sym only)
    (λ is. absurd (cc), λ is. absurd (cc), λ n is. absurd (cc))

-- what a step found is put, which only the sink may fail
module _ {T : Type 0} (a b : State) (x : T) (looks : Looks a b (Ok x)) (old new : SinkState) where
  pub looks_put : (end : Result (Unit {0}) StopReason) → OnErr end (end ≡ Err stop.Sink)
      → new.tells ≡ old.tells → HasCause old.faults new.faults end → HasCausesAt a b old new end
  looks_put (Ok u) only told cause = record {
    later = looks.cause.later;
    rose = λ is. absurd (cc);
    calm = λ other. looks.cause.calm (λ is. absurd (cc));
    sink_later = cause.later;
    sink_rose = λ is. absurd (cc);
    sink_calm = λ is. cause.calm;
    sink_told = told;
  }
  looks_put (Err why) only told cause = record {
    later = looks.cause.later;
    rose = λ is. absurd (
        let sink : why ≡ stop.Sink = cc in
        let disk : why ≡ stop.Disk = cc in
        let both : stop.Sink ≡ stop.Disk = sym sink ∙ disk in cc);
    calm = λ other. looks.cause.calm (λ is. absurd (cc));
    sink_later = cause.later;
    sink_rose = λ is. cause.rose;
    sink_calm = λ is. absurd (cc);
    sink_told = told;
  }
