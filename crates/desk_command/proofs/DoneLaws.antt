-- What a desk over an open store keeps of the devices, and the statuses that it ends with.
use Rattle.std.specs.Prelude.{◌≡◌, ◌↔◌, ℕ, true, Result, Err, refl}
use Rattle.std.proofs.Common.{arith, ap, sym, ◌∙◌, subst, inl, inr}
use Rattle.disk_face.specs.Devices.{Devices}
use Rattle.disk_face.specs.Frames.{Unchanged}
use Rattle.disk_face.specs.States.{State}
use Rattle.disk_face.specs.Streams.{SourceState}
use Rattle.disk_face.specs.Writes.{KeepsDisk}
use Rattle.size_class.specs.declared.TheConstants.{CLASSES}
use Rattle.store_model.specs.Connection.{StoreValue}
use Rattle.store_model.specs.Opened.{IsFresh}
use Rattle.command_face.specs.Outcomes.{status_at}
use Rattle.command_face.specs.declared.status.TheConstants.{DISK_FAILED, DONE, FAULTY_REQUEST, SINK_FAILED, TOO_MANY_REQUESTS}
use Rattle.command_face.specs.declared.stop.StopReason.{StopReason}
use Rattle.command_face.specs.declared.stop.StopReason.TheVariants as stop
use Rattle.served_file.proofs.StepsLaws.{KeepsDone, sinkless}
use Rattle.ask_text.specs.declared.ends.End.{End}
use Rattle.ask_text.specs.declared.ends.End.TheVariants as ends
use Rattle.desk_command.specs.Desking.{ComesToNone, is_desking}
use Rattle.desk_command.specs.Doing.{HasNoMemory, IsDesking}
use Rattle.disk_face.proofs.FrameLaws.{keeps_unchanged}
use Rattle.served_file.specs.Ends.{end_of}

-- ---- the statuses of a desk

-- Which status a desk's end has.
pub record EndStatus (why : End) (status : ℕ) : Type 0 where
  pub known : is_desking status ≡ true
  pub comes : ComesToNone status → ⊥
  pub done : status ≡ DONE → why ≡ ends.End
  pub line : status ≡ FAULTY_REQUEST → why ≡ ends.Line
  pub disk : status ≡ DISK_FAILED → why ≡ ends.Disk
  pub sink : status ≡ SINK_FAILED → why ≡ ends.Sink
  pub limit : (status ≡ TOO_MANY_REQUESTS) ↔ (why ≡ ends.Budget)

pub status_for : (why : End) (n : ℕ) → EndStatus why (status_at (end_of why n))
status_for ends.End n = record {
  known = refl;
  comes = λ is. omega (arith, is);
  done = λ is. refl;
  line = λ is. absurd (omega (arith, is));
  disk = λ is. absurd (omega (arith, is));
  sink = λ is. absurd (omega (arith, is));
  limit = (λ is. absurd (omega (arith, is)), λ is. absurd (cc));
}
status_for ends.Line n = record {
  known = refl;
  comes = λ is. omega (arith, is);
  done = λ is. absurd (omega (arith, is));
  line = λ is. refl;
  disk = λ is. absurd (omega (arith, is));
  sink = λ is. absurd (omega (arith, is));
  limit = (λ is. absurd (omega (arith, is)), λ is. absurd (cc));
}
status_for ends.Disk n = record {
  known = refl;
  comes = λ is. omega (arith, is);
  done = λ is. absurd (omega (arith, is));
  line = λ is. absurd (omega (arith, is));
  disk = λ is. refl;
  sink = λ is. absurd (omega (arith, is));
  limit = (λ is. absurd (omega (arith, is)), λ is. absurd (cc));
}
status_for ends.Source n = record {
  known = refl;
  comes = λ is. omega (arith, is);
  done = λ is. absurd (omega (arith, is));
  line = λ is. absurd (omega (arith, is));
  disk = λ is. absurd (omega (arith, is));
  sink = λ is. absurd (omega (arith, is));
  limit = (λ is. absurd (omega (arith, is)), λ is. absurd (cc));
}
status_for ends.Sink n = record {
  known = refl;
  comes = λ is. omega (arith, is);
  done = λ is. absurd (omega (arith, is));
  line = λ is. absurd (omega (arith, is));
  disk = λ is. absurd (omega (arith, is));
  sink = λ is. refl;
  limit = (λ is. absurd (omega (arith, is)), λ is. absurd (cc));
}
status_for ends.Budget n = record {
  known = refl;
  comes = λ is. omega (arith, is);
  done = λ is. absurd (omega (arith, is));
  line = λ is. absurd (omega (arith, is));
  disk = λ is. absurd (omega (arith, is));
  sink = λ is. absurd (omega (arith, is));
  limit = (λ is. refl, λ is. refl);
}

-- ---- what is kept

-- there was no memory
none_kept : (from rest : SourceState) (a b : Devices) (end : Result (Unit {0}) StopReason)
    → HasNoMemory from rest a b end → KeepsDone a b end
none_kept from rest a b end x = subst (KeepsDone a b) (sym x.ended) (record {
  frame = keeps_unchanged x.frame;
  causes = sinkless a.disk b.disk a.sink b.sink (Err stop.NoMemory) x.nothing (omega (arith, x.calm))
      (λ is. absurd (cc)) (λ other. x.calm) (λ is. absurd (cc));
  there = λ is. omega (arith, is);
  store = λ is. omega (arith, is);
})

pub keeps_done : (from rest : SourceState) (s : StoreValue) (a b : Devices)
    (end : Result (Unit {0}) StopReason) → IsFresh CLASSES s → IsDesking from rest s a b end
    → KeepsDone a b end
keeps_done from rest s a b end fresh (inl x) = none_kept from rest a b end x
keeps_done from rest s a b end fresh (inr x) = record {
  frame = x.frame;
  causes = x.causes;
  there = λ is. (status_for x.why x.n).comes
      (inl (sym (ap (λ (e : Result (Unit {0}) StopReason). status_at e) x.ended) ∙ is));
  store = λ is. (status_for x.why x.n).comes
      (inr (inl (sym (ap (λ (e : Result (Unit {0}) StopReason). status_at e) x.ended) ∙ is)));
}
