-- What a batch over an open store keeps of the devices, and the statuses that it ends with.
use Rattle.std.specs.Prelude.{◌≡◌, ◌≢◌, ◌⊎◌, Bool, true, false, Result, Ok, Err, refl}
use Rattle.std.proofs.Common.{arith, ap, sym, ◌∙◌, subst, inl, inr}
use Rattle.std.proofs.lemmas.Bool.{false≢true}
use Rattle.disk_face.specs.Devices.{Devices, devices}
use Rattle.disk_face.specs.Frames.{Unchanged}
use Rattle.disk_face.specs.States.{State}
use Rattle.disk_face.specs.Streams.{SinkState, SourceState}
use Rattle.disk_face.specs.Writes.{KeepsDisk}
use Rattle.slot_pair.specs.Finding.{HasDiskCause}
use Rattle.size_class.specs.declared.TheConstants.{CLASSES}
use Rattle.store_model.specs.Connection.{StoreValue}
use Rattle.store_model.specs.Opened.{IsFresh}
use Rattle.command_face.specs.Layers.{HasCausesAt}
use Rattle.command_face.specs.Outcomes.{status_at, status_of}
use Rattle.command_face.specs.declared.status.TheConstants.{DONE, NO_FILE, NO_STORE, SINK_FAILED}
use Rattle.command_face.specs.declared.stop.StopReason.{StopReason}
use Rattle.command_face.specs.declared.stop.StopReason.TheVariants as stop
use Rattle.served_file.proofs.StepsLaws.{KeepsDone, sinkless, causes_since}
use Rattle.batch_core.specs.Answers.{Applies, Finishes, IsReadBy}
use Rattle.batch_core.specs.StoresOn.{store_on}
use Rattle.batch_core.specs.declared.fault.BatchFault.{BatchFault}
use Rattle.batch_core.specs.declared.fault.BatchFault.TheVariants as fault
use Rattle.batch_command.specs.Batching.{is_batching}
use Rattle.batch_command.specs.Doing.{AppliesInput, EndsAs, IsBatching, PutsReply, reason_of}
use Rattle.disk_face.proofs.FrameLaws.{keeps_then, keeps_unchanged}

-- The end of a call that kept the devices: the line of an answer was put, or the sink failed; or it stopped
-- with a status that such a call may have, and nothing was put.
pub record Ended (a b : Devices) (end : Result (Unit {0}) StopReason) : Type 0 where
  pub frame : KeepsDisk a.disk b.disk
  pub causes : HasCausesAt a.disk b.disk a.sink b.sink end
  pub known : is_batching (status_at end) ≡ true
  pub how : ((status_at end ≡ DONE) ⊎ (status_at end ≡ SINK_FAILED)) ⊎ (b.sink ≡ a.sink)
  pub there : status_at end ≢ NO_FILE
  pub store : status_at end ≢ NO_STORE

-- ---- why a batch wasn't done

is_batching_for : (why : BatchFault) → is_batching (status_of (reason_of why)) ≡ true
is_batching_for fault.Broken = refl
is_batching_for fault.Damaged = refl
is_batching_for fault.NoBatch = refl
is_batching_for (fault.Line n) = refl
is_batching_for (fault.Unfit n) = refl
is_batching_for fault.Worn = refl
is_batching_for fault.Disk = refl

not_sink : (why : BatchFault) → reason_of why ≢ stop.Sink
not_sink fault.Broken is = cc
not_sink fault.Damaged is = cc
not_sink fault.NoBatch is = cc
not_sink (fault.Line n) is = cc
not_sink (fault.Unfit n) is = cc
not_sink fault.Worn is = cc
not_sink fault.Disk is = cc

-- it is no status of a file that wasn't opened
not_three : (why : BatchFault) → status_of (reason_of why) ≢ NO_FILE
not_three fault.Broken is = omega (arith, is)
not_three fault.Damaged is = omega (arith, is)
not_three fault.NoBatch is = omega (arith, is)
not_three (fault.Line n) is = omega (arith, is)
not_three (fault.Unfit n) is = omega (arith, is)
not_three fault.Worn is = omega (arith, is)
not_three fault.Disk is = omega (arith, is)

not_four : (why : BatchFault) → status_of (reason_of why) ≢ NO_STORE
not_four fault.Broken is = omega (arith, is)
not_four fault.Damaged is = omega (arith, is)
not_four fault.NoBatch is = omega (arith, is)
not_four (fault.Line n) is = omega (arith, is)
not_four (fault.Unfit n) is = omega (arith, is)
not_four fault.Worn is = omega (arith, is)
not_four fault.Disk is = omega (arith, is)

-- where the store isn't broken it is the disk's fault just where the disk failed
disk_for : (why : BatchFault) → why ≢ fault.Broken → reason_of why ≡ stop.Disk → why ≡ fault.Disk
disk_for fault.Broken whole is = absurd (whole refl)
disk_for fault.Damaged whole is = absurd (let e : stop.Damaged ≡ stop.Disk = is in cc)
disk_for fault.NoBatch whole is = absurd (let e : stop.NoBatch ≡ stop.Disk = is in cc)
disk_for (fault.Line n) whole is = absurd (let e : stop.Line n ≡ stop.Disk = is in cc)
disk_for (fault.Unfit n) whole is = absurd (let e : stop.Unfit n ≡ stop.Disk = is in cc)
disk_for fault.Worn whole is = absurd (let e : stop.Worn ≡ stop.Disk = is in cc)
disk_for fault.Disk whole is = refl

module _ (a b : Devices) where
  -- a fault of a store that isn't broken stopped it
  stopped : {T : Type 0} (why : BatchFault) → why ≢ fault.Broken → KeepsDisk a.disk b.disk
      → HasDiskCause {T = T} fault.Disk a.disk.faults b.disk.faults (Err why) → b.sink ≡ a.sink
      → Ended a b (Err (reason_of why))
  stopped why whole frame cause same = record {
    frame = frame;
    causes = sinkless a.disk b.disk a.sink b.sink (Err (reason_of why)) same cause.later
        (λ is. cause.rose (ap Err (disk_for why whole (cc))))
        (λ other. cause.calm (λ is. other (let e : why ≡ fault.Disk = cc in ap (λ (w : BatchFault).
        Err (reason_of w)) e)))
        (λ is. not_sink why (cc));
    known = is_batching_for why;
    how = inr same;
    there = not_three why;
    store = not_four why;
  }

  -- the line was put, or the sink failed
  put : (kept : Bool) (end : Result (Unit {0}) StopReason) → KeepsDisk a.disk b.disk
      → b.disk.faults ≡ a.disk.faults → PutsReply kept a.sink b.sink end → Ended a b end
  put kept (Ok done) frame calm puts = record {
    frame = frame;
    causes = record {
      later = omega (arith, calm);
      rose = λ is. absurd (cc);
      calm = λ is. calm;
      sink_later = puts.cause.later;
      sink_rose = λ is. absurd (cc);
      sink_calm = λ is. puts.cause.calm;
      sink_told = puts.told;
    };
    known = refl;
    how = inl (inl refl);
    there = λ is. omega (arith, is);
    store = λ is. omega (arith, is);
  }
  put kept (Err why) frame calm puts =
      let nine : status_of why ≡ SINK_FAILED =
      ap (λ (e : Result (Unit {0}) StopReason). status_at e) puts.only in
      record {
        frame = frame;
        causes = record {
          later = omega (arith, calm);
          rose = λ is.
              let only = puts.only in
              let e : stop.Sink ≡ stop.Disk = cc in
              absurd (cc);
          calm = λ is. calm;
          sink_later = puts.cause.later;
          sink_rose = λ is. puts.cause.rose;
          sink_calm = λ is. absurd (cc);
          sink_told = puts.told;
        };
        known = ap is_batching nine;
        how = inl (inr nine);
        there = λ is. omega (arith, is, nine);
        store = λ is. omega (arith, is, nine);
      }

  -- it stopped for memory or for the source, and the disk was left
  left : (why : StopReason) (end : Result (Unit {0}) StopReason) → end ≡ Err why
      → is_batching (status_of why) ≡ true → status_of why ≢ NO_FILE → status_of why ≢ NO_STORE
      → why ≢ stop.Disk → why ≢ stop.Sink → IsReadBy a.disk b.disk → b.sink ≡ a.sink → Ended a b end
  left why end is known three four disk sink read same = subst (Ended a b) (sym is) (record {
    frame = keeps_unchanged read.frame;
    causes = sinkless a.disk b.disk a.sink b.sink (Err why) same (omega (arith, read.calm))
        (λ e. absurd (disk (cc))) (λ e. read.calm) (λ e. sink (cc));
    known = known;
    how = inr same;
    there = three;
    store = four;
  })

  -- ---- the input

  module _ (s : StoreValue) (whole : s.is_broken ≡ false) where
    not_broken : (text : _) (new : StoreValue) (why : BatchFault)
        → Applies CLASSES text (store_on s a.disk) (store_on new b.disk) (Err why) → why ≢ fault.Broken
    not_broken text new fault.Broken x is = false≢true (sym whole ∙ x.answer)
    not_broken text new fault.Damaged x is = cc
    not_broken text new fault.NoBatch x is = cc
    not_broken text new (fault.Line n) x is = cc
    not_broken text new (fault.Unfit n) x is = cc
    not_broken text new fault.Worn x is = cc
    not_broken text new fault.Disk x is = cc

    applied_by : (text : _) (new : StoreValue) (result : Result Bool BatchFault)
        (end : Result (Unit {0}) StopReason)
        → Applies CLASSES text (store_on s a.disk) (store_on new b.disk) result
        → EndsAs result a.sink b.sink end → Ended a b end
    applied_by text new (Ok kept) end x ends = put kept end x.frame (x.cause.calm (λ is. absurd (cc))) ends
    applied_by text new (Err why) end x ends = subst (Ended a b) (sym ends.0)
        (stopped {T = Bool} why (not_broken text new why x) x.frame x.cause ends.1)

    pub applies_ended : (from rest : SourceState) (end : Result (Unit {0}) StopReason)
        → AppliesInput from rest s a b end → Ended a b end
    applies_ended from rest end (inl x) = left stop.Source end x.ended refl (λ is. omega (arith, is))
        (λ is. omega (arith, is)) (λ is. cc) (λ is. cc) x.disk x.nothing
    applies_ended from rest end (inr x) =
        applied_by x.text x.applied.new x.applied.result end x.applied.applies x.applied.ends

    finish_broken : (new : StoreValue) (why : BatchFault)
        → Finishes CLASSES (store_on s a.disk) (store_on new b.disk) (Err why) → why ≢ fault.Broken
    finish_broken new fault.Broken x is = false≢true (sym whole ∙ x.answer)
    finish_broken new fault.Damaged x is = cc
    finish_broken new fault.NoBatch x is = cc
    finish_broken new (fault.Line n) x is = cc
    finish_broken new (fault.Unfit n) x is = cc
    finish_broken new fault.Worn x is = cc
    finish_broken new fault.Disk x is = cc

-- ---- all of it

pub ended : {D : Type 0} (disk_of : D → State) (from rest : SourceState) (s : StoreValue) (a b : Devices)
    (end : Result (Unit {0}) StopReason) → s.is_broken ≡ false → IsBatching disk_of from rest s a b end
    → Ended a b end
ended disk_of from rest s a b end whole (inl x) = left a b stop.NoMemory end x.ended refl
    (λ is. omega (arith, is)) (λ is. omega (arith, is)) (λ is. cc) (λ is. cc) x.disk x.nothing
ended disk_of from rest s a b end whole (inr (inl x)) = subst (Ended a b) (sym x.ended)
    (stopped a b {T = Bool} x.why (finish_broken a b s whole x.new x.why x.finishes) x.finishes.frame
    x.finishes.cause x.nothing)
ended disk_of from rest s a b end whole (inr (inr x)) =
    let after = applies_ended (devices (disk_of x.mid) a.sink) b x.new x.finishes.whole.0 from rest end
    x.after in
    record {
      frame = keeps_then x.finishes.frame after.frame;
      causes = causes_since a.disk (disk_of x.mid) b.disk a.sink b.sink end
          (x.finishes.cause.calm (λ is. absurd (cc))) after.causes;
      known = after.known;
      how = after.how;
      there = after.there;
      store = after.store;
    }

pub keeps_done : {D : Type 0} (disk_of : D → State) (from rest : SourceState) (s : StoreValue) (a b : Devices)
    (end : Result (Unit {0}) StopReason) → IsFresh CLASSES s → IsBatching disk_of from rest s a b end
    → KeepsDone a b end
keeps_done disk_of from rest s a b end fresh x =
    let e = ended disk_of from rest s a b end fresh.whole x in
    record { frame = e.frame; causes = e.causes; there = e.there; store = e.store }
