-- What a command keeps of its input.
use Rattle.std.specs.Prelude.{◌≡◌, ◌≢◌, ℕ, Bool, List, Result, Ok, Err, refl}
use Rattle.std.proofs.Common.{arith, ap, sym, ◌∙◌, subst, inl, inr}
use Rattle.disk_face.specs.Devices.{Devices}
use Rattle.disk_face.specs.States.{State}
use Rattle.disk_face.specs.Streams.{SourceState}
use Rattle.store_model.specs.Connection.{StoreValue}
use Rattle.command_face.specs.Mounting.{IsNotThere}
use Rattle.command_face.specs.Outcomes.{status_at, status_of}
use Rattle.command_face.specs.declared.status.TheConstants.{SINK_FAILED, SOURCE_FAILED}
use Rattle.command_face.specs.declared.stop.StopReason.{StopReason}
use Rattle.command_face.specs.declared.stop.StopReason.TheVariants as stop
use Rattle.slot_pair.specs.declared.find.SlotFault.TheVariants as slot
use Rattle.reopen.specs.declared.fault.OpenFault.{OpenFault}
use Rattle.reopen.specs.declared.fault.OpenFault.TheVariants as opening
use Rattle.command_face.specs.Refusing.{stop_of}
use Rattle.batch_core.specs.Answers.{AnswersApply, AnswersFinish}
use Rattle.batch_core.specs.declared.fault.BatchFault.{BatchFault}
use Rattle.batch_core.specs.declared.fault.BatchFault.TheVariants as fault
use Rattle.served_file.proofs.AlwaysLaws.{source_by}
use Rattle.batch_command.specs.Batching.{BatchReads}
use Rattle.batch_command.specs.Doing.{AppliesInput, EndsAs, reason_of}
use Rattle.batch_command.specs.Reading.{ComesToNone, HasJudged, KeepsSource, most_read}

-- no call was made of it
pub source_same : (from : SourceState) (same : Type 0) (why : StopReason) → same → why ≢ stop.Source
    → (HasJudged (status_of why) → ⊥) → KeepsSource from from same (Err why)
source_same from same why is other unjudged = record {
  cause = record {
    later = omega arith;
    rose = λ e. absurd (other (cc));
    calm = λ e. refl;
  };
  told = refl;
  front = λ told. record { taken = 0; few = omega arith; others = refl };
  whole = λ told judged. absurd (unjudged judged);
  unread = λ none. is;
}

-- an end that isn't the source's fault comes of one that comes to the input
comes : (why : BatchFault) → why ≢ fault.Damaged → why ≢ fault.NoBatch
    → (ComesToNone (status_of (reason_of why)) → ⊥) × (reason_of why ≢ stop.Source)
comes fault.Broken a b = (λ n. omega (arith, n), λ is. cc)
comes fault.Damaged a b = absurd (a refl)
comes fault.NoBatch a b = absurd (b refl)
comes (fault.Line n) a b = (λ n. omega (arith, n), λ is. cc)
comes (fault.Unfit n) a b = (λ n. omega (arith, n), λ is. cc)
comes fault.Worn a b = (λ n. omega (arith, n), λ is. cc)
comes fault.Disk a b = (λ n. omega (arith, n), λ is. cc)

-- a finish stopped for no fault of the source
pub not_source : (why : BatchFault) → reason_of why ≢ stop.Source
not_source fault.Broken is = cc
not_source fault.Damaged is = cc
not_source fault.NoBatch is = cc
not_source (fault.Line n) is = cc
not_source (fault.Unfit n) is = cc
not_source fault.Worn is = cc
not_source fault.Disk is = cc

-- an answer of apply is none of a batch that is kept
pub by_apply : (s : StoreValue) (text : _) (result : Result Bool BatchFault) (a b : _)
    (end : Result (Unit {0}) StopReason) → AnswersApply s text result → EndsAs result a b end
    → (ComesToNone (status_at end) → ⊥) × (end ≢ Err stop.Source)
by_apply s text (Ok kept) a b (Ok done) answer ends = (λ n. omega (arith, n), λ is. cc)
by_apply s text (Ok kept) a b (Err why) answer ends =
    let nine : status_of why ≡ SINK_FAILED =
    ap (λ (e : Result (Unit {0}) StopReason). status_at e) ends.only in
    (λ n. omega (arith, n, nine), λ is. let only = ends.only in let e : stop.Sink ≡ stop.Source = cc in cc)
by_apply s text (Err why) a b end answer ends =
    let both = comes why (not_damaged why answer) (not_none why answer) in
    subst (λ (e : Result (Unit {0}) StopReason). (ComesToNone (status_at e) → ⊥) × (e ≢ Err stop.Source))
    (sym ends.0) (both.0, λ is. both.1 (cc))
  where
    not_damaged : (w : BatchFault) → AnswersApply s text (Err w) → w ≢ fault.Damaged
    not_damaged fault.Damaged answer is = answer
    not_damaged fault.Broken answer is = cc
    not_damaged fault.NoBatch answer is = cc
    not_damaged (fault.Line n) answer is = cc
    not_damaged (fault.Unfit n) answer is = cc
    not_damaged fault.Worn answer is = cc
    not_damaged fault.Disk answer is = cc

    not_none : (w : BatchFault) → AnswersApply s text (Err w) → w ≢ fault.NoBatch
    not_none fault.NoBatch answer is = answer
    not_none fault.Broken answer is = cc
    not_none fault.Damaged answer is = cc
    not_none (fault.Line n) answer is = cc
    not_none (fault.Unfit n) answer is = cc
    not_none fault.Worn answer is = cc
    not_none fault.Disk answer is = cc

-- the input was read, or it couldn't be
pub source_read : (from rest : SourceState) (same : Type 0) (s : StoreValue) (a b : Devices)
    (end : Result (Unit {0}) StopReason) → AppliesInput from rest s a b end → KeepsSource from rest same end
source_read from rest same s a b end (inl x) = record {
  cause = record {
    later = x.unread.later;
    rose = λ e. x.unread.rose;
    calm = λ other. absurd (other x.ended);
  };
  told = x.unread.told;
  front = x.unread.front;
  whole = λ told judged. absurd (
      let eight : status_at end ≡ SOURCE_FAILED =
      ap (λ (e : Result (Unit {0}) StopReason). status_at e) x.ended in
      omega (arith, judged, eight)
      );
  unread = λ none. absurd (
      let eight : status_at end ≡ SOURCE_FAILED =
      ap (λ (e : Result (Unit {0}) StopReason). status_at e) x.ended in
      omega (arith, none, eight)
      );
}
source_read from rest same s a b end (inr x) =
    let both = by_apply s x.text x.applied.result a.sink b.sink end x.applied.applies.answer x.applied.ends in
    record {
      cause = record {
        later = omega (arith, x.read.calm);
        rose = λ e. absurd (both.1 e);
        calm = λ other. x.read.calm;
      };
      told = x.read.told;
      front = λ told. record { taken = most_read; few = omega arith; others = (x.read.front told).others };
      whole = λ told judged. (x.read.front told).others;
      unread = λ none. absurd (both.0 none);
    }

-- by the status
pub batch_reads : (from rest : SourceState) (same : Type 0) (end : Result (Unit {0}) StopReason) (status : ℕ)
    → status ≡ status_at end → KeepsSource from rest same end → BatchReads status from rest same
batch_reads from rest same end status is keeps = record {
  later = keeps.cause.later;
  rose = λ eight. keeps.cause.rose (source_by end (sym is ∙ eight));
  calm = λ other. keeps.cause.calm
      (λ e. other (is ∙ ap (λ (x : Result (Unit {0}) StopReason). status_at x) e));
  told = keeps.told;
  front = keeps.front;
  whole = λ told judged. keeps.whole told (subst HasJudged is judged);
  unread = λ none. keeps.unread (subst ComesToNone is none);
}

-- ---- a call that has judged its input

pub unmounted_unjudged : (file : List ℕ) (old new : State) (why : StopReason)
    → IsNotThere file old new (why ≡ stop.Disk) (why ≡ stop.NoFile) → HasJudged (status_of why) → ⊥
unmounted_unjudged file old new why (inl failed) judged = omega (arith, ap status_of failed.0, judged)
unmounted_unjudged file old new why (inr gone) judged = omega (arith, ap status_of gone.0, judged)

pub unopened_unjudged : (f : OpenFault) → HasJudged (status_of (stop_of f)) → ⊥
unopened_unjudged (opening.Slot slot.Disk) judged = omega (arith, judged)
unopened_unjudged (opening.Slot slot.Short) judged = omega (arith, judged)
unopened_unjudged (opening.Slot slot.Unformatted) judged = omega (arith, judged)
unopened_unjudged (opening.Slot slot.NoGate) judged = omega (arith, judged)
unopened_unjudged (opening.Slot slot.SameSequence) judged = omega (arith, judged)
unopened_unjudged (opening.Slot (slot.Codec f at)) judged = omega (arith, judged)
unopened_unjudged opening.NoMemory judged = omega (arith, judged)
unopened_unjudged (opening.Table broken) judged = omega (arith, judged)

pub unfinished_unjudged : (s : StoreValue) (why : BatchFault) → AnswersFinish s (Err why)
    → HasJudged (status_of (reason_of why)) → ⊥
unfinished_unjudged s fault.Broken answer judged = omega (arith, judged)
unfinished_unjudged s fault.Damaged answer judged = omega (arith, judged)
unfinished_unjudged s fault.NoBatch answer judged = omega (arith, judged)
unfinished_unjudged s (fault.Line n) answer judged = answer
unfinished_unjudged s (fault.Unfit n) answer judged = omega (arith, judged)
unfinished_unjudged s fault.Worn answer judged = omega (arith, judged)
unfinished_unjudged s fault.Disk answer judged = omega (arith, judged)
