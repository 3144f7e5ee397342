-- What a fault of a load is to the command, and what it says of the input, of the file and of the devices.
use Rattle.std.specs.Prelude.{◌≡◌, ◌≢◌, ℕ, zero, suc, List, Result, Err, refl}
use Rattle.std.proofs.Common.{arith, ap}
use Rattle.disk_face.specs.Frames.{Unchanged, Untouched}
use Rattle.disk_face.specs.States.{State}
use Rattle.disk_face.specs.Streams.{SinkState, SourceState}
use Rattle.slot_pair.specs.Finding.{HasDiskCause}
use Rattle.load_stream.specs.Causes.{HasCauses}
use Rattle.load_stream.specs.Faults.{IsEarly}
use Rattle.load_stream.specs.Loaded.{AnswersLoad, LeavesLoaded}
use Rattle.load_stream.specs.Steps.{Passed}
use Rattle.load_stream.specs.declared.fault.LoadFault.{LoadFault}
use Rattle.load_stream.specs.declared.fault.LoadFault.TheVariants as why
use Rattle.command_face.specs.Layers.{HasCausesAt}
use Rattle.command_face.specs.declared.stop.StopReason.{StopReason}
use Rattle.command_face.specs.declared.stop.StopReason.TheVariants as stop
use Rattle.load_command.specs.Doing.{EndsAsLoad, reason_of}
use Rattle.load_command.specs.Ends.{IsBegunAt, IsDone, IsJudged, LeavesAsItWas, LeavesFile, PutsBefore}
use Rattle.disk_face.proofs.FrameLaws.{untouched}

pub only_of : (f : LoadFault) → EndsAsLoad (Err (reason_of f))
only_of (why.Line n) = tt
only_of (why.TooMany n) = tt
only_of why.NoMemory = tt
only_of why.Disk = tt
only_of why.Source = tt

pub begun_of : (size : ℕ) (f : LoadFault) → size ≡ 0 → IsBegunAt size (Err (reason_of f))
begun_of size (why.Line n) none = none
begun_of size (why.TooMany n) none = none
begun_of size why.NoMemory none = none
begun_of size why.Disk none = tt
begun_of size why.Source none = none

pub judged_of : (names : ℕ) (input : List ℕ) (f : LoadFault) → AnswersLoad names input (Err f)
    → IsJudged names input (Err (reason_of f))
judged_of names input (why.Line zero) is = is
judged_of names input (why.Line (suc n)) is = is
judged_of names input (why.TooMany n) is = is
judged_of names input why.NoMemory is = is
judged_of names input why.Disk is = tt
judged_of names input why.Source is = tt

pub nothing_of : (o : SinkState) (f : LoadFault) → PutsBefore o o (Err (reason_of f))
nothing_of o (why.Line n) = refl
nothing_of o (why.TooMany n) = refl
nothing_of o why.NoMemory = refl
nothing_of o why.Disk = refl
nothing_of o why.Source = refl

pub early_of : (f : LoadFault) → LeavesAsItWas (Err (reason_of f)) → IsEarly {T = Unit {0}} (Err f)
early_of (why.Line zero) is = tt
early_of (why.Line (suc n)) is = absurd is
early_of (why.TooMany n) is = tt
early_of why.NoMemory is = tt
early_of why.Disk is = absurd is
early_of why.Source is = absurd is

pub file_of : (k names : ℕ) (x : Passed) (file : List ℕ) (f : LoadFault)
    → LeavesLoaded k names x file (Err f) → LeavesFile k names x file (Err (reason_of f))
file_of k names x file (why.Line zero) is = is
file_of k names x file (why.Line (suc n)) is = is
file_of k names x file (why.TooMany n) is = is
file_of k names x file why.NoMemory is = is
file_of k names x file why.Disk is = is
file_of k names x file why.Source is = is

pub undone_of : (f : LoadFault) → IsDone (Err (reason_of f)) → ⊥
undone_of (why.Line n) is = is
undone_of (why.TooMany n) is = is
undone_of why.NoMemory is = is
undone_of why.Disk is = is
undone_of why.Source is = is

pub not_taken : (f : LoadFault) (n : ℕ) → reason_of f ≢ stop.Taken n
not_taken (why.Line m) n is = absurd (cc)
not_taken (why.TooMany m) n is = absurd (cc)
not_taken why.NoMemory n is = absurd (cc)
not_taken why.Disk n is = absurd (cc)
not_taken why.Source n is = absurd (cc)

no_sink : (f : LoadFault) → reason_of f ≢ stop.Sink
no_sink (why.Line m) is = absurd (cc)
no_sink (why.TooMany m) is = absurd (cc)
no_sink why.NoMemory is = absurd (cc)
no_sink why.Disk is = absurd (cc)
no_sink why.Source is = absurd (cc)

disk_fault : (f : LoadFault) → reason_of f ≡ stop.Disk → f ≡ why.Disk
disk_fault (why.Line m) is = absurd (cc)
disk_fault (why.TooMany m) is = absurd (cc)
disk_fault why.NoMemory is = absurd (cc)
disk_fault why.Disk is = refl
disk_fault why.Source is = absurd (cc)

source_fault : (f : LoadFault) → reason_of f ≡ stop.Source → f ≡ why.Source
source_fault (why.Line m) is = absurd (cc)
source_fault (why.TooMany m) is = absurd (cc)
source_fault why.NoMemory is = absurd (cc)
source_fault why.Disk is = absurd (cc)
source_fault why.Source is = refl

-- the reason of an end
abbrev stopped : StopReason → Result (Unit {0}) StopReason
stopped w = Err w

abbrev faulty : LoadFault → Result (Unit {0}) LoadFault
faulty f = Err f

reason_is : (v w : StopReason) → stopped v ≡ stopped w → v ≡ w
reason_is v w is = cc

fault_is : (f g : LoadFault) → faulty f ≡ faulty g → f ≡ g
fault_is f g is = cc

module _ (a b : State) (from rest : SourceState) (f : LoadFault)
    (h : HasCauses {T = Unit {0}} a b from rest (Err f)) where
  pub causes_of : (o : SinkState) → HasCausesAt a b o o (Err (reason_of f))
  causes_of o = record {
    later = h.disk_cause.later;
    rose = λ is. h.disk_cause.rose (ap (λ (g : LoadFault). Err g)
        (disk_fault f (reason_is (reason_of f) stop.Disk is)));
    calm = λ other. h.disk_cause.calm (λ is. other (ap (λ (g : LoadFault). Err (reason_of g))
        (fault_is f why.Disk is)));
    sink_later = omega arith;
    sink_rose = λ is. absurd (no_sink f (reason_is (reason_of f) stop.Sink is));
    sink_calm = λ done. refl;
    sink_told = refl;
  }

  pub source_of : HasDiskCause {T = Unit {0}} stop.Source from.faults rest.faults (Err (reason_of f))
  source_of = record {
    later = h.source_cause.later;
    rose = λ is. h.source_cause.rose (ap (λ (g : LoadFault). Err g)
        (source_fault f (reason_is (reason_of f) stop.Source is)));
    calm = λ other. h.source_cause.calm (λ is. other (ap (λ (g : LoadFault). Err (reason_of g))
        (fault_is f why.Source is)));
  }
