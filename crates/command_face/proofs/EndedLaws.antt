-- How a command ends, by its end and by the line of it, and where that line alone was put.
use Rattle.std.specs.Prelude.{◌≡◌, ◌⊎◌, ◌≤◌, ℕ, List, [], ◌++◌, Result, Ok, Err, IsOk, IsTrue, OnOk, refl}
use Rattle.std.proofs.Common.{arith, ap, sym, ◌∙◌, subst, inl, inr, append-nil}
use Rattle.disk_face.specs.Counts.{Rose}
use Rattle.disk_face.specs.States.{State}
use Rattle.disk_face.specs.Streams.{Puts, SinkState}
use Rattle.command_face.specs.Faults.{line_of}
use Rattle.command_face.specs.Layers.{Answers, HasCauses, HasCausesAt, PutsNone}
use Rattle.command_face.specs.Outcomes.{Ends, EndsBy, PutsLast, PutsLine, line_at, status_at, status_of}
use Rattle.command_face.specs.declared.status.TheConstants.{DISK_FAILED, DONE, SINK_FAILED}
use Rattle.command_face.specs.declared.stop.StopReason.{StopReason}
use Rattle.command_face.specs.declared.stop.StopReason.TheVariants as stop
use Rattle.command_face.proofs.StatusEnds.{disk_by, ok_by, sink_by}
use Rattle.command_face.proofs.StatusLaws.{Puts-front, calm_by, later_rose}

-- what is put of an end where all is done
pub whole_of : (before mid bytes : List ℕ) (e : Result (Unit {0}) StopReason) → Puts before mid bytes e
    → IsOk e → mid ≡ before ++ bytes
whole_of before mid bytes (Ok x) puts done = puts.all
whole_of before mid bytes (Err why) puts done = cc

-- the end of a command, its answer's bytes put first and its line after them
pub ended : (answer : Result (List ℕ) StopReason → Type 0) (end : Result (Unit {0}) StopReason) (status : ℕ)
    (old mid new : SinkState)
    → status ≡ status_at end → Answers answer old mid end → mid.tells ≡ old.tells → old.faults ≤ mid.faults
    → (IsTrue mid.tells → PutsLast mid.given new.given (line_at end) (Rose mid.faults new.faults))
    → Ends answer status old new
ended answer end status old mid new is answers told later line = record {
  end = end;
  bytes = answers.bytes;
  same_status = is;
  by = answers.ends;
  puts = λ sink_told. record {
    between = mid.given;
    object = Puts-front old.given mid.given answers.bytes end (answers.puts sink_told);
    whole = whole_of old.given mid.given answers.bytes end (answers.puts sink_told);
    line = later_rose old.faults mid.faults new.faults later (line (subst IsTrue (sym told) sink_told));
  };
}

-- where nothing was put before it, the line is all that was put
pub line_after_none : (old mid new : SinkState) (end : Result (Unit {0}) StopReason) → mid ≡ old
    → end ≡ Err stop.Disk
    → IsTrue old.tells
    → (IsTrue mid.tells → PutsLast mid.given new.given (line_at end) (Rose mid.faults new.faults))
    → PutsLine 7 old new
line_after_none old mid new end same disk told line = record {
  why = stop.Disk;
  same_status = refl;
  line = subst (λ e. PutsLast old.given new.given (line_at e) (Rose old.faults new.faults)) disk
      (subst (λ s. PutsLast s.given new.given (line_at end) (Rose s.faults new.faults)) same
      (line (subst (λ s. IsTrue s.tells) (sym same) told)));
}

-- it is done, or its line is all that was put
pub line_alone : (old mid new : SinkState) (end : Result (Unit {0}) StopReason) (status : ℕ)
    → status ≡ status_at end → mid ≡ old → IsTrue old.tells
    → (IsTrue mid.tells → PutsLast mid.given new.given (line_at end) (Rose mid.faults new.faults))
    → (status ≡ DONE) ⊎ PutsLine status old new
line_alone old mid new (Ok x) status is same told line = inl is
line_alone old mid new (Err why) status is same told line = inr (record {
  why = why;
  same_status = is;
  line = subst (λ (s : SinkState). PutsLast s.given new.given (line_of why) (Rose s.faults new.faults)) same
      (line (subst (λ (s : SinkState). IsTrue s.tells) (sym same) told));
})

-- where no device failed, a command that stopped has put its line alone
pub line_unless : {O : Type 0} (sink_of : O → SinkState) (old mid : O) (new : SinkState)
    (end : Result (Unit {0}) StopReason) (status : ℕ) → status ≡ status_at end → PutsNone old mid end
    → IsTrue (sink_of old).tells → (IsTrue (sink_of mid).tells
    → PutsLast (sink_of mid).given new.given (line_at end) (Rose (sink_of mid).faults new.faults))
    → (status ≡ DONE) ⊎ (status ≡ DISK_FAILED) ⊎ (status ≡ SINK_FAILED) ⊎ PutsLine status (sink_of old) new
line_unless sink_of old mid new (Ok x) status is none told line = inl is
line_unless {O} sink_of old mid new (Err why) status is none told line = elim none
    as (λ _. (status ≡ DONE) ⊎ (status ≡ DISK_FAILED) ⊎ (status ≡ SINK_FAILED)
    ⊎ PutsLine status (sink_of old) new) [
      | inl disk ↦ inr (inl (is ∙ ap status_of disk))
      | inr rest ↦ elim rest as (λ _. (status ≡ DONE) ⊎ (status ≡ DISK_FAILED) ⊎ (status ≡ SINK_FAILED)
          ⊎ PutsLine status
          (sink_of old) new) [
            | inl sink ↦ inr (inr (inl (is ∙ ap status_of sink)))
            | inr same ↦ inr (inr (inr (record {
              why = why;
              same_status = is;
              line = subst (λ (x : O). PutsLast (sink_of x).given new.given (line_of why)
                  (Rose (sink_of x).faults new.faults)) same
                  (line (subst (λ (x : O). IsTrue (sink_of x).tells) (sym same) told));
            })))
          ]
    ]

-- the causes of an end, by its status, once its line was put
pub causes_by : (old new : State) (out put after : SinkState) (end : Result (Unit {0}) StopReason)
    (status : ℕ) → status ≡ status_at end → HasCausesAt old new out put end → put.faults ≤ after.faults
    → OnOk end (after.faults ≡ put.faults) → after.tells ≡ put.tells
    → HasCauses old new out after (status ≡ DISK_FAILED) (status ≡ SINK_FAILED) (status ≡ DONE)
causes_by old new out put after end status is causes later calm told = record {
  later = causes.later;
  rose = λ seven. causes.rose (disk_by end (sym is ∙ seven));
  calm = λ other. causes.calm
      (λ disk. other (is ∙ ap (λ (e : Result (Unit {0}) StopReason). status_at e) disk));
  sink_later = omega (arith, causes.sink_later, later);
  sink_rose = λ nine. rose_after out.faults put.faults after.faults
      (causes.sink_rose (sink_by end (sym is ∙ nine))) later;
  sink_calm = λ zero. calm_by end calm (sym is ∙ zero) ∙ causes.sink_calm (ok_by end (sym is ∙ zero));
  sink_told = told ∙ causes.sink_told;
}
  where
    rose_after : (a b c : ℕ) → Rose a b → b ≤ c → Rose a c
    rose_after a b c rose low = omega (arith, rose, low)

-- the line alone was put, of an end that is to be
pub ended_by_line : (answer : Result (List ℕ) StopReason → Type 0) (out put after : SinkState)
    (end : Result (Unit {0}) StopReason) (status : ℕ) → status ≡ status_at end → EndsBy answer [] end
    → put ≡ out
    → (IsTrue put.tells → PutsLast put.given after.given (line_at end) (Rose put.faults after.faults))
    → Ends answer status out after
ended_by_line answer out put after end status is by same line = record {
  end = end;
  bytes = [];
  same_status = is;
  by = by;
  puts = λ told. record {
    between = out.given;
    object = (0, omega arith, sym (append-nil out.given));
    whole = λ done. sym (append-nil out.given);
    line = subst (λ (s : SinkState). PutsLast s.given after.given (line_at end) (Rose s.faults after.faults))
        same
        (line (subst (λ (s : SinkState). IsTrue s.tells) (sym same) told));
  };
}
