-- What a load promises once the line of its end was put, and what it does whatever is told.
use Rattle.std.specs.Prelude.{◌≡◌, ◌≢◌, ◌⊎◌, ◌≤◌, ℕ, zero, suc, true, List, [], length, Result, Ok, Err, IsOk, IsTrue, OnOk, refl}
use Rattle.std.proofs.Common.{arith, ap, sym, ◌∙◌, subst, inl, inr, append-nil}
use Rattle.std.specs.FinMap as fin
use Rattle.disk_face.specs.Counts.{IsCalm, Rose}
use Rattle.disk_face.specs.Devices.{devices}
use Rattle.disk_face.specs.States.{State}
use Rattle.disk_face.specs.Streams.{Puts, SinkState, SourceState}
use Rattle.size_class.specs.declared.TheConstants.{CLASSES, SIZE_MAX}
use Rattle.map_model.specs.Maps.{Map}
use Rattle.dump_stream.specs.Dumps.{IsDumpOf}
use Rattle.load_stream.specs.declared.fault.LoadFault.{LoadFault}
use Rattle.load_stream.specs.declared.fault.LoadFault.TheVariants as why
use Rattle.load_stream.proofs.AnswerLaws.{dump_loads}
use Rattle.command_face.specs.Outcomes.{PutsLast, PutsLine, PutsOut, line_at, status_at}
use Rattle.command_face.specs.declared.status.TheConstants.{DONE, NOT_EMPTY, NO_MEMORY, SINK_FAILED, SOURCE_FAILED, TOO_MANY_NAMES}
use Rattle.command_face.specs.declared.stop.StopReason.{StopReason}
use Rattle.command_face.specs.declared.stop.StopReason.TheVariants as stop
use Rattle.command_face.proofs.EndedLaws.{causes_by, line_alone, whole_of}
use Rattle.command_face.proofs.StatusEnds.{memory_by}
use Rattle.command_face.proofs.StatusLaws.{Puts-front, later_rose}
use Rattle.load_command.specs.Doing.{EndsAsLoad, IsLoading}
use Rattle.load_command.specs.Ends.{IsBegunAt, IsJudged, LeavesAsItWas, PutsBefore, reply_of}
use Rattle.load_command.specs.Loading.{LoadAlways, LoadPromise, LoadReads, is_loading}

abbrev End : Type 0
End = Result (Unit {0}) StopReason

-- ---- which ends a status comes of

taken_by : (end : End) → status_at end ≡ NOT_EMPTY → (n : ℕ) × (end ≡ Err (stop.Taken n))
taken_by (Err (stop.Taken n)) is = (n, refl)
taken_by _ is = absurd (omega (arith, is))

many_by : (end : End) → status_at end ≡ TOO_MANY_NAMES → (n : ℕ) × (end ≡ Err (stop.TooManyNames n))
many_by (Err (stop.TooManyNames n)) is = (n, refl)
many_by _ is = absurd (omega (arith, is))

source_by : (end : End) → status_at end ≡ SOURCE_FAILED → end ≡ Err stop.Source
source_by (Err stop.Source) is = refl
source_by _ is = absurd (omega (arith, is))

known_of : (end : End) → EndsAsLoad end → is_loading (status_at end) ≡ true
known_of (Ok done) only = refl
known_of (Err (stop.Taken n)) only = refl
known_of (Err (stop.Line n)) only = refl
known_of (Err (stop.TooManyNames n)) only = refl
known_of (Err stop.NoMemory) only = refl
known_of (Err stop.Disk) only = refl
known_of (Err stop.Source) only = refl
known_of (Err stop.Sink) only = refl
known_of _ only = absurd only

as_it_was : (end : End)
    → (status_at end ≡ NOT_EMPTY) ⊎ (status_at end ≡ NO_MEMORY) ⊎ (status_at end ≡ TOO_MANY_NAMES)
    → LeavesAsItWas end
as_it_was end (inl is) = subst LeavesAsItWas (sym (taken_by end is).1) tt
as_it_was end (inr (inl is)) = subst LeavesAsItWas (sym (memory_by end is)) tt
as_it_was end (inr (inr is)) = subst LeavesAsItWas (sym (many_by end is).1) tt

-- ---- what was put

-- a front of no bytes
nothing_more : (o p : SinkState) (reason : StopReason) → p ≡ o
    → Puts {T = Unit {0}} o.given p.given [] (Err reason)
nothing_more o p reason same = record {
  all = tt;
  front = (0, omega arith, ap (λ (s : SinkState). s.given) same ∙ sym (append-nil o.given));
}

puts_whole : (o p : SinkState) (end : End) → PutsBefore o p end → Puts o.given p.given (reply_of end) end
puts_whole o p (Ok tt) puts = puts
puts_whole o p (Err stop.Sink) puts = puts
puts_whole o p (Err reason) same = nothing_more o p reason same

put_or_not : (o p : SinkState) (end : End) → PutsBefore o p end
    → (status_at end ≡ DONE) ⊎ (status_at end ≡ SINK_FAILED) ⊎ (p ≡ o)
put_or_not o p (Ok tt) puts = inl refl
put_or_not o p (Err stop.Sink) puts = inr (inl refl)
put_or_not o p (Err reason) same = inr (inr same)

-- ---- where a dump is due

-- a refusal is no Ok
refused : (f : LoadFault) → IsOk {T = Unit {0}} (Err f) → ⊥
refused f ok = absurd (cc)

-- a dump for which there is room ends so, unless a device failed
due_of : (names size : ℕ) (input : List ℕ) (m : Map) (end : End) → EndsAsLoad end → IsBegunAt size end
    → IsJudged names input end → size ≡ 0 → IsDumpOf CLASSES SIZE_MAX m input → fin.len m ≤ names
    → end ≢ Err stop.Disk → end ≢ Err stop.Source → end ≢ Err stop.Sink
    → (status_at end ≡ DONE) ⊎ (status_at end ≡ NO_MEMORY)
due_of names size input m (Ok done) only begun judged none dump few disk source sink = inl refl
due_of names size input m (Err stop.NoMemory) only begun judged none dump few disk source sink = inr refl
due_of names size input m (Err (stop.Taken n)) only begun judged none dump few disk source sink =
    absurd (omega (arith, begun.1, none))
due_of names size input m (Err (stop.Line zero)) only begun judged none dump few disk source sink =
    absurd (refused (why.Line zero) (dump_loads names input m (Err (why.Line zero)) tt dump few judged))
due_of names size input m (Err (stop.Line (suc n))) only begun judged none dump few disk source sink =
    absurd (refused (why.Line (suc n)) (dump_loads names input m (Err (why.Line (suc n))) tt dump few judged))
due_of names size input m (Err (stop.TooManyNames n)) only begun judged none dump few disk source sink =
    absurd (refused (why.TooMany n) (dump_loads names input m (Err (why.TooMany n)) tt dump few judged))
due_of names size input m (Err stop.Disk) only begun judged none dump few disk source sink =
    absurd (disk refl)
due_of names size input m (Err stop.Source) only begun judged none dump few disk source sink =
    absurd (source refl)
due_of names size input m (Err stop.Sink) only begun judged none dump few disk source sink =
    absurd (sink refl)
due_of names size input m _ only begun judged none dump few disk source sink = absurd only

-- a count that stayed didn't rise
calm_rose : (a b : ℕ) → IsCalm a b → Rose a b → ⊥
calm_rose a b calm rose = omega (arith, calm.same, calm.below, rose)

-- ---- the whole

module _ (k names : ℕ) (old new : State) (out put after : SinkState) (from rest : SourceState) (S : Type 0)
    (end : End) (is : IsLoading k names (devices old out) (devices new put) from rest S end) (status : ℕ)
    (same : status ≡ status_at end)
    (line : IsTrue put.tells
    → PutsLast put.given after.given (line_at end) (Rose put.faults after.faults))
    (later : put.faults ≤ after.faults) (calm : OnOk end (after.faults ≡ put.faults))
    (told : after.tells ≡ put.tells) where
  heard : IsTrue out.tells → IsTrue put.tells
  heard t = subst IsTrue (sym is.causes.sink_told) t

  puts_out : IsTrue out.tells
      → PutsOut (reply_of end) end out.given after.given (Rose out.faults after.faults)
  puts_out t =
      let puts = puts_whole out put end (is.puts t) in
      record {
        between = put.given;
        object = Puts-front out.given put.given (reply_of end) end puts;
        whole = whole_of out.given put.given (reply_of end) end puts;
        line = later_rose out.faults put.faults after.faults is.causes.sink_later (line (heard t));
      }

  -- no device failed
  due_where : IsTrue old.tells → IsTrue from.tells → length old.file ≡ 0 → (m : Map)
      → IsDumpOf CLASSES SIZE_MAX m from.left → fin.len m ≤ names → IsCalm old.faults new.faults
      → IsCalm from.faults rest.faults → IsCalm out.faults after.faults
      → (status ≡ DONE) ⊎ (status ≡ NO_MEMORY)
  due_where t u none m dump few disk source sink =
      subst (λ (n : ℕ). (n ≡ DONE) ⊎ (n ≡ NO_MEMORY)) (sym same)
      (due_of names (length old.file) from.left m end is.only (is.begun t) (is.judged u) none dump few
      (λ e. calm_rose old.faults new.faults disk (is.causes.rose e))
      (λ e. calm_rose from.faults rest.faults source (is.source.rose e))
      (λ e. omega (arith, sink.same, sink.below, is.causes.sink_rose e, later)))

  pub load_promise : LoadPromise k names status (devices old out) (devices new after) from rest
  load_promise = record {
    end = end;
    same_status = same;
    begun = is.begun;
    judged = is.judged;
    puts = puts_out;
    untouched = is.untouched;
    file = is.file;
    past = is.past;
    crash = is.crash;
    loaded = is.loaded;
    due = due_where;
  }

  pub load_always : LoadAlways status (devices old out) (devices new after)
  load_always = record {
    known = subst (λ (n : ℕ). is_loading n ≡ true) (sym same) (known_of end is.only);
    causes = causes_by old new out put after end status same is.causes later calm told;
    no_turn_back = is.no_turn_back;
    told = is.told;
    images_told = is.images_told;
    untouched = λ which. is.untouched (as_it_was end
        (subst (λ (n : ℕ). (n ≡ NOT_EMPTY) ⊎ (n ≡ NO_MEMORY) ⊎ (n ≡ TOO_MANY_NAMES)) same which));
    line_alone = λ t. elim (put_or_not out put end (is.puts t))
        as (λ _. (status ≡ DONE) ⊎ (status ≡ SINK_FAILED) ⊎ PutsLine status out after) [
          | inl done ↦ inl (same ∙ done)
          | inr rest ↦ elim rest
              as (λ _. (status ≡ DONE) ⊎ (status ≡ SINK_FAILED) ⊎ PutsLine status out after) [
                | inl sink ↦ inr (inl (same ∙ sink))
                | inr nothing ↦ elim (line_alone out put after end status same nothing t line)
                    as (λ _. (status ≡ DONE) ⊎ (status ≡ SINK_FAILED) ⊎ PutsLine status out after) [
                      | inl done ↦ inl done
                      | inr one ↦ inr (inr one)
                    ]
              ]
        ];
  }

  pub load_reads : LoadReads status from rest S
  load_reads = record {
    later = is.source.later;
    rose = λ eight. is.source.rose (source_by end (sym same ∙ eight));
    calm = λ other. is.source.calm (λ e. other (same ∙ ap (λ (x : End). status_at x) e));
    told = is.source_told;
    unread = λ five. let taken = taken_by end (sym same ∙ five) in is.unread taken.0 taken.1;
  }
