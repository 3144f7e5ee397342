-- What `work` puts: a summary where all jobs were done, and else its line alone.
use Rattle.std.specs.Prelude.{◌≡◌, ◌⊎◌, ℕ, ◌≤◌, true, false, List, [], ◌++◌, take, Ok, Err, Result, OnErr, OnOk, IsTrue, refl}
use Rattle.std.proofs.Common.{arith, ap, sym, ◌∙◌, subst, inl, inr, append-nil}
use Rattle.std.proofs.lemmas.Bool.{false≢true}
use Rattle.std.proofs.lemmas.List.{nil_from_length, length-take-le}
use Rattle.disk_face.specs.Counts.{Rose}
use Rattle.disk_face.specs.States.{State}
use Rattle.disk_face.specs.Streams.{Puts, SinkState}
use Rattle.work_maker.proofs.ListLaws.{how_many}
use Rattle.command_face.specs.declared.status.TheConstants.{DISK_FAILED, DONE, NO_MEMORY, NO_STORE, SINK_FAILED}
use Rattle.work_command.specs.Steps.{OpenWorkSteps, WorkSteps, IsAllDone}
use Rattle.work_command.specs.Asked.{NumberedJobs}
use Rattle.command_face.specs.Faults.{line_of}
use Rattle.command_face.specs.Refusing.{stop_of}
use Rattle.command_face.specs.Outcomes.{IsFront, PutsLast, PutsLine, line_at, status_at, status_of}
use Rattle.work_command.specs.Working.{KeepsWork, PutsSummary, has_worked}
use Rattle.command_face.specs.declared.stop.StopReason.{StopReason}
use Rattle.command_face.specs.declared.stop.StopReason.TheVariants as stop
use Rattle.command_face.proofs.StatusLaws.{calm_by, Puts-front}
use Rattle.command_face.proofs.UnopenedLaws.{status_unopened}
use Rattle.disk_face.specs.Devices.{devices}

-- after a summary no line is put
pub no_line : (put after : SinkState) (failed : Type 0) → PutsLast put.given after.given [] failed
    → after.given ≡ put.given
no_line put after failed line = line.front.2
    ∙ ap (λ (xs : List ℕ). put.given ++ xs)
    (nil_from_length (take line.front.0 [])
    (omega (arith, length-take-le {A = ℕ} line.front.0 [] line.front.1, line.front.1)))
    ∙ append-nil put.given

-- a front of a text was put, and no line after it
text_put : (out put after : SinkState) (text : List ℕ) (e : Result (Unit {0}) StopReason) (failed : Type 0)
    → Puts out.given put.given text e → after.given ≡ put.given
    → (after.given ≡ out.given ++ text) ⊎ failed → PutsLast out.given after.given text failed
text_put out put after text e failed puts same whole = record {
  front = subst (λ (xs : List ℕ). IsFront out.given xs text) (sym same)
      (Puts-front out.given put.given text e puts);
  whole = whole;
}

module _ {D : Type 0} (disk_of : D → State) (asked : NumberedJobs) (z : State) (out put after : SinkState)
    (end : Result (Unit {0}) StopReason) (line : IsTrue put.tells
    → PutsLast put.given after.given (line_at end) (Rose put.faults after.faults)) where
  -- where all jobs were done a summary is put, or a front of it
  pub summary_put : {first : State}
      (x : IsAllDone disk_of asked (devices first out) (devices z put)
      end)
      → IsTrue out.tells
      → PutsLast out.given after.given x.text (status_at end ≡ SINK_FAILED)
  summary_put x told = by end x.only (x.puts told) (line (x.told ∙ told))
    where
      text : List ℕ
      text = x.text

      by : (e : Result (Unit {0}) StopReason) → OnErr e (e ≡ Err stop.Sink) → Puts out.given put.given text e
          → PutsLast put.given after.given (line_at e) (Rose put.faults after.faults)
          → PutsLast out.given after.given text (status_at e ≡ SINK_FAILED)
      by (Ok y) only puts ends =
          let same = no_line put after (Rose put.faults after.faults) ends in
          text_put out put after text (Ok y) (DONE ≡ SINK_FAILED) puts same (inl (same ∙ puts.all))
      by (Err why) only puts ends =
          let none = subst (λ (e : Result (Unit {0}) StopReason).
          PutsLast put.given after.given (line_at e) (Rose put.faults after.faults)) only ends in
          text_put out put after text (Err why) (status_of why ≡ SINK_FAILED) puts
          (no_line put after (Rose put.faults after.faults) none)
          (inr (ap (λ (e : Result (Unit {0}) StopReason). status_at e) only))

  -- the jobs of a command that ends so weren't all done
  unworked : {A : Type 0} (e : Result (Unit {0}) StopReason) → end ≡ e → has_worked (status_at e) ≡ false
      → IsTrue (has_worked (status_at end)) → A
  unworked e is none worked =
      absurd (false≢true (sym none
      ∙ ap (λ (x : Result (Unit {0}) StopReason). has_worked (status_at x)) (sym is)
      ∙ worked))

  unworked_refusal : (n : ℕ) → (n ≡ NO_STORE) ⊎ (n ≡ DISK_FAILED) ⊎ (n ≡ NO_MEMORY) → has_worked n ≡ false
  unworked_refusal n (inl four) = ap has_worked four
  unworked_refusal n (inr (inl seven)) = ap has_worked seven
  unworked_refusal n (inr (inr ten)) = ap has_worked ten

  -- what the summary says on any disk
  pub summary_of : {file : List ℕ} {old : State}
      → WorkSteps disk_of file asked (devices old out)
      (devices z put) end
      → IsTrue (has_worked (status_at end)) → PutsSummary asked.count asked.entries (status_at end) out after
  summary_of (inl (is, same)) worked = elim is.which
      as (λ _. PutsSummary asked.count asked.entries (status_at end) out after) [
        | inl failed ↦ unworked (Err stop.Disk) failed.0 refl worked
        | inr gone ↦ unworked (Err stop.NoFile) gone.0 refl worked
      ]
  summary_of (inr x) worked = by x.steps
    where
      by : OpenWorkSteps disk_of asked (devices (disk_of x.first) out)
          (devices z put) end
          → PutsSummary asked.count asked.entries (status_at end) out after
      by (inl (inl is, same)) = unworked (Err (stop_of is.fault)) is.ended
          (unworked_refusal (status_of (stop_of is.fault)) (status_unopened is.fault)) worked
      by (inl (inr (inl is), same)) = unworked (Err stop.NoMemory) is.ended refl worked
      by (inl (inr (inr is), same)) = unworked (Err stop.Disk) is.ended refl worked
      by (inr is) = record {
        summary = is.summary;
        sums = record {
          requests = is.done.requests ∙ how_many is.store.in_use.block.names 1 asked.count _;
          few = is.done.few;
          moved_row = is.done.new.moved;
          asked_row = is.done.new.asked;
          lines = is.done.lines;
          same = is.done.same;
        };
        text = is.text;
        tells = is.tells_on;
        puts = summary_put is;
      }

-- a line is put, and nothing else
pub line_only : (out put after : SinkState) (end : Result (Unit {0}) StopReason)
    → has_worked (status_at end) ≡ false
    → put ≡ out → IsTrue out.tells
    → (IsTrue put.tells → PutsLast put.given after.given (line_at end) (Rose put.faults after.faults))
    → PutsLine (status_at end) out after
line_only out put after (Ok x) none same told line = absurd (let e : true ≡ false = none in cc)
line_only out put after (Err why) none same told line = record {
  why = why;
  same_status = refl;
  line = subst (λ (s : SinkState). PutsLast s.given after.given (line_of why) (Rose s.faults after.faults))
      same
      (line (subst (λ (s : SinkState). IsTrue s.tells) (sym same) told));
}

-- what is kept once the line was put
pub keeps_line : (old z : State) (out put after : SinkState) (end : Result (Unit {0}) StopReason)
    → KeepsWork (devices old out) (devices z put) (status_at end) → put.faults ≤ after.faults
    → OnOk end (after.faults ≡ put.faults)
    → after.tells ≡ put.tells → KeepsWork (devices old out) (devices z after) (status_at end)
keeps_line old z out put after end keeps later calm told = record {
  later = keeps.later;
  rose = keeps.rose;
  no_turn_back = keeps.no_turn_back;
  told = keeps.told;
  images_told = keeps.images_told;
  sink_later = omega (arith, keeps.sink_later, later);
  sink_rose = λ n. rose_after out.faults put.faults after.faults (keeps.sink_rose n) later;
  sink_calm = λ n. calm_by end calm n ∙ keeps.sink_calm n;
  sink_told = told ∙ keeps.sink_told;
}
  where
    rose_after : (a b c : ℕ) → Rose a b → b ≤ c → Rose a c
    rose_after a b c rose low = omega (arith, rose, low)
