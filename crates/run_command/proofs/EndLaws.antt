-- What the fault line adds to what a session left.
use Rattle.std.specs.Prelude.{◌≡◌, ℕ, ◌≤◌, List, [], Result, Ok, Err, IsTrue, OnOk}
use Rattle.std.proofs.Common.{arith, sym, ◌∙◌, subst, inl, inr, append-nil}
use Rattle.disk_face.specs.Counts.{Rose}
use Rattle.disk_face.specs.Streams.{SinkState}
use Rattle.ask_session.specs.Outside.{Outside, served_devices}
use Rattle.command_face.specs.Outcomes.{Ends, EndsBy, PutsLast, PutsLine, line_at, status_at}
use Rattle.run_command.specs.Sessions.{IsUnserved, KeepsRun}
use Rattle.command_face.specs.declared.stop.StopReason.{StopReason}
use Rattle.command_face.proofs.StatusLaws.{later_rose, calm_by}
use Rattle.disk_face.specs.Devices.{devices}

module _ (before now : Outside) (after : SinkState) (end : Result (Unit {0}) StopReason)
    (status : ℕ) (is : status ≡ status_at end)
    (keeps : KeepsRun (served_devices before) (served_devices now) before.source now.source (status_at end))
    (line : IsTrue now.sink.tells → PutsLast now.sink.given after.given (line_at end)
    (Rose now.sink.faults after.faults)) where
  pub line_after : IsTrue before.sink.tells
      → PutsLast now.sink.given after.given (line_at end) (Rose before.sink.faults after.faults)
  line_after told = later_rose before.sink.faults now.sink.faults after.faults keeps.sink_later
      (line (subst IsTrue (sym keeps.sink_told) told))

  pub keeps_after : after.tells ≡ now.sink.tells → now.sink.faults ≤ after.faults
      → OnOk end (after.faults ≡ now.sink.faults)
      → KeepsRun (served_devices before) (devices now.disk after) before.source now.source status
  keeps_after told later calm = record {
    later = keeps.later;
    rose = λ n. keeps.rose (sym is ∙ n);
    no_turn_back = keeps.no_turn_back;
    told = keeps.told;
    images_told = keeps.images_told;
    source_later = keeps.source_later;
    source_rose = λ n. keeps.source_rose (sym is ∙ n);
    sink_later = omega (arith, keeps.sink_later, later);
    sink_rose = λ n. rose_after before.sink.faults now.sink.faults after.faults
        (keeps.sink_rose (sym is ∙ n)) later;
    sink_calm = λ n. calm_by end calm (sym is ∙ n) ∙ keeps.sink_calm (sym is ∙ n);
    sink_told = told ∙ keeps.sink_told;
  }
    where
      rose_after : (a b c : ℕ) → Rose a b → b ≤ c → Rose a c
      rose_after a b c rose low = omega (arith, rose, low)

  -- the line alone was put
  module _ (same : now.sink ≡ before.sink) where
    line_only : IsTrue before.sink.tells
        → PutsLast before.sink.given after.given (line_at end) (Rose before.sink.faults after.faults)
    line_only told = subst (λ (x : SinkState). PutsLast x.given after.given (line_at end)
        (Rose before.sink.faults after.faults)) same (line_after told)

    pub ends_after : (answer : Result (List ℕ) StopReason → Type 0) → EndsBy answer [] end
        → Ends answer status before.sink after
    ends_after answer by = record {
      end = end;
      bytes = [];
      same_status = is;
      by = by;
      puts = λ told. record {
        between = before.sink.given;
        object = (0, omega arith, sym (append-nil before.sink.given));
        whole = λ done. sym (append-nil before.sink.given);
        line = line_only told;
      };
    }

    pub only_line : IsUnserved status → IsTrue before.sink.tells → PutsLine status before.sink after
    only_line unserved told = by end is (line_only told)
      where
        by : (e : Result (Unit {0}) StopReason) → status ≡ status_at e
            → PutsLast before.sink.given after.given (line_at e) (Rose before.sink.faults after.faults)
            → PutsLine status before.sink after
        by (Ok x) zero puts = absurd (elim unserved as (λ _. ⊥) [
          | inl n ↦ omega (arith, n, zero)
          | inr rest ↦ elim rest as (λ _. ⊥) [
            | inl n ↦ omega (arith, n, zero)
            | inr n ↦ omega
                (arith, n, zero)
          ]
        ])
        by (Err why) same_status puts = record { why = why; same_status = same_status; line = puts }
