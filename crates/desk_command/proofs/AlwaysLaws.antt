-- What `desk` does whatever its file and its devices tell.
use Rattle.std.specs.Prelude.{◌≡◌, ◌≢◌, ◌⊎◌, ◌≤◌, ℕ, true, List, Result, Ok, Err, IsTrue, OnOk, refl}
use Rattle.std.proofs.Common.{arith, ap, sym, ◌∙◌, subst, inl, inr}
use Rattle.disk_face.specs.Counts.{Rose}
use Rattle.disk_face.specs.Devices.{devices}
use Rattle.disk_face.specs.States.{State}
use Rattle.disk_face.specs.Streams.{SinkState, SourceState}
use Rattle.command_face.specs.Outcomes.{PutsLast, PutsLine, line_at, status_at}
use Rattle.command_face.specs.declared.status.TheConstants.{NO_STORE}
use Rattle.command_face.specs.declared.stop.StopReason.{StopReason}
use Rattle.command_face.specs.declared.stop.StopReason.TheVariants as stop
use Rattle.command_face.proofs.EndedLaws.{line_alone}
use Rattle.served_file.specs.Steps.{FileSteps}
use Rattle.served_file.proofs.AlwaysLaws.{known_stopped, serves_always, source_by}
use Rattle.served_file.proofs.StepsLaws.{Whole, stopped_or_done, whole}
use Rattle.desk_command.specs.Desking.{ComesToNone, DeskAlways, DeskReads, KeepsSource, is_desking}
use Rattle.desk_command.specs.Doing.{IsDesking}
use Rattle.desk_command.proofs.DoneLaws.{keeps_done, status_for}

module _ {D : Type 0} (disk_of : D → State) (file : List ℕ) (from rest : SourceState) (old z : State)
    (out put after : SinkState) (end : Result (Unit {0}) StopReason)
    (steps : FileSteps disk_of file (IsDesking from rest) (devices old out) (devices z put) end)
  where
    pub desk_whole : Whole file (devices old out) (devices z put) end
    desk_whole = whole disk_of file (IsDesking from rest) (devices old out) (devices z put) end
        (λ s a b. keeps_done from rest s a b end) steps

    abbrev Known : Type 0
    Known = (is_desking (status_at end) ≡ true) ⊎ (status_at end ≡ NO_STORE)

    -- it came to its input, or nothing was put
    abbrev CameOrNot : Type 0
    CameOrNot = (ComesToNone (status_at end) → ⊥) ⊎ (put ≡ out)

    both : Known × CameOrNot
    both = elim (stopped_or_done disk_of file (IsDesking from rest) (devices old out) (devices z put) end
        steps) as (λ _. Known × CameOrNot) [
          | inl is ↦ (known_stopped is_desking refl refl refl (status_at end) is.status, inr is.nothing)
          | inr is ↦ elim is.done as (λ _. Known × CameOrNot) [
            | inl none ↦ (
              inl (ap (λ (e : Result (Unit {0}) StopReason). is_desking (status_at e)) none.ended),
              inr none.nothing,
            )
            | inr desk ↦ (
              inl (ap (λ (e : Result (Unit {0}) StopReason). is_desking (status_at e)) desk.ended
                  ∙ (status_for desk.why desk.n).known),
              inl (subst (λ (e : Result (Unit {0}) StopReason). ComesToNone (status_at e) → ⊥)
                  (sym desk.ended) (status_for desk.why desk.n).comes),
            )
          ]
        ]

    module _ (status : ℕ) (is : status ≡ status_at end)
        (line : IsTrue put.tells
        → PutsLast put.given after.given (line_at end) (Rose put.faults after.faults))
        (later : put.faults ≤ after.faults) (calm : OnOk end (after.faults ≡ put.faults))
        (told : after.tells ≡ put.tells) where
      alone : IsTrue out.tells → ComesToNone status → put ≡ out → PutsLine status out after
      alone tells none same = elim (line_alone out put after end status is same tells line)
          as (λ _. PutsLine status out after) [
            | inl done ↦ absurd (omega (arith, done, none))
            | inr one ↦ one
          ]

      pub desk_always : DeskAlways status (devices old out) (devices z after)
      desk_always = record {
        serves = serves_always file old z out put after end status is line later calm told is_desking both.0
            desk_whole;
        line_alone = λ tells none. elim both.1 as (λ _. PutsLine status out after) [
          | inl came ↦ absurd (came (subst ComesToNone is none))
          | inr same ↦ alone tells none same
        ];
      }

-- ---- the input

-- no call was made of it
pub source_same : (from : SourceState) (same : Type 0) (why : StopReason) → same → why ≢ stop.Source
    → KeepsSource from from same (Err why)
source_same from same why is other = record {
  cause = record {
    later = omega arith;
    rose = λ e. absurd (other (cc));
    calm = λ e. refl;
  };
  told = refl;
  unread = λ none. is;
}

-- the same by the status
pub desk_reads : (from rest : SourceState) (same : Type 0) (end : Result (Unit {0}) StopReason) (status : ℕ)
    → status ≡ status_at end → KeepsSource from rest same end → DeskReads status from rest same
desk_reads from rest same end status is keeps = record {
  later = keeps.cause.later;
  rose = λ eight. keeps.cause.rose (source_by end (sym is ∙ eight));
  calm = λ other. keeps.cause.calm
      (λ e. other (is ∙ ap (λ (x : Result (Unit {0}) StopReason). status_at x) e));
  told = keeps.told;
  unread = λ none. keeps.unread (subst ComesToNone is none);
}
