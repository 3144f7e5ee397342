-- The headline of `work` in each way that the command may go.
use Rattle.std.specs.Prelude.{◌≡◌, ℕ, ◌≤◌, List, length, Ok, Err, Result, OnErr, IsTrue, refl}
use Rattle.std.proofs.Common.{arith, sym, ◌∙◌, subst, inl, inr}
use Rattle.disk_face.specs.Counts.{Rose}
use Rattle.disk_face.specs.States.{IsLawful, State}
use Rattle.disk_face.specs.Frames.{AfterMount, Unchanged}
use Rattle.disk_face.specs.Moments.{Leaves}
use Rattle.disk_face.specs.Streams.{SinkState}
use Rattle.size_class.specs.declared.TheConstants.{CLASSES, SIZE_MAX}
use Rattle.slot_codec.specs.Choice as choice
use Rattle.slot_codec.specs.declared.codec.SuperBlock.{SuperBlock}
use Rattle.slot_pair.specs.declared.find.SlotFault.TheVariants as slot
use Rattle.map_model.specs.Maps.{Map}
use Rattle.segment_layout.specs.Books.{Book}
use Rattle.table_rules.specs.Opening.{OpensBy}
use Rattle.store_model.specs.Connection.{StoreValue}
use Rattle.store_model.specs.Opened.{IsFoundImage, IsOpening, LeavesRoom, RestsOnFound, SameOnFound}
use Rattle.reopen.specs.declared.fault.OpenFault.{OpenFault}
use Rattle.reopen.specs.declared.fault.OpenFault.TheVariants as opening
use Rattle.command_face.specs.declared.status.TheConstants.{SINK_FAILED}
use Rattle.work_command.specs.Steps.{OpenWorkSteps, WorkSteps, IsAllDone, IsNotBegun, IsRefusal, IsStoppedInJob}
use Rattle.work_command.specs.Asked.{NumberedJobs}
use Rattle.command_face.specs.Refusing.{stop_of}
use Rattle.served_file.specs.Served.{found_with}
use Rattle.command_face.specs.Outcomes.{PutsLast, line_at, status_at, status_of}
use Rattle.work_command.specs.Working.{JobsHold}
use Rattle.command_face.specs.declared.stop.StopReason.{StopReason}
use Rattle.command_face.specs.declared.stop.StopReason.TheVariants as stop
use Rattle.work_command.proofs.SummaryLaws.{summary_put}
use Rattle.served_file.proofs.FoundLaws.{found_start, found_starts, next_found}
use Rattle.served_file.proofs.RefusedLaws.{WhyUnopened, why_refused}
use Rattle.served_file.proofs.RefusedLaws.WhyUnopened.{disk, memory}
use Rattle.served_file.proofs.OpeningLaws.{Opened, left_first, left_opening, opened_by, opens_first, rests_first, told_first}
use Rattle.disk_face.specs.Devices.{devices}
use Rattle.work_command.proofs.WorkLaws.{all_done, in_a_job, none_begun, none_done}

module _ (t : choice.SlotTable) (m : Map) (b : Book) (old : State) (lawful : IsLawful old)
    (told : IsTrue old.tells)
    (o : OpensBy CLASSES SIZE_MAX t old.file m b)
    {D : Type 0} (disk_of : D → State) (asked : NumberedJobs) (z : State) (out put after : SinkState) where
  abbrev Works : ℕ → Type 0
  Works n = JobsHold (found_with t.chosen.block t m b) asked n (devices old out) (devices z after)

  -- the line of an end is put behind what was put
  abbrev PutsEnd : Result (Unit {0}) StopReason → Type 0
  PutsEnd end = IsTrue put.tells → PutsLast put.given after.given (line_at end) (Rose put.faults after.faults)

  -- ---- the file wasn't opened

  failed_before : old.turn ≤ z.turn
      → (LeavesRoom t → RestsOnFound t old → Leaves old z (IsFoundImage CLASSES t m b (length old.file)))
      → Rose old.faults z.faults → Works 7
  failed_before later left rose = none_begun t m b old lawful o asked out after t.chosen.block
      (found_start t m b) (found_starts t m b) later left 7 refl refl
      (λ calm. absurd (omega (arith, rose, calm.same, calm.below)))

  absent : AfterMount old z → Works 3
  absent mount = none_begun t m b old lawful o asked out after t.chosen.block (found_start t m b)
      (found_starts t m b) mount.time.later (λ room. left_first t m b old z mount told o) 3 refl refl
      (λ calm. next_found t m b old z o (mount.same_file told) (rests_first t m b old z mount told o))

  module _ (first : State) (mount : AfterMount old first) (calm_mount : first.faults ≡ old.faults) where
    unopened_by : (why : OpenFault) → WhyUnopened why → IsOpening CLASSES first z (Err why)
        → Works (status_of (stop_of why))
    unopened_by (opening.Slot slot.Disk) disk is = failed_before
        (omega (arith, mount.same_turn, is.frame.no_turn_back))
        (left_opening t m b old first mount told o z (Err (opening.Slot slot.Disk)) is)
        (omega (arith, calm_mount, is.cause.rose refl))
    unopened_by opening.NoMemory memory is =
        let same : Unchanged first z = is.unchanged in
        let file : z.file ≡ old.file = same.same_file (told_first t m b old first mount told o)
        ∙ mount.same_file told in
        none_begun t m b old lawful o asked out after t.chosen.block (found_start t m b)
        (found_starts t m b) (omega (arith, mount.same_turn, same.same_turn))
        (left_opening t m b old first mount told o z (Err opening.NoMemory) is) 10 refl refl
        (λ calm. next_found t m b old z o file (λ rests image left.
        subst (λ (f : List ℕ). SameOnFound t f image) (sym file) (rests image (mount.images image
        (same.images image left)))))
    unopened_by (opening.Slot slot.Short) none is = elim none [ ]
    unopened_by (opening.Slot slot.Unformatted) none is = elim none [ ]
    unopened_by (opening.Slot slot.NoGate) none is = elim none [ ]
    unopened_by (opening.Slot slot.SameSequence) none is = elim none [ ]
    unopened_by (opening.Slot (slot.Codec f at)) none is = elim none [ ]
    unopened_by (opening.Table broken) none is = elim none [ ]

    module _ (end : Result (Unit {0}) StopReason) where
      -- the status of this end
      carried : (e : Result (Unit {0}) StopReason) → end ≡ e → Works (status_at e) → Works (status_at end)
      carried e is works = subst (λ (x : Result (Unit {0}) StopReason). Works (status_at x)) (sym is) works

      -- the superblock of the store is that of the table found
      over_block : {mid : State} {s : StoreValue} (n : ℕ) → Opened t m b old mid s
          → JobsHold (found_with s.in_use.block t m b) asked n (devices old out) (devices z after) →
          Works n
      over_block n op works = subst (λ (u : SuperBlock). JobsHold (found_with u t m b) asked n
          (devices old out) (devices z after))
          op.block works

      refusal : IsRefusal first z end → Works (status_at end)
      refusal x = carried (Err (stop_of x.fault)) x.ended
          (unopened_by x.fault (why_refused t m b first.file x.fault
          (opens_first t m b old first mount told o)
          (x.opening.refused (told_first t m b old first mount told o))) x.opening)

      not_begun : IsNotBegun first z end → Works (status_at end)
      not_begun x =
          let op : Opened t m b old z x.store =
          opened_by t m b old first mount told o z x.store calm_mount x.opening in
          carried (Err stop.NoMemory) x.ended (over_block 10 op
          (none_done t m b old lawful o asked out after op 10 refl refl))

      in_job : IsStoppedInJob disk_of asked first z end → Works (status_at end)
      in_job x =
          let op : Opened t m b old (disk_of x.mid) x.store =
          opened_by t m b old first mount told o (disk_of x.mid) x.store calm_mount x.opening in
          carried (Err stop.Disk) x.ended (over_block 7 op
          (in_a_job t m b old lawful o asked out after op x.stopped))

      -- ---- all jobs were done

      summed : IsAllDone disk_of asked (devices first out) (devices z put) end
          → PutsEnd end → Works
          (status_at end)
      summed x line = by end refl x.only
        where
          op : Opened t m b old (disk_of x.mid) x.store
          op = opened_by t m b old first mount told o (disk_of x.mid) x.store calm_mount x.opening

          puts : (e : Result (Unit {0}) StopReason) → end ≡ e → IsTrue out.tells
              → PutsLast out.given after.given x.text (status_at e ≡ SINK_FAILED)
          puts e is = subst (λ (e : Result (Unit {0}) StopReason). IsTrue out.tells
              → PutsLast out.given after.given x.text (status_at e ≡ SINK_FAILED)) is
              (summary_put disk_of asked z out put after end line x)

          by : (e : Result (Unit {0}) StopReason) → end ≡ e → OnErr e (e ≡ Err stop.Sink)
              → Works (status_at end)
          by (Ok y) is only = carried (Ok y) is (over_block 0 op
              (all_done t m b old lawful o asked out after op x.summary x.done 0 refl refl
              (λ n. omega (arith, n)) (λ n. omega (arith, n)) x.text (x.tells op.told) (puts (Ok y) is)))
          by (Err why) is only = carried (Err stop.Sink) (is ∙ only) (over_block 9 op
              (all_done t m b old lawful o asked out after op x.summary x.done 9 refl refl
              (λ n. omega (arith, n)) (λ n. omega (arith, n)) x.text (x.tells op.told)
              (puts (Err stop.Sink) (is ∙ only))))

  -- ---- all of them

  pub works : (file : List ℕ) (end : Result (Unit {0}) StopReason)
      → WorkSteps disk_of file asked (devices old out) (devices z put) end
      → PutsEnd end
      → Works (status_at end)
  works c end (inl (is, same)) line = elim is.which as (λ _. Works (status_at end)) [
    | inl failed ↦ subst (λ (x : Result (Unit {0}) StopReason). Works (status_at x)) (sym failed.0)
        (failed_before is.mount.time.later (λ room. left_first t m b old z is.mount told o) failed.2)
    | inr gone ↦ subst (λ (x : Result (Unit {0}) StopReason). Works (status_at x)) (sym gone.0)
        (absent is.mount)
  ]
  works c end (inr x) line = by x.steps
    where
      by : OpenWorkSteps disk_of asked (devices (disk_of x.first) out)
          (devices z put) end → Works (status_at end)
      by (inl (inl is, same)) = refusal (disk_of x.first) x.mount x.calm end is
      by (inl (inr (inl is), same)) = not_begun (disk_of x.first) x.mount x.calm end is
      by (inl (inr (inr is), same)) = in_job (disk_of x.first) x.mount x.calm end is
      by (inr is) = summed (disk_of x.first) x.mount x.calm end is line
