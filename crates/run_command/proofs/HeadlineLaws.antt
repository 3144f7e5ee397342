-- The headline of the command that serves requests, from how it went.
use Rattle.std.specs.Prelude.{◌≡◌, ℕ, ◌+◌, ◌<◌, ◌≤◌, true, false, List, length, Result, Ok, Err, IsTrue, refl}
use Rattle.std.proofs.Common.{arith, ap, sym, ◌∙◌, subst, inl, inr}
use Rattle.disk_face.specs.Counts.{Rose, counted, last}
use Rattle.disk_face.specs.States.{IsLawful, State}
use Rattle.disk_face.specs.Frames.{AfterMount, Unchanged}
use Rattle.disk_face.specs.Moments.{Leaves, LeftOnly}
use Rattle.disk_face.specs.Mounts.{is_mounted}
use Rattle.disk_face.specs.Streams.{SinkState}
use Rattle.disk_face.specs.declared.bay.Mounted.TheVariants.{Absent}
use Rattle.disk_face.proofs.MomentLaws.{Leaves-call, Leaves-trans, Leaves-weaken}
use Rattle.size_class.specs.declared.TheConstants.{CLASSES, SIZE_MAX}
use Rattle.slot_codec.specs.Choice as choice
use Rattle.slot_codec.specs.declared.codec.SuperBlock.{SuperBlock}
use Rattle.slot_pair.specs.declared.find.SlotFault.TheVariants as slot
use Rattle.map_model.specs.Maps.{Map}
use Rattle.map_model.specs.Requests.{Request}
use Rattle.segment_layout.specs.Books.{Book}
use Rattle.table_rules.specs.Opening.{OpensBy}
use Rattle.store_model.specs.Connection.{StoreValue, state_of}
use Rattle.store_model.specs.Stores.{IsStore}
use Rattle.store_model.specs.States as store
use Rattle.store_model.specs.Opened.{IsFoundImage, IsOpening, LeavesRoom, RestsOnFound, SameOnFound}
use Rattle.store_model.proofs.OpeningLaws.{found_image}
use Rattle.reopen.specs.declared.fault.OpenFault.{OpenFault}
use Rattle.reopen.specs.declared.fault.OpenFault.TheVariants as opening
use Rattle.ask_text.specs.Inputs.{Asks}
use Rattle.ask_session.specs.Outside.{Held, Seen, held}
use Rattle.ask_session.specs.Sittings.{Sitting, new_sitting}
use Rattle.ask_text.specs.Ends.{is_unserved}
use Rattle.ask_session.specs.Turns.{IsUnserved}
use Rattle.ask_text.specs.declared.ends.Turn.TheVariants as turn
use Rattle.ask_session.specs.Runs.{EndsRun, budget}
use Rattle.ask_text.specs.declared.ends.End.{End}
use Rattle.ask_text.specs.declared.ends.End.TheVariants as ends
use Rattle.command_face.specs.declared.status.TheConstants.{DISK_FAILED, DONE, FAULTY_REQUEST, NO_FILE, NO_MEMORY, SOURCE_FAILED, TOO_MANY_REQUESTS}
use Rattle.command_face.specs.Refusing.{stop_of}
use Rattle.served_file.specs.Served.{found_with}
use Rattle.run_command.specs.Headline.{HasMounted, HowFar, RunHolds}
use Rattle.command_face.specs.Mounting.{mounted}
use Rattle.command_face.specs.Outcomes.{PutsLast, line_at, status_at}
use Rattle.run_command.specs.Sessions.{IsUnbegun, IsUnopened, OpenRunSteps, RunSteps, RunsMounted, ended_as, outcome_of, unserved}
use Rattle.command_face.specs.declared.stop.StopReason.{StopReason}
use Rattle.command_face.specs.declared.stop.StopReason.TheVariants as stop
use Rattle.run_command.specs.declared.run.SessionEnd.{SessionEnd}
use Rattle.command_face.specs.declared.outcome.Outcome.{Outcome}
use Rattle.served_file.proofs.OpeningLaws.{Opened, left_first, left_opening, opened_by, opens_first, rests_first, told_first}
use Rattle.served_file.proofs.OverLaws.{next_over}
use Rattle.run_command.proofs.BetweenLaws.{all_answered, input_ended, line_failed, source_failed}
use Rattle.run_command.proofs.FailedLaws.{disk_failed}
use Rattle.run_command.proofs.SinkLaws.{sink_failed}
use Rattle.run_command.proofs.SettledLaws.{settled_still}
use Rattle.run_command.proofs.SoFarLaws.{SoFar}
use Rattle.run_command.proofs.UnservedLaws.{never_true, none_far, unserved_runs}
use Rattle.served_file.proofs.FoundLaws.{found_start, found_starts, next_found}
use Rattle.served_file.proofs.RefusedLaws.{WhyUnopened, why_refused}
use Rattle.served_file.proofs.RefusedLaws.WhyUnopened.{disk, memory}
use Rattle.disk_face.specs.Devices.{devices}
use Rattle.served_file.specs.Ends.{end_of}

-- the numbers of a session, with a status
abbrev counts_of : ℕ → Sitting → Outcome
counts_of status x =
    record { status = status; done = x.done; kept_done = x.kept_done; kept_turn = x.kept_turn }

-- ---- the whole

module _ {D I O : Type 0} (seen : Seen D I O) (lawful : (d : D) → IsLawful (seen.disk d))
    (before now : Held D I O) (after : SinkState)
    (told : IsTrue (seen.disk before.disk).tells) (told_source : IsTrue (seen.source before.source).tells)
    (t : choice.SlotTable) (m : Map) (b : Book) (requests : List Request) (end : List ℕ)
    (o : OpensBy CLASSES SIZE_MAX t (seen.disk before.disk).file m b)
    (asks : Asks (seen.source before.source).left requests end) where
  abbrev old : State
  old = seen.disk before.disk

  abbrev z : State
  z = seen.disk now.disk

  -- the line of an end is put behind what the session put
  abbrev PutsEnd : Result (Unit {0}) StopReason → Type 0
  PutsEnd ending = IsTrue (seen.sink before.sink).tells
      → PutsLast (seen.sink now.sink).given after.given (line_at ending)
      (Rose (seen.sink before.sink).faults after.faults)

  abbrev Runs : Outcome → Type 0
  Runs x = RunHolds (found_with t.chosen.block t m b) requests end x (devices old (seen.sink before.sink))
      (devices z after) (seen.source before.source) (seen.source now.source)

  left_before : old.turn < last → RestsOnFound t old
      → LeftOnly old old.turn (IsFoundImage CLASSES t m b (length old.file))
  left_before below rests image since =
      found_image CLASSES t old.file m b o image (rests image
      ((lawful before.disk).only_now image below since))

  -- ---- no session

  module _ (same_source : now.source ≡ before.source) (same_sink : now.sink ≡ before.sink) where
    line_out : (ending : Result (Unit {0}) StopReason) → PutsEnd ending → IsTrue (seen.sink before.sink).tells
        → PutsLast (seen.sink before.sink).given after.given (line_at ending)
        (Rose (seen.sink before.sink).faults after.faults)
    line_out ending line sink_told = subst (λ (x : O). PutsLast (seen.sink x).given after.given
        (line_at ending) (Rose (seen.sink before.sink).faults after.faults)) same_sink (line sink_told)

    -- the disk failed before a session began
    failed_before : (k : ℕ) → old.turn ≤ z.turn
        → (LeavesRoom t → RestsOnFound t old → Leaves old z (IsFoundImage CLASSES t m b (length old.file)))
        → Rose old.faults z.faults → (HasMounted z → k ≡ z.turn) → PutsEnd (Err stop.Disk)
        → Runs (outcome_of (unserved stop.Disk k))
    failed_before k later left rose since line =
        unserved_runs t.chosen.block (found_start t m b) (found_starts t m b) (lawful now.disk) left_before
        later left
        (λ rests below calm settled opened. absurd (omega (arith, rose, calm.same, calm.below)))
        requests end (seen.source before.source) (seen.source now.source) (seen.sink before.sink) after
        DISK_FAILED k refl refl
        (λ is. omega (arith, is)) since (λ calm has. omega (arith, rose, calm.same, calm.below))
        (λ calm. absurd (omega (arith, rose, calm.same, calm.below)))
        (Err stop.Disk) refl tt (line_out (Err stop.Disk) line)
        (none_far DISK_FAILED requests end (seen.source before.source) (seen.source now.source) refl
        (λ is. omega (arith, is)) (λ is. omega (arith, is)) (λ is. omega (arith, is))
        (λ is. omega (arith, is)) (λ is. absurd (omega (arith, is))))

    -- the file isn't there
    absent : (file : List ℕ) → AfterMount old z → z.last_mount ≡ mounted file false Absent → PutsEnd
        (Err stop.NoFile)
        → Runs (outcome_of (unserved stop.NoFile 0))
    absent c mount is line =
        unserved_runs t.chosen.block (found_start t m b) (found_starts t m b) (lawful now.disk) left_before
        mount.time.later
        (λ room. left_first t m b old z mount told o)
        (λ rests below calm settled opened. settled_still t m b old o (lawful before.disk) mount.same_turn
        (λ rests. Leaves-call old.may_leave mount.time mount.images) rests below settled opened)
        requests end (seen.source before.source) (seen.source now.source) (seen.sink before.sink) after
        NO_FILE 0 refl refl (λ is. omega (arith, is))
        (λ has. absurd (never_true (sym (ap is_mounted is) ∙ has))) (λ calm has. never_true has)
        (λ calm. next_found t m b old z o (mount.same_file told) (rests_first t m b old z mount told o))
        (Err stop.NoFile) refl tt (line_out (Err stop.NoFile) line)
        (none_far NO_FILE requests end (seen.source before.source) (seen.source now.source) refl
        (λ is. omega (arith, is)) (λ is. omega (arith, is)) (λ is. omega (arith, is))
        (λ is. omega (arith, is)) (λ is. absurd (omega (arith, is))))

    no_memory : HowFar NO_MEMORY 0 requests end (seen.source before.source) (seen.source now.source)
    no_memory = none_far NO_MEMORY requests end (seen.source before.source) (seen.source now.source) refl
        (λ is. omega (arith, is))
        (λ is. omega (arith, is)) (λ is. omega (arith, is)) (λ is. omega (arith, is))
        (λ _. ap seen.source same_source)

    module _ (first : State) (mount : AfterMount old first) (calm_mount : first.faults ≡ old.faults) where
      -- nothing was changed for want of memory
      wants_memory : Unchanged first z → PutsEnd (Err stop.NoMemory)
          → Runs (outcome_of (unserved stop.NoMemory z.turn))
      wants_memory same line =
          let file : z.file ≡ old.file = same.same_file (told_first t m b old first mount told o)
          ∙ mount.same_file told in
          let still = λ (rests : RestsOnFound t old).
          Leaves-trans (Leaves-call old.may_leave mount.time mount.images)
          (Leaves-weaken old.may_leave mount.images same.since) in
          unserved_runs t.chosen.block (found_start t m b) (found_starts t m b) (lawful now.disk) left_before
          (omega (arith, same.same_turn, mount.same_turn))
          (λ room rests. Leaves-weaken (IsFoundImage CLASSES t m b (length old.file))
          (λ image may. found_image CLASSES t old.file m b o image (rests image may)) (still rests))
          (λ rests below calm settled opened. settled_still t m b old o (lawful before.disk)
          (same.same_turn ∙ mount.same_turn) still rests below settled opened)
          requests end (seen.source before.source) (seen.source now.source) (seen.sink before.sink) after
          NO_MEMORY z.turn refl refl (λ is. omega (arith, is)) (λ has. refl) (λ calm has. never_true has)
          (λ calm. next_found t m b old z o file (λ rests image left.
          subst (λ (f : List ℕ). SameOnFound t f image) (sym file) (rests image (mount.images image
          (same.images image left)))))
          (Err stop.NoMemory) refl tt (line_out (Err stop.NoMemory) line) no_memory

      unopened_by : (e : SessionEnd) (why : OpenFault) → WhyUnopened why → IsOpening CLASSES first z (Err why)
          → e ≡ unserved (stop_of why) z.turn → PutsEnd e.end → Runs (outcome_of e)
      unopened_by e (opening.Slot slot.Disk) disk is ended line =
          subst (λ (y : SessionEnd). Runs (outcome_of y)) (sym ended) (failed_before z.turn
          (omega (arith, mount.same_turn, is.frame.no_turn_back))
          (left_opening t m b old first mount told o z (Err (opening.Slot slot.Disk)) is)
          (omega (arith, calm_mount, is.cause.rose refl)) (λ has. refl)
          (subst (λ (y : SessionEnd). PutsEnd y.end) ended line))
      unopened_by e opening.NoMemory memory is ended line =
          subst (λ (y : SessionEnd). Runs (outcome_of y)) (sym ended) (wants_memory is.unchanged
          (subst (λ (y : SessionEnd). PutsEnd y.end) ended line))
      unopened_by e (opening.Slot slot.Short) none is ended line = elim none [ ]
      unopened_by e (opening.Slot slot.Unformatted) none is ended line = elim none [ ]
      unopened_by e (opening.Slot slot.NoGate) none is ended line = elim none [ ]
      unopened_by e (opening.Slot slot.SameSequence) none is ended line = elim none [ ]
      unopened_by e (opening.Slot (slot.Codec f at)) none is ended line = elim none [ ]
      unopened_by e (opening.Table broken) none is ended line = elim none [ ]

      unopened : (e : SessionEnd) → IsUnopened first z e → PutsEnd e.end → Runs (outcome_of e)
      unopened e x line = unopened_by e x.fault (why_refused t m b first.file x.fault
          (opens_first t m b old first mount told o)
          (x.opening.refused (told_first t m b old first mount told o))) x.opening x.ended line

      unbegun : (e : SessionEnd) → IsUnbegun first z e → PutsEnd e.end → Runs (outcome_of e)
      unbegun e x line =
          let op : Opened t m b old z x.store =
          opened_by t m b old first mount told o z x.store calm_mount x.opening in
          subst (λ (y : SessionEnd). Runs (outcome_of y)) (sym x.ended)
          (subst (λ (u : SuperBlock). RunHolds (found_with u t m b) requests end
          (outcome_of (unserved stop.NoMemory z.turn)) (devices old (seen.sink before.sink)) (devices z after)
          (seen.source before.source) (seen.source now.source)) op.block
          (unserved_runs x.store.in_use.block (state_of x.store z.file)
          (record { state = op.state; sequence = op.sequence }) (lawful now.disk) left_before op.later op.left
          (λ rests below calm settled opened image since.
          (op.rests rests image ((lawful now.disk).only_now image below
          (subst (λ (k : ℕ). z.left_since k image) (sym (op.turn settled)) since))).same_length
          ∙ op.over.same_length)
          requests end (seen.source before.source) (seen.source now.source) (seen.sink before.sink) after
          NO_MEMORY z.turn refl refl (λ is. omega (arith, is)) (λ has. refl) (λ calm has. never_true has)
          (λ calm. next_over t x.store old z x.store.in_use.sequence op.sound op.over op.block (omega arith)
          op.rests) (Err stop.NoMemory) refl tt (line_out (Err stop.NoMemory)
          (subst (λ (y : SessionEnd). PutsEnd y.end) x.ended line)) no_memory))

  -- ---- a session

  module _ (first : D) (mount : AfterMount old (seen.disk first))
      (calm_mount : (seen.disk first).faults ≡ old.faults)
      (e : SessionEnd) (s : StoreValue) (mid : D) (opens : IsOpening CLASSES (seen.disk first) (seen.disk mid)
      (Ok s))
      (new : Sitting) (line : PutsEnd e.end) where
    op : Opened t m b old (seen.disk mid) s
    op = opened_by t m b old (seen.disk first) mount told o (seen.disk mid) s calm_mount opens

    abbrev s0 : Sitting
    s0 = new_sitting s (seen.disk mid).turn

    -- the session up to its last turn
    abbrev so_far : (how : End)
        → EndsRun seen CLASSES s0 new (held mid before.source before.sink) now how → SoFar
    so_far how y = record {
      t = t;
      m = m;
      b = b;
      requests = requests;
      end = end;
      old = old;
      a = seen.disk mid;
      s = s;
      op = op;
      lawful_a = lawful mid;
      left_before = left_before;
      from = seen.source before.source;
      i1 = seen.source y.mid.source;
      out = seen.sink before.sink;
      o1 = seen.sink y.mid.sink;
      s1 = y.sitting;
      c = seen.disk y.mid.disk;
      n = y.n;
      asks = asks;
      told_source = told_source;
      ran = y.ran;
      few = y.few;
    }

    module _ (how : End)
        (y : EndsRun seen CLASSES s0 new (held mid before.source before.sink) now how)
        (sound : new.store.is_broken ≡ false → IsStore CLASSES new.store) (ended : e ≡ ended_as how new) where
      abbrev ending : Result (Unit {0}) StopReason
      ending = end_of how new.done

      line_now : PutsEnd ending
      line_now = subst (λ (x : SessionEnd). PutsEnd x.end) ended line

      -- a session that ended between two requests
      module _ (un : IsUnserved y.sitting new) (unserved_how : is_unserved (turn.Ended how) ≡ true) where
        sound_mid : IsStore CLASSES y.sitting.store
        sound_mid = subst (IsStore CLASSES) un.store
            (sound (ap (λ (k : StoreValue). k.is_broken) un.store ∙ y.ran.unbroken))

        line_mid : IsTrue (seen.sink before.sink).tells
            → PutsLast (seen.sink y.mid.sink).given after.given (line_at ending)
            (Rose (seen.sink before.sink).faults after.faults)
        line_mid sink_told = subst (λ (x : O). PutsLast (seen.sink x).given after.given (line_at ending)
            (Rose (seen.sink before.sink).faults after.faults)) (y.same_sink unserved_how)
            (line_now sink_told)

        carried : (status : ℕ) → status ≡ status_at ending
            → RunHolds (found_with s.in_use.block t m b) requests end (counts_of status y.sitting)
            (devices old (seen.sink before.sink)) (devices (seen.disk y.mid.disk) after)
            (seen.source before.source) (seen.source now.source)
            → Runs (outcome_of e)
        carried status is runs =
            let same : outcome_of e ≡ counts_of status y.sitting = ap outcome_of ended ∙ (λ i. record {
              status = sym is i;
              done = un.counts.done i;
              kept_done = un.counts.kept_done i;
              kept_turn = un.counts.kept_turn i;
            }) in
            subst Runs (sym same)
            (subst (λ (x : D). RunHolds (found_with t.chosen.block t m b) requests end
            (counts_of status y.sitting) (devices old (seen.sink before.sink)) (devices (seen.disk x) after)
            (seen.source before.source) (seen.source now.source))
            (sym (y.same_disk unserved_how))
            (subst (λ (u : SuperBlock). RunHolds (found_with u t m b) requests end
            (counts_of status y.sitting) (devices old (seen.sink before.sink))
            (devices (seen.disk y.mid.disk) after)
            (seen.source before.source) (seen.source now.source)) op.block runs))

    session_by : (how : End)
        → (y : EndsRun seen CLASSES s0 new (held mid before.source before.sink) now how)
        → (new.store.is_broken ≡ false → IsStore CLASSES new.store) → e ≡ ended_as how new
        → Runs (outcome_of e)
    session_by ends.End y sound ended =
        let un = y.last_turn.0 in
        carried ends.End y sound ended un refl DONE refl
        (input_ended (so_far ends.End y) after (seen.source now.source)
        (sound_mid ends.End y sound ended un refl) (Ok tt) tt (line_mid ends.End y sound ended un refl) refl
        (y.fewer refl) (y.last_turn.1 (y.ran.source_told ∙ told_source)))
    session_by ends.Line y sound ended =
        let un = y.last_turn.0 in
        let begins = y.last_turn.1 (y.ran.source_told ∙ told_source) in
        let done : y.sitting.done ≤ budget = omega (arith, y.ran.done, y.few) in
        let numbered : counted new.done 1 ≡ y.sitting.done + 1 = omega (arith, un.counts.done, done) in
        carried ends.Line y sound ended un refl FAULTY_REQUEST refl
        (line_failed (so_far ends.Line y) after (seen.source now.source)
        (sound_mid ends.Line y sound ended un refl) (Err (stop.Line (counted new.done 1))) numbered
        (line_mid ends.Line y sound ended un refl) refl (y.fewer refl) begins.0 begins.1)
    session_by ends.Source y sound ended =
        let un = y.last_turn in
        carried ends.Source y sound ended un refl SOURCE_FAILED refl
        (source_failed (so_far ends.Source y) after
        (seen.source now.source) (sound_mid ends.Source y sound ended un refl) (Err stop.Source) tt
        (line_mid ends.Source y sound ended un refl) refl (y.fewer refl))
    session_by ends.Budget y sound ended =
        let same : new ≡ y.sitting = y.last_turn.1 in
        let un : IsUnserved y.sitting new = record {
          store = ap (λ (x : Sitting). x.store) same;
          counts = record {
            done = ap (λ (x : Sitting). x.done) same;
            kept_done = ap (λ (x : Sitting). x.kept_done) same;
            kept_turn = ap (λ (x : Sitting). x.kept_turn) same;
          };
        } in
        carried ends.Budget y sound ended un refl TOO_MANY_REQUESTS refl
        (all_answered (so_far ends.Budget y) after
        (seen.source now.source) (sound_mid ends.Budget y sound ended un refl) (Err stop.Budget) tt
        (line_mid ends.Budget y sound ended un refl) refl y.last_turn.0)
    session_by ends.Disk y sound ended =
        subst (λ (x : SessionEnd). Runs (outcome_of x)) (sym ended)
        (subst (λ (u : SuperBlock). RunHolds (found_with u t m b) requests end
        (outcome_of (ended_as ends.Disk new)) (devices old (seen.sink before.sink)) (devices z after)
        (seen.source before.source) (seen.source now.source)) op.block
        (disk_failed (so_far ends.Disk y) ends.Disk
        y.last_turn after (Err stop.Disk) tt (y.fewer refl) (line_now ends.Disk y sound ended) refl refl))
    session_by ends.Sink y sound ended =
        subst (λ (x : SessionEnd). Runs (outcome_of x)) (sym ended)
        (subst (λ (u : SuperBlock). RunHolds (found_with u t m b) requests end
        (outcome_of (ended_as ends.Sink new)) (devices old (seen.sink before.sink)) (devices z after)
        (seen.source before.source) (seen.source now.source)) op.block
        (sink_failed (so_far ends.Sink y) ends.Sink
        y.last_turn after (Err stop.Sink) tt (y.fewer refl) (line_now ends.Sink y sound ended) refl refl
        sound))

  -- ---- all of them

  runs_served : (file : List ℕ) (e : SessionEnd)
      → RunsMounted seen file before now e
      → PutsEnd e.end → Runs (outcome_of e)
  runs_served c e x line = by x.steps
    where
      by : OpenRunSteps seen (held x.first before.source before.sink) now e
          → Runs (outcome_of e)
      by (inl ((inl is), source, sink)) = unopened source sink (seen.disk x.first) x.mount x.calm e is line
      by (inl ((inr is), source, sink)) = unbegun source sink (seen.disk x.first) x.mount x.calm e is line
      by (inr y) = session_by x.first x.mount x.calm e y.store y.mid y.opening y.new line y.end y.ran y.sound
          y.ended

  pub headline : (file : List ℕ) (e : SessionEnd)
      → RunSteps seen file before now e
      → PutsEnd e.end → Runs (outcome_of e)
  headline c e (inl (is, source, sink)) line = elim is.which as (λ _. Runs (outcome_of e)) [
    | inl failed ↦ subst (λ (y : SessionEnd). Runs (outcome_of y)) (sym failed.0) (failed_before source sink 0
        is.mount.time.later (λ room. left_first t m b old z is.mount told o) failed.2
        (λ has. absurd (never_true (sym (ap is_mounted failed.1) ∙ has)))
        (subst (λ (y : SessionEnd). PutsEnd y.end) failed.0 line))
    | inr gone ↦ subst (λ (y : SessionEnd). Runs (outcome_of y)) (sym gone.0)
        (absent source sink c is.mount gone.1
        (subst (λ (y : SessionEnd). PutsEnd y.end) gone.0 line))
  ]
  headline c e (inr x) line = runs_served c e x line
