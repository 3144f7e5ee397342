-- What holds of the command that does jobs in each way that it may go.
use Rattle.std.specs.Prelude.{◌≡◌, ◌≢◌, ◌⊎◌, ℕ, ◌≤◌, ◌||◌, true, false, List, [], None, Ok, Err, Result, OnErr, IsTrue, refl}
use Rattle.std.proofs.Common.{arith, ap, sym, ◌∙◌, subst, inl, inr}
use Rattle.std.proofs.lemmas.Bool.{cases_eq, ne_eqb, false≢true}
use Rattle.disk_face.specs.Counts.{HasCause, IsCalm, Rose}
use Rattle.disk_face.specs.States.{State}
use Rattle.disk_face.specs.Frames.{AfterMount, Untouched}
use Rattle.disk_face.specs.Mounts.{is_mounted}
use Rattle.disk_face.specs.Streams.{SinkState}
use Rattle.disk_face.specs.Writes.{KeepsDisk}
use Rattle.disk_face.specs.declared.bay.Mounted.TheVariants.{Absent, There}
use Rattle.disk_face.proofs.FrameLaws.{Untouched-then}
use Rattle.size_class.specs.declared.TheConstants.{CLASSES, SIZE_MAX}
use Rattle.table_rules.specs.Opening.{Opens}
use Rattle.reopen.specs.Refusals.{RefusesToOpen}
use Rattle.store_model.specs.Connection.{StoreValue}
use Rattle.store_model.specs.Opened.{IsOpening}
use Rattle.reopen.specs.declared.fault.OpenFault.{OpenFault}
use Rattle.command_face.specs.declared.status.TheConstants.{DISK_FAILED, DONE, NO_FILE, NO_MEMORY, NO_STORE, SINK_FAILED}
use Rattle.command_face.specs.Mounting.{IsMounted, mounted}
use Rattle.work_command.specs.Steps.{OpenWorkSteps, WorkSteps, IsAllDone, IsNotBegun, IsRefusal, IsStoppedInJob}
use Rattle.work_command.specs.Asked.{NumberedJobs}
use Rattle.command_face.specs.Refusing.{stop_of}
use Rattle.command_face.specs.Refusing.{IsRefused}
use Rattle.served_file.specs.Unserved.{NeverServed}
use Rattle.command_face.specs.Outcomes.{EndsBy, status_at, status_of}
use Rattle.work_command.specs.Working.{KeepsWork, has_worked, is_working}
use Rattle.command_face.specs.declared.stop.StopReason.{StopReason}
use Rattle.command_face.specs.declared.stop.StopReason.TheVariants as stop
use Rattle.command_face.proofs.UnopenedLaws.{disk_by, mount_untouched, not_status, status_unopened}
use Rattle.served_file.proofs.RefusedLaws.{refused_unchanged, refuses}
use Rattle.disk_face.specs.Devices.{devices}
use Rattle.disk_face.proofs.FrameLaws.{keeps_then}

-- ---- the devices, the mount, and what was put, by the status

pub record Whole (file : List ℕ) (old z : State) (out put : SinkState) (n : ℕ) : Type 0 where
  pub keeps : KeepsWork (devices old out) (devices z put) n
  pub mounted : IsMounted file false z.last_mount (n ≡ DISK_FAILED) (n ≡ NO_FILE)
  pub known : (is_working n ≡ true) ⊎ (n ≡ NO_STORE)
  pub nothing : has_worked n ≡ false → put ≡ out
  pub untouched : (n ≡ NO_FILE) ⊎ (n ≡ NO_STORE) → Untouched old z

-- no sink was called
no_sink : (old z : State) (out put : SinkState) (n : ℕ) → old.faults ≤ z.faults
    → (n ≡ DISK_FAILED → Rose old.faults z.faults)
    → old.turn ≤ z.turn → z.tells ≡ old.tells → z.tells_images ≡ old.tells_images → n ≢ SINK_FAILED
    → put ≡ out
    → KeepsWork (devices old out) (devices z put) n
no_sink old z out put n later rose turns told images nine same = record {
  later = later;
  rose = rose;
  no_turn_back = turns;
  told = told;
  images_told = images;
  sink_later = omega (arith, ap (λ (x : SinkState). x.faults) same);
  sink_rose = λ is. absurd (nine is);
  sink_calm = λ is. ap (λ (x : SinkState). x.faults) same;
  sink_told = ap (λ (x : SinkState). x.tells) same;
}

module _ (file : List ℕ) (asked : NumberedJobs) (old z : State) (out put : SinkState) where
  abbrev All : ℕ → Type 0
  All n = Whole file old z out put n

  mount_failed : AfterMount old z → old.faults ≤ z.faults → Rose old.faults z.faults → z.last_mount ≡ None
      → put ≡ out
      → All 7
  mount_failed mount later rose none same = record {
    keeps = no_sink old z out put 7 later (λ is. rose) mount.time.later mount.told mount.images_told
        (λ is. omega (arith, is)) same;
    mounted = record {
      answer = inl refl;
      absent = (λ is. absurd (omega (arith, is)), λ is. absurd (let e = sym none ∙ is in cc));
    };
    known = inl refl;
    nothing = λ is. same;
    untouched = λ is. mount_untouched old z mount later;
  }

  file_absent : AfterMount old z → old.faults ≤ z.faults
      → z.last_mount ≡ mounted file false Absent
      → put ≡ out → All 3
  file_absent mount later is same = record {
    keeps = no_sink old z out put 3 later (λ n. absurd (omega (arith, n))) mount.time.later mount.told
        mount.images_told (λ n. omega (arith, n)) same;
    mounted = record { answer = inr (inr is); absent = (λ three. is, λ three. refl) };
    known = inl refl;
    nothing = λ n. same;
    untouched = λ n. mount_untouched old z mount later;
  }

  module _ (first : State) (mount : AfterMount old first) (calm : first.faults ≡ old.faults)
      (there : first.last_mount ≡ mounted file false There) (frame : KeepsDisk first z)
      (later : first.faults ≤ z.faults) where
    mounted_there : (n : ℕ) → n ≢ NO_FILE → IsMounted file false z.last_mount (n ≡ DISK_FAILED) (n ≡ NO_FILE)
    mounted_there n three = record {
      answer = inr (inl (frame.stays.same_mount ∙ there));
      absent = (
        λ is. absurd (three is),
        λ is. absurd (false≢true (ap is_mounted (sym is ∙ frame.stays.same_mount ∙ there))),
      );
    }

    -- nothing was put
    stopped_there : (n : ℕ) → (is_working n ≡ true) ⊎ (n ≡ NO_STORE) → n ≢ NO_FILE → n ≢ SINK_FAILED
        → (n ≡ DISK_FAILED → Rose first.faults z.faults) → put ≡ out → (n ≡ NO_STORE → Untouched old z)
        → All n
    stopped_there n known three nine rose same untouched = record {
      keeps = no_sink old z out put n (omega (arith, calm, later))
          (λ is. subst (λ (k : ℕ). Rose k z.faults) calm (rose is))
          (omega (arith, mount.same_turn, frame.no_turn_back)) (frame.stays.told ∙ mount.told)
          (frame.stays.images_told ∙ mount.images_told) nine same;
      mounted = mounted_there n three;
      known = known;
      nothing = λ is. same;
      untouched = λ is. elim is as (λ _. Untouched old z) [ inl x ↦ absurd (three x) | inr x ↦ untouched x ];
    }

    -- a summary was put, or a front of it
    put_there : (n : ℕ) → is_working n ≡ true → has_worked n ≡ true → n ≢ NO_FILE → n ≢ NO_STORE
        → n ≢ DISK_FAILED
        → out.faults ≤ put.faults → (n ≡ SINK_FAILED → Rose out.faults put.faults)
        → (n ≡ DONE → put.faults ≡ out.faults)
        → put.tells ≡ out.tells → All n
    put_there n known worked three four seven sink_later rose sink_calm told = record {
      keeps = record {
        later = omega (arith, calm, later);
        rose = λ is. absurd (seven is);
        no_turn_back = omega (arith, mount.same_turn, frame.no_turn_back);
        told = frame.stays.told ∙ mount.told;
        images_told = frame.stays.images_told ∙ mount.images_told;
        sink_later = sink_later;
        sink_rose = rose;
        sink_calm = sink_calm;
        sink_told = told;
      };
      mounted = mounted_there n three;
      known = inl known;
      nothing = λ is. absurd (let e : true ≡ false = sym worked ∙ is in cc);
      untouched = λ is. absurd (elim is as (λ _. ⊥) [ inl x ↦ three x | inr x ↦ four x ]);
    }

-- the statuses of a file that isn't opened
known_refusal : (n : ℕ) → (n ≡ NO_STORE) ⊎ (n ≡ DISK_FAILED) ⊎ (n ≡ NO_MEMORY)
    → (is_working n ≡ true) ⊎ (n ≡ NO_STORE)
known_refusal n (inl four) = inr four
known_refusal n (inr (inl seven)) = inl (ap is_working seven)
known_refusal n (inr (inr ten)) = inl (ap is_working ten)

module _ {D : Type 0} (disk_of : D → State) (file : List ℕ) (asked : NumberedJobs) (old z : State)
    (out put : SinkState)
    (end : Result (Unit {0}) StopReason) where
  -- the status of this end
  carried : (e : Result (Unit {0}) StopReason) → end ≡ e → All file asked old z out put (status_at e)
      → All file asked old z out put (status_at end)
  carried e is all = subst (λ (x : Result (Unit {0}) StopReason). All file asked old z out put
      (status_at x)) (sym is) all

  module _ (first : State) (mount : AfterMount old first) (calm : first.faults ≡ old.faults)
      (there : first.last_mount ≡ mounted file false There) where
    refusal : IsRefusal first z end → put ≡ out → All file asked old z out put (status_at end)
    refusal x same = carried (Err (stop_of x.fault)) x.ended
        (stopped_there file asked old z out put first mount calm there x.opening.frame
        x.opening.cause.later
        (status_of (stop_of x.fault)) (known_refusal (status_of (stop_of x.fault)) (status_unopened x.fault))
        (not_status x.fault 3 (λ y. omega (arith, y)) (λ y. omega (arith, y)) (λ y. omega (arith, y)))
        (not_status x.fault 9 (λ y. omega (arith, y)) (λ y. omega (arith, y)) (λ y. omega (arith, y)))
        (λ seven. x.opening.cause.rose (ap (λ (y : OpenFault). Err y) (disk_by x.fault seven))) same
        (λ four. Untouched-then (mount_untouched old first mount (omega (arith, calm)))
        (refused_unchanged first z x.fault four x.opening.unchanged)))

    not_begun : IsNotBegun first z end → put ≡ out → All file asked old z out put (status_at end)
    not_begun x same = carried (Err stop.NoMemory) x.ended
        (stopped_there file asked old z out put first mount calm there x.opening.frame
        x.opening.cause.later 10
        (inl refl) (λ is. omega (arith, is)) (λ is. omega (arith, is)) (λ is. absurd (omega (arith, is))) same
        (λ is. absurd (omega (arith, is))))

    rose_before : (a b c : ℕ) → a ≤ b → Rose b c → Rose a c
    rose_before a b c low rose = omega (arith, low, rose)

    in_job : IsStoppedInJob disk_of asked first z end → put ≡ out
        → All file asked old z out put
        (status_at end)
    in_job x same = carried (Err stop.Disk) x.ended
        (stopped_there file asked old z out put first mount calm there
        (keeps_then x.opening.frame x.stopped.frame) (omega (arith, x.opening.cause.later, x.stopped.later))
        7 (inl refl)
        (λ is. omega (arith, is)) (λ is. omega (arith, is))
        (λ is. rose_before first.faults (disk_of x.mid).faults z.faults x.opening.cause.later x.stopped.rose)
        same
        (λ is. absurd (omega (arith, is))))

    summed : IsAllDone disk_of asked (devices first out) (devices z put) end
        → All file asked old z out put
        (status_at end)
    summed x = by end refl x.only x.cause
      where
        frame : KeepsDisk first z
        frame = keeps_then x.opening.frame x.done.ran.frame

        later : first.faults ≤ z.faults
        later = omega (arith, x.opening.cause.later, x.done.ran.later)

        by : (e : Result (Unit {0}) StopReason) → end ≡ e → OnErr e (e ≡ Err stop.Sink)
            → HasCause out.faults put.faults e
            → All file asked old z out put (status_at end)
        by (Ok y) is only cause = carried (Ok y) is
            (put_there file asked old z out put first mount calm there frame later 0 refl refl
            (λ n. omega (arith, n)) (λ n. omega (arith, n)) (λ n. omega (arith, n)) cause.later
            (λ n. absurd (omega (arith, n))) (λ n. cause.calm) x.told)
        by (Err why) is only cause = carried (Err stop.Sink) (is ∙ only)
            (put_there file asked old z out put first mount calm there frame later 9 refl refl
            (λ n. omega (arith, n)) (λ n. omega (arith, n)) (λ n. omega (arith, n)) cause.later
            (λ n. cause.rose) (λ n. absurd (omega (arith, n))) x.told)

  pub whole : WorkSteps disk_of file asked (devices old out) (devices z put) end
      → Whole file old z out put (status_at end)
  whole (inl (is, same)) = elim is.which as (λ _. All file asked old z out put (status_at end)) [
    | inl failed ↦ carried (Err stop.Disk) failed.0
        (mount_failed file asked old z out put is.mount is.later failed.2 failed.1 same)
    | inr gone ↦ carried (Err stop.NoFile) gone.0
        (file_absent file asked old z out put is.mount is.later gone.1 same)
  ]
  whole (inr x) = by x.steps
    where
      by : OpenWorkSteps disk_of asked (devices (disk_of x.first) out)
          (devices z put) end
          → All file asked old z out put
          (status_at end)
      by (inl (inl is, same)) = refusal (disk_of x.first) x.mount x.calm x.there is same
      by (inl (inr (inl is), same)) = not_begun (disk_of x.first) x.mount x.calm x.there is same
      by (inl (inr (inr is), same)) = in_job (disk_of x.first) x.mount x.calm x.there is same
      by (inr is) = summed (disk_of x.first) x.mount x.calm x.there is

  -- a file that isn't served ends the command as its first refusal says
  pub refused_work : IsTrue old.tells → NeverServed old.file
      → WorkSteps disk_of file asked (devices old out) (devices z put) end
      → EndsBy (IsRefused old.file) [] end × (put ≡ out)
  refused_work told never (inl (is, same)) = (
    elim is.which as (λ _. EndsBy (IsRefused old.file) [] end) [
      | inl failed ↦ subst (EndsBy (IsRefused old.file) []) (sym failed.0) (inr refl)
      | inr gone ↦ subst (EndsBy (IsRefused old.file) []) (sym gone.0) refl
    ],
    same,
  )
  refused_work told never (inr x) = by x.steps
    where
      told_there : IsTrue (disk_of x.first).tells
      told_there = x.mount.told ∙ told

      same_file : (disk_of x.first).file ≡ old.file
      same_file = x.mount.same_file told

      never_opened : (a : State) (s : StoreValue) → IsOpening CLASSES (disk_of x.first) a (Ok s) → ⊥
      never_opened a s is =
          let o = is.opened told_there in
          never o.m o.b
          (subst (λ (f : List ℕ). Opens CLASSES SIZE_MAX f o.m o.b) same_file
          (record { table = o.table; opens = o.found }))

      by : OpenWorkSteps disk_of asked (devices (disk_of x.first) out)
          (devices z put) end
          → EndsBy (IsRefused old.file) [] end
          × (put ≡ out)
      by (inl (inl is, same)) = (
        subst (EndsBy (IsRefused old.file) []) (sym is.ended)
            (refuses old.file is.fault (subst (λ (f : List ℕ). RefusesToOpen CLASSES f is.fault)
            same_file (is.opening.refused told_there))),
        same,
      )
      by (inl (inr (inl is), same)) = absurd (never_opened z is.store is.opening)
      by (inl (inr (inr is), same)) = absurd (never_opened (disk_of is.mid) is.store is.opening)
      by (inr is) = absurd (never_opened (disk_of is.mid) is.store is.opening)

-- ---- completeness

-- of the statuses over a file that opens those are left that no fault has
pub status_calm : (n : ℕ) → is_working n ≡ true → n ≢ NO_FILE → n ≢ DISK_FAILED → n ≢ SINK_FAILED
    → (n ≡ DONE) ⊎ (n ≡ NO_MEMORY)
status_calm n known three seven nine = elim (cases_eq n DONE) as (λ _. (n ≡ DONE) ⊎ (n ≡ NO_MEMORY)) [
  | inl zero ↦ inl zero
  | inr some ↦ elim (cases_eq n NO_MEMORY) as (λ _. (n ≡ DONE) ⊎ (n ≡ NO_MEMORY)) [
    | inl ten ↦ inr ten
    | inr other ↦ absurd (none some other)
  ]
]
  where
    none : n ≢ DONE → n ≢ NO_MEMORY → ⊥
    none zero ten =
        let a = ne_eqb n 0 zero in
        let b = ne_eqb n 3 three in
        let c = ne_eqb n 7 seven in
        let d = ne_eqb n 9 nine in
        let e = ne_eqb n 10 ten in
        let f : is_working n ≡ false = (λ i. a i || b i || c i || d i || e i) in
        let g : true ≡ false = sym known ∙ f in
        absurd (cc)

-- the jobs are done, or memory is wanting, where no fault came
pub jobs_done : (file : List ℕ) (n : ℕ) (old z : State) (out after : SinkState)
    → is_working n ≡ true
    → KeepsWork (devices old out) (devices z after) n
    → IsMounted file false z.last_mount (n ≡ DISK_FAILED) (n ≡ NO_FILE)
    → z.last_mount ≡ mounted file false There → IsCalm old.faults z.faults
    → IsCalm out.faults after.faults → (n ≡ DONE) ⊎ (n ≡ NO_MEMORY)
jobs_done file n old z out after known keeps mount there calm sink_calm = status_calm n known
    (λ is. absurd (false≢true (ap is_mounted (sym (mount.absent.0 is) ∙ there))))
    (λ is. omega (arith, keeps.rose is, calm.same, calm.below))
    (λ is. omega (arith, keeps.sink_rose is, sink_calm.same, sink_calm.below))
