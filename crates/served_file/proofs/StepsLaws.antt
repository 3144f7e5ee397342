-- What holds of a command over a file in each way that it may go, whatever the file tells.
use Rattle.std.specs.Prelude.{◌≡◌, ◌≢◌, ◌⊎◌, ℕ, ◌≤◌, false, List, [], None, Ok, Err, Result, IsTrue, refl}
use Rattle.std.proofs.Common.{arith, ap, sym, ◌∙◌, subst, inl, inr}
use Rattle.std.proofs.lemmas.Bool.{false≢true}
use Rattle.disk_face.specs.Counts.{Rose}
use Rattle.disk_face.specs.Devices.{Devices, devices}
use Rattle.disk_face.specs.Frames.{AfterMount, Untouched}
use Rattle.disk_face.specs.Mounts.{is_mounted}
use Rattle.disk_face.specs.States.{State}
use Rattle.disk_face.specs.Streams.{SinkState}
use Rattle.disk_face.specs.Writes.{KeepsDisk}
use Rattle.disk_face.specs.declared.bay.Mounted.TheVariants.{Absent, There}
use Rattle.disk_face.proofs.FrameLaws.{Untouched-then, keeps_then}
use Rattle.size_class.specs.declared.TheConstants.{CLASSES, SIZE_MAX}
use Rattle.table_rules.specs.Opening.{Opens}
use Rattle.reopen.specs.Refusals.{RefusesToOpen}
use Rattle.reopen.specs.declared.fault.OpenFault.{OpenFault}
use Rattle.slot_pair.specs.declared.find.SlotFault.TheVariants as slot
use Rattle.reopen.specs.declared.fault.OpenFault.TheVariants as opening
use Rattle.store_model.specs.Connection.{StoreValue}
use Rattle.store_model.specs.Opened.{IsFresh, IsOpening}
use Rattle.command_face.specs.Layers.{HasCausesAt}
use Rattle.command_face.specs.Mounting.{IsMounted, IsNotThere, mounted}
use Rattle.command_face.specs.Outcomes.{EndsBy, status_at, status_of}
use Rattle.command_face.specs.Refusing.{IsRefused, stop_of}
use Rattle.command_face.specs.declared.status.TheConstants.{DISK_FAILED, NO_FILE, NO_MEMORY, NO_STORE, SINK_FAILED}
use Rattle.command_face.specs.declared.stop.StopReason.{StopReason}
use Rattle.command_face.specs.declared.stop.StopReason.TheVariants as stop
use Rattle.command_face.proofs.UnopenedLaws.{disk_by, mount_untouched, not_status, status_unopened}
use Rattle.served_file.specs.Steps.{Doing, FileSteps, IsMountedThen, IsServed, IsUnmounted, IsUnserved, KeepsDevices, OpenSteps}
use Rattle.served_file.specs.Unserved.{NeverServed}
use Rattle.served_file.proofs.RefusedLaws.{never_mounted, refused_unchanged, refuses}

-- ---- what holds of each

pub record Whole (file : List ℕ) (before now : Devices) (end : Result (Unit {0}) StopReason) : Type 0 where
  pub keeps : KeepsDevices before now end
  pub mount : IsMounted file false now.disk.last_mount (status_at end ≡ DISK_FAILED) (status_at end ≡ NO_FILE)
  pub untouched : (status_at end ≡ NO_FILE) ⊎ (status_at end ≡ NO_STORE) → Untouched before.disk now.disk
  pub refused : IsTrue before.disk.tells → status_at end ≡ NO_STORE → NeverServed before.disk.file

-- what is done with an open store keeps the devices, and ends with no status of a file that wasn't opened
pub record KeepsDone (before now : Devices) (end : Result (Unit {0}) StopReason) : Type 0 where
  pub frame : KeepsDisk before.disk now.disk
  pub causes : HasCausesAt before.disk now.disk before.sink now.sink end
  pub there : status_at end ≢ NO_FILE
  pub store : status_at end ≢ NO_STORE

-- ---- why a file wasn't opened

disk_fault : (why : OpenFault) → stop_of why ≡ stop.Disk → why ≡ opening.Slot slot.Disk
disk_fault why is = disk_by why (ap status_of is)

no_sink : (why : OpenFault) → stop_of why ≢ stop.Sink
no_sink why is =
    not_status why SINK_FAILED (λ y. omega (arith, y)) (λ y. omega (arith, y)) (λ y. omega (arith, y))
    (ap status_of is)

-- it stopped before its store was opened, and nothing was put
pub record HasStopped (before now : Devices) (end : Result (Unit {0}) StopReason) : Type 0 where
  pub status : (status_at end ≡ DISK_FAILED) ⊎ (status_at end ≡ NO_FILE) ⊎ (status_at end ≡ NO_STORE)
      ⊎ (status_at end ≡ NO_MEMORY)
  pub nothing : now.sink ≡ before.sink

-- it did what it does with a new store
pub record HasDone {D : Type 0} (disk_of : D → State) (does : Doing) (before now : Devices)
    (end : Result (Unit {0}) StopReason) : Type 0 where
  pub store : StoreValue
  pub mid : D
  pub fresh : IsFresh CLASSES store
  pub done : does store (devices (disk_of mid) before.sink) now end

unopened_status : (why : OpenFault) (end : Result (Unit {0}) StopReason) → end ≡ Err (stop_of why)
    → (status_of (stop_of why) ≡ NO_STORE) ⊎ (status_of (stop_of why) ≡ DISK_FAILED)
    ⊎ (status_of (stop_of why) ≡ NO_MEMORY)
    → (status_at end ≡ DISK_FAILED) ⊎ (status_at end ≡ NO_FILE) ⊎ (status_at end ≡ NO_STORE)
    ⊎ (status_at end ≡ NO_MEMORY)
unopened_status why end is which =
    let same : status_at end ≡ status_of (stop_of why) =
    ap (λ (e : Result (Unit {0}) StopReason). status_at e) is in
    elim which as (λ _. (status_at end ≡ DISK_FAILED) ⊎ (status_at end ≡ NO_FILE) ⊎ (status_at end ≡ NO_STORE)
    ⊎ (status_at end ≡ NO_MEMORY)) [
      | inl four ↦ inr (inr (inl (same ∙ four)))
      | inr rest ↦ elim rest as (λ _. (status_at end ≡ DISK_FAILED) ⊎ (status_at end ≡ NO_FILE)
          ⊎ (status_at end ≡ NO_STORE) ⊎ (status_at end ≡ NO_MEMORY)) [
            | inl seven ↦ inl (same ∙ seven)
            | inr ten ↦ inr (inr (inr (same ∙ ten)))
          ]
    ]

-- ---- no sink was called

pub sinkless : (old z : State) (out put : SinkState) (end : Result (Unit {0}) StopReason) → put ≡ out
    → old.faults ≤ z.faults → (end ≡ Err stop.Disk → Rose old.faults z.faults)
    → ((end ≡ Err stop.Disk → ⊥) → z.faults ≡ old.faults) → end ≢ Err stop.Sink
    → HasCausesAt old z out put end
sinkless old z out put end same later rose calm sink = record {
  later = later;
  rose = rose;
  calm = calm;
  sink_later = omega (arith, ap (λ (x : SinkState). x.faults) same);
  sink_rose = λ is. absurd (sink is);
  sink_calm = λ is. ap (λ (x : SinkState). x.faults) same;
  sink_told = ap (λ (x : SinkState). x.tells) same;
}

-- ---- the file wasn't mounted

module _ (file : List ℕ) (before now : Devices) (mount : AfterMount before.disk now.disk)
    (later : before.disk.faults ≤ now.disk.faults) (nothing : now.sink ≡ before.sink) where
  keeps_unmounted : (why : StopReason) → why ≢ stop.Sink
      → (why ≡ stop.Disk → Rose before.disk.faults now.disk.faults)
      → (why ≢ stop.Disk → now.disk.faults ≡ before.disk.faults) → KeepsDevices before now (Err why)
  keeps_unmounted why sink rose calm = record {
    causes = sinkless before.disk now.disk before.sink now.sink (Err why) nothing later
        (λ is. rose (cc)) (λ other. calm (λ is. other (ap (λ (w : StopReason). Err w) is)))
        (λ is. sink (cc));
    no_turn_back = mount.time.later;
    told = mount.told;
    images_told = mount.images_told;
  }

  mount_failed : Rose before.disk.faults now.disk.faults → now.disk.last_mount ≡ None
      → Whole file before now (Err stop.Disk)
  mount_failed rose none = record {
    keeps = keeps_unmounted stop.Disk (λ is. absurd (cc)) (λ is. rose) (λ other. absurd (other refl));
    mount = record {
      answer = inl refl;
      absent = (λ is. absurd (omega (arith, is)), λ is. absurd (let e = sym none ∙ is in cc));
    };
    untouched = λ is. mount_untouched before.disk now.disk mount later;
    refused = λ told is. absurd (omega (arith, is));
  }

  file_absent : now.disk.last_mount ≡ mounted file false Absent → now.disk.faults ≡ before.disk.faults
      → Whole file before now (Err stop.NoFile)
  file_absent is calm = record {
    keeps = keeps_unmounted stop.NoFile (λ is. absurd (cc)) (λ is. absurd (cc)) (λ other. calm);
    mount = record { answer = inr (inr is); absent = (λ three. is, λ three. refl) };
    untouched = λ n. mount_untouched before.disk now.disk mount later;
    refused = λ told four. absurd (omega (arith, four));
  }

-- ---- the file was mounted

-- no call failed before
pub causes_since : (a b c : State) (out put : SinkState) (end : Result (Unit {0}) StopReason)
    → b.faults ≡ a.faults → HasCausesAt b c out put end → HasCausesAt a c out put end
causes_since a b c out put end calm is = record {
  later = omega (arith, calm, is.later);
  rose = λ e. omega (arith, calm, is.rose e);
  calm = λ e. is.calm e ∙ calm;
  sink_later = is.sink_later;
  sink_rose = is.sink_rose;
  sink_calm = is.sink_calm;
  sink_told = is.sink_told;
}

module _ (file : List ℕ) (before now : Devices) (first : State) (mount : AfterMount before.disk first)
    (calm : first.faults ≡ before.disk.faults) (there : first.last_mount ≡ mounted file false There) where
  whole_there : (end : Result (Unit {0}) StopReason) → KeepsDisk first now.disk
      → HasCausesAt first now.disk before.sink now.sink end → status_at end ≢ NO_FILE
      → (status_at end ≡ NO_STORE → Untouched before.disk now.disk)
      → (IsTrue before.disk.tells → status_at end ≡ NO_STORE → NeverServed before.disk.file)
      → Whole file before now end
  whole_there end frame causes three untouched refused = record {
    keeps = record {
      causes = causes_since before.disk first now.disk before.sink now.sink end calm causes;
      no_turn_back = omega (arith, mount.same_turn, frame.no_turn_back);
      told = frame.stays.told ∙ mount.told;
      images_told = frame.stays.images_told ∙ mount.images_told;
    };
    mount = record {
      answer = inr (inl (frame.stays.same_mount ∙ there));
      absent = (
        λ is. absurd (three is),
        λ is. absurd (false≢true (ap is_mounted (sym is ∙ frame.stays.same_mount ∙ there))),
      );
    };
    untouched = λ is. elim is as (λ _. Untouched before.disk now.disk) [
      | inl x ↦ absurd (three x)
      | inr x ↦ untouched x
    ];
    refused = refused;
  }

  unserved : (end : Result (Unit {0}) StopReason) → IsUnserved (devices first before.sink) now end
      → Whole file before now end
  unserved end x = subst (Whole file before now) (sym x.ended) (whole_there (Err (stop_of x.fault))
      x.opening.frame (sinkless first now.disk before.sink now.sink (Err (stop_of x.fault)) x.nothing
      x.opening.cause.later
      (λ is. x.opening.cause.rose (ap (λ (w : OpenFault). Err w) (disk_fault x.fault (cc))))
      (λ other. x.opening.cause.calm (λ is.
      let e : x.fault ≡ opening.Slot slot.Disk = cc in
      other (ap (λ (w : OpenFault). Err (stop_of w)) e)))
      (λ is. no_sink x.fault (cc)))
      (not_status x.fault 3 (λ y. omega (arith, y)) (λ y. omega (arith, y)) (λ y. omega (arith, y)))
      (λ four. Untouched-then (mount_untouched before.disk first mount (omega (arith, calm)))
      (refused_unchanged first now.disk x.fault four x.opening.unchanged))
      (λ told four. never_mounted before.disk first now.disk x.fault mount x.opening told four))

  module _ {D : Type 0} (disk_of : D → State) (does : Doing) (end : Result (Unit {0}) StopReason)
      (one : (s : StoreValue) (a b : Devices) → IsFresh CLASSES s → does s a b end → KeepsDone a b end)
    where
      served : IsServed disk_of does (devices first before.sink) now end → Whole file before now end
      served x =
          let did = one x.store (devices (disk_of x.mid) before.sink) now x.opening.fresh x.done in
          whole_there end (keeps_then x.opening.frame did.frame)
          (causes_since first (disk_of x.mid) now.disk before.sink now.sink end
          (x.opening.cause.calm (λ is. absurd (cc))) did.causes)
          did.there (λ is. absurd (did.store is)) (λ told is. absurd (did.store is))

-- ---- all of them

module _ {D : Type 0} (disk_of : D → State) (file : List ℕ) (does : Doing) (before now : Devices)
    (end : Result (Unit {0}) StopReason) where
  pub whole : ((s : StoreValue) (a b : Devices) → IsFresh CLASSES s → does s a b end → KeepsDone a b end)
      → FileSteps disk_of file does before now end → Whole file before now end
  whole one (inl is) = elim is.which as (λ _. Whole file before now end) [
    | inl failed ↦ subst (Whole file before now) (sym failed.0)
        (mount_failed file before now is.mount is.later is.nothing failed.2 failed.1)
    | inr gone ↦ subst (Whole file before now) (sym gone.0)
        (file_absent file before now is.mount is.later is.nothing gone.1 gone.2)
  ]
  whole one (inr x) = elim x.steps as (λ _. Whole file before now end) [
    | inl is ↦ unserved file before now (disk_of x.first) x.mount x.calm x.there end is
    | inr is ↦ served file before now (disk_of x.first) x.mount x.calm x.there disk_of does end one is
  ]

  -- it stopped before its store was opened, and nothing was put, or it did what it does with a new store
  pub stopped_or_done : FileSteps disk_of file does before now end
      → HasStopped before now end ⊎ HasDone disk_of does before now end
  stopped_or_done (inl is) = elim is.which
      as (λ _. HasStopped before now end ⊎ HasDone disk_of does before now end) [
        | inl failed ↦ inl (record {
          status = inl (ap (λ (e : Result (Unit {0}) StopReason). status_at e) failed.0);
          nothing = is.nothing;
        })
        | inr gone ↦ inl (record {
          status = inr (inl (ap (λ (e : Result (Unit {0}) StopReason). status_at e) gone.0));
          nothing = is.nothing;
        })
      ]
  stopped_or_done (inr x) = elim x.steps
      as (λ _. HasStopped before now end ⊎ HasDone disk_of does before now end) [
        | inl is ↦ inl (record {
          status = unopened_status is.fault end is.ended (status_unopened is.fault);
          nothing = is.nothing;
        })
        | inr is ↦ inr (search (is, is.opening))
      ]

  -- a file that isn't served ends the command as its first refusal says
  pub never_served : IsTrue before.disk.tells → NeverServed before.disk.file
      → FileSteps disk_of file does before now end
      → EndsBy (IsRefused before.disk.file) [] end × (now.sink ≡ before.sink)
  never_served told never (inl is) = (
    elim is.which as (λ _. EndsBy (IsRefused before.disk.file) [] end) [
      | inl failed ↦ subst (EndsBy (IsRefused before.disk.file) []) (sym failed.0) (inr refl)
      | inr gone ↦ subst (EndsBy (IsRefused before.disk.file) []) (sym gone.0) refl
    ],
    is.nothing,
  )
  never_served told never (inr x) = elim x.steps
      as (λ _. EndsBy (IsRefused before.disk.file) [] end × (now.sink ≡ before.sink)) [
        | inl is ↦ (
          subst (EndsBy (IsRefused before.disk.file) []) (sym is.ended)
              (refuses before.disk.file is.fault (subst (λ (f : List ℕ). RefusesToOpen CLASSES f is.fault)
              same_file (is.opening.refused told_there))),
          is.nothing,
        )
        | inr is ↦ absurd (never_opened (disk_of is.mid) is.store is.opening)
      ]
    where
      told_there : IsTrue (disk_of x.first).tells
      told_there = x.mount.told ∙ told

      same_file : (disk_of x.first).file ≡ before.disk.file
      same_file = x.mount.same_file told

      never_opened : (a : State) (s : StoreValue) → IsOpening CLASSES (disk_of x.first) a (Ok s) → ⊥
      never_opened a s is =
          let o = is.opened told_there in
          never o.m o.b
          (subst (λ (f : List ℕ). Opens CLASSES SIZE_MAX f o.m o.b) same_file
          (record { table = o.table; opens = o.found }))

-- ---- each step

module _ {D : Type 0} (disk_of : D → State) (file : List ℕ) (does : Doing) (old now : State)
    (out : SinkState) where
  abbrev IsOut : Result (Unit {0}) StopReason → Type 0
  IsOut end = IsNotThere file old now (end ≡ Err stop.Disk) (end ≡ Err stop.NoFile)

  pub unmounted_so : (why : StopReason) → AfterMount old now → old.faults ≤ now.faults
      → IsNotThere file old now (why ≡ stop.Disk) (why ≡ stop.NoFile)
      → FileSteps disk_of file does (devices old out) (devices now out) (Err why)
  unmounted_so why mount later is = inl (record {
    mount = mount;
    later = later;
    which = elim is as (λ _. IsOut (Err why)) [
      | inl failed ↦ inl (ap (λ (w : StopReason). Err w) failed.0, failed.1, failed.2)
      | inr gone ↦ inr (ap (λ (w : StopReason). Err w) gone.0, gone.1, gone.2)
    ];
    nothing = refl;
  })

module _ {D : Type 0} (disk_of : D → State) (file : List ℕ) (does : Doing) (old : State) (out : SinkState)
    (now : Devices) where
  pub mounted_then : (first : D) (end : Result (Unit {0}) StopReason) → AfterMount old (disk_of first)
      → (disk_of first).last_mount ≡ mounted file false There → (disk_of first).faults ≡ old.faults
      → OpenSteps disk_of does (devices (disk_of first) out) now end
      → FileSteps disk_of file does (devices old out) now end
  mounted_then first end mount there calm steps =
      inr (record { first = first; mount = mount; there = there; calm = calm; steps = steps })
