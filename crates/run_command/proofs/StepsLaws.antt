-- What holds of the command that serves requests in each way that it may go.
use Rattle.std.specs.Prelude.{◌≡◌, ◌≢◌, ◌⊎◌, ℕ, ◌≤◌, true, false, List, [], None, Ok, Err, IsTrue, refl}
use Rattle.std.proofs.Common.{arith, ap, sym, ◌∙◌, subst, inl, inr}
use Rattle.std.proofs.lemmas.Bool.{false≢true}
use Rattle.disk_face.specs.Counts.{Rose}
use Rattle.disk_face.specs.States.{State}
use Rattle.disk_face.specs.Frames.{AfterMount, Untouched}
use Rattle.disk_face.specs.Mounts.{is_mounted}
use Rattle.disk_face.specs.Streams.{SinkState, SourceState}
use Rattle.disk_face.specs.declared.bay.Mounted.TheVariants.{Absent, There}
use Rattle.disk_face.proofs.FrameLaws.{Untouched-then}
use Rattle.size_class.specs.declared.TheConstants.{CLASSES, SIZE_MAX}
use Rattle.table_rules.specs.Opening.{Opens}
use Rattle.reopen.specs.Refusals.{RefusesToOpen}
use Rattle.store_model.specs.Connection.{StoreValue}
use Rattle.store_model.specs.Opened.{IsOpening}
use Rattle.reopen.specs.declared.fault.OpenFault.{OpenFault}
use Rattle.command_face.specs.declared.status.TheConstants.{DISK_FAILED, DONE, NO_FILE, NO_MEMORY, NO_STORE, SINK_FAILED, SOURCE_FAILED}
use Rattle.command_face.specs.Mounting.{IsMounted, mounted}
use Rattle.command_face.specs.Refusing.{stop_of}
use Rattle.command_face.specs.Refusing.{IsRefused}
use Rattle.served_file.specs.Unserved.{NeverServed}
use Rattle.run_command.specs.Headline.{HasMounted, IsKeptTurn, is_session}
use Rattle.ask_session.specs.Outside.{Held, Outside, Seen, held, outside, outside_of, served_devices}
use Rattle.ask_text.specs.declared.ends.End.{End}
use Rattle.ask_text.specs.declared.ends.End.TheVariants as ends
use Rattle.command_face.specs.Outcomes.{EndsBy, status_at, status_of}
use Rattle.run_command.specs.Sessions.{HasSession, IsUnserved, KeepsRun, OpenRunSteps, RunSteps, RunsMounted, outcome_of, unserved}
use Rattle.command_face.specs.declared.stop.StopReason.TheVariants as stop
use Rattle.run_command.specs.declared.run.SessionEnd.{SessionEnd}
use Rattle.run_command.proofs.ClauseLaws.{SessionKeeps, session_keeps}
use Rattle.command_face.proofs.UnopenedLaws.{status_unopened, not_status, disk_by, mount_untouched}
use Rattle.served_file.proofs.RefusedLaws.{refused_unchanged, refuses}
use Rattle.served_file.specs.Ends.{end_of}

-- the devices, the mount, and the turn that is told
pub record Whole (file : List ℕ) (before now : Outside) (same : Type 0) (e : SessionEnd) : Type 0 where
  pub keeps : KeepsRun (served_devices before) (served_devices now) before.source now.source
      (status_at e.end)
  pub mounted : IsMounted file false now.disk.last_mount (status_at e.end ≡ DISK_FAILED)
      (status_at e.end ≡ NO_FILE)
  pub turn : IsKeptTurn (outcome_of e) (HasMounted now.disk) before.disk.turn now.disk.turn
  pub unread : IsUnserved (status_at e.end) → same

module _ (file : List ℕ) (before now : Outside) (same : Type 0) where
  abbrev Is : SessionEnd → Type 0
  Is e = Whole file before now same e

  -- no stream was called
  no_stream : (status : ℕ) → AfterMount before.disk now.disk → before.disk.faults ≤ now.disk.faults
      → (status ≡ DISK_FAILED → Rose before.disk.faults now.disk.faults) → status ≢ SOURCE_FAILED
      → status ≢ SINK_FAILED
      → now.source ≡ before.source → now.sink ≡ before.sink
      → KeepsRun (served_devices before) (served_devices now) before.source now.source status
  no_stream status mount later rose eight nine source sink = record {
    later = later;
    rose = rose;
    no_turn_back = mount.time.later;
    told = mount.told;
    images_told = mount.images_told;
    source_later = omega (arith, ap (λ (x : SourceState). x.faults) source);
    source_rose = λ is. absurd (eight is);
    sink_later = omega (arith, ap (λ (x : SinkState). x.faults) sink);
    sink_rose = λ is. absurd (nine is);
    sink_calm = λ is. ap (λ (x : SinkState). x.faults) sink;
    sink_told = ap (λ (x : SinkState). x.tells) sink;
  }

  mount_failed : AfterMount before.disk now.disk → before.disk.faults ≤ now.disk.faults
      → Rose before.disk.faults now.disk.faults → now.disk.last_mount ≡ None
      → now.source ≡ before.source → now.sink ≡ before.sink → same → Is (unserved stop.Disk 0)
  mount_failed mount later rose none source sink is_same = record {
    keeps = no_stream DISK_FAILED mount later (λ is. rose) (λ is. omega (arith, is))
        (λ is. omega (arith, is)) source sink;
    mounted = record {
      answer = inl refl;
      absent = (λ is. absurd (omega (arith, is)), λ is. absurd (let e = sym none ∙ is in cc));
    };
    turn = record {
      unopened = λ is. refl;
      low = λ has. absurd (false≢true (sym (ap is_mounted none) ∙ has));
      high = λ has. omega arith;
      refused = λ is. absurd (elim is as (λ _. ⊥) [ inl x ↦ omega (arith, x) | inr x ↦ omega (arith, x) ]);
    };
    unread = λ is. is_same;
  }

  file_absent : AfterMount before.disk now.disk → now.disk.faults ≡ before.disk.faults
      → now.disk.last_mount ≡ mounted file false Absent
      → now.source ≡ before.source → now.sink ≡ before.sink → same → Is (unserved stop.NoFile 0)
  file_absent mount calm is source sink is_same = record {
    keeps = no_stream NO_FILE mount (omega (arith, calm)) (λ is. absurd (omega (arith, is)))
        (λ is. omega (arith, is))
        (λ is. omega (arith, is)) source sink;
    mounted = record { answer = inr (inr is); absent = (λ three. is, λ three. refl) };
    turn = record {
      unopened = λ is. refl;
      low = λ has. absurd (false≢true (sym (ap is_mounted is) ∙ has));
      high = λ has. omega arith;
      refused = λ is. absurd (elim is as (λ _. ⊥) [ inl x ↦ omega (arith, x) | inr x ↦ omega (arith, x) ]);
    };
    unread = λ is. is_same;
  }

  module _ (first : State) (mount : AfterMount before.disk first) (calm : first.faults ≡ before.disk.faults)
      (there : first.last_mount ≡ mounted file false There) (e : SessionEnd) where
    mounted_there : now.disk.last_mount ≡ first.last_mount → status_at e.end ≢ NO_FILE
        → IsMounted file false now.disk.last_mount (status_at e.end ≡ DISK_FAILED) (status_at e.end ≡ NO_FILE)
    mounted_there stays three = record {
      answer = inr (inl (stays ∙ there));
      absent = (λ is. absurd (three is), λ is. absurd (false≢true (ap is_mounted (sym is ∙ stays ∙ there))));
    }

    turn_there : now.disk.last_mount ≡ first.last_mount → first.turn ≤ e.kept_turn
        → e.kept_turn ≤ now.disk.turn
        → ((status_at e.end ≡ NO_STORE) ⊎ (status_at e.end ≡ NO_MEMORY) → e.kept_turn ≡ now.disk.turn)
        → IsKeptTurn (outcome_of e) (HasMounted now.disk) before.disk.turn now.disk.turn
    turn_there stays low high refused = record {
      unopened = λ is. absurd (is (ap is_mounted (stays ∙ there)));
      low = λ has. omega (arith, mount.same_turn, low);
      high = λ has. high;
      refused = refused;
    }

    -- a session was begun, after opening at `mid`
    served : (mid : State) → first.faults ≤ mid.faults → first.turn ≤ mid.turn
        → mid.tells ≡ first.tells → mid.tells_images ≡ first.tells_images → mid.last_mount ≡ first.last_mount
        → SessionKeeps (outside mid before.source before.sink) now e.end e.kept_turn → Is e
    served mid later turns told images stays k = record {
      keeps = record {
        later = omega (arith, calm, later, k.later);
        rose = λ is. rose_before before.disk.faults mid.faults now.disk.faults (omega (arith, calm, later))
            (k.rose is);
        no_turn_back = omega (arith, mount.same_turn, turns, k.no_turn_back);
        told = k.told ∙ told ∙ mount.told;
        images_told = k.images_told ∙ images ∙ mount.images_told;
        source_later = k.source_later;
        source_rose = k.source_rose;
        sink_later = k.sink_later;
        sink_rose = k.sink_rose;
        sink_calm = k.sink_calm;
        sink_told = k.sink_told;
      };
      mounted = mounted_there (k.same_mount ∙ stays) (λ is. k.served (inl is));
      turn = turn_there (k.same_mount ∙ stays) (omega (arith, turns, k.turn_low)) k.turn_high
          (λ is. absurd (elim is as (λ _. ⊥) [
            | inl four ↦ k.served (inr (inl four))
            | inr ten ↦ k.served (inr (inr ten))
          ]));
      unread = λ is. absurd (k.served is);
    }
      where
        rose_before : (a b c : ℕ) → a ≤ b → Rose b c → Rose a c
        rose_before a b c low rose = omega (arith, low, rose)

    -- no session was begun, though the file was there
    unserved_there : first.faults ≤ now.disk.faults → first.turn ≤ now.disk.turn
        → now.disk.tells ≡ first.tells → now.disk.tells_images ≡ first.tells_images
        → now.disk.last_mount ≡ first.last_mount → e.kept_turn ≡ now.disk.turn
        → (status_at e.end ≡ DISK_FAILED → Rose first.faults now.disk.faults) → status_at e.end ≢ DONE
        → status_at e.end ≢ NO_FILE → status_at e.end ≢ SOURCE_FAILED → status_at e.end ≢ SINK_FAILED
        → now.source ≡ before.source → now.sink ≡ before.sink → same → Is e
    unserved_there later turns told images stays turn rose zero three eight nine source sink is_same =
        record {
          keeps = record {
            later = omega (arith, calm, later);
            rose = λ is. subst (λ (n : ℕ). Rose n now.disk.faults) calm (rose is);
            no_turn_back = omega (arith, mount.same_turn, turns);
            told = told ∙ mount.told;
            images_told = images ∙ mount.images_told;
            source_later = omega (arith, ap (λ (x : SourceState). x.faults) source);
            source_rose = λ is. absurd (eight is);
            sink_later = omega (arith, ap (λ (x : SinkState). x.faults) sink);
            sink_rose = λ is. absurd (nine is);
            sink_calm = λ is. absurd (zero is);
            sink_told = ap (λ (x : SinkState). x.tells) sink;
          };
          mounted = mounted_there stays three;
          turn = turn_there stays (omega (arith, turn, turns)) (omega (arith, turn)) (λ is. turn);
          unread = λ is. is_same;
        }

module _ {D I O : Type 0} (seen : Seen D I O) (file : List ℕ) (before now : Held D I O)
    (e : SessionEnd) where
  abbrev old : State
  old = seen.disk before.disk

  abbrev z : State
  z = seen.disk now.disk

  abbrev Same : Type 0
  Same = (now.source ≡ before.source) × (now.sink ≡ before.sink)

  abbrev All : SessionEnd → Type 0
  All x = Whole file (outside_of seen before) (outside_of seen now) Same x

  -- what a session left
  keeps_of : {first : D} (y : HasSession seen (held first before.source before.sink) now e)
      → SessionKeeps (outside_of seen (held y.mid before.source before.sink)) (outside_of seen now) e.end
      e.kept_turn
  keeps_of y =
      let begun = held y.mid before.source before.sink in
      subst (λ (w : SessionEnd). SessionKeeps (outside_of seen begun) (outside_of seen now) w.end w.kept_turn)
      (sym y.ended) (session_keeps seen begun now y.store y.new y.end y.ran)

  whole_served : RunsMounted seen file before now e → All e
  whole_served x = by x.steps
    where
      by : OpenRunSteps seen (held x.first before.source before.sink) now e → All e
      by (inl (inl is, source, sink)) =
          let f = is.opening.frame in
          let why : e.end ≡ Err (stop_of is.fault) = ap (λ (y : SessionEnd). y.end) is.ended in
          let status : status_at e.end ≡ status_of (stop_of is.fault) = ap status_at why in
          unserved_there file (outside_of seen before) (outside_of seen now) Same (seen.disk x.first) x.mount
          x.calm x.there e is.opening.cause.later f.no_turn_back f.stays.told
          f.stays.images_told f.stays.same_mount (ap (λ (y : SessionEnd). y.kept_turn) is.ended)
          (λ seven. is.opening.cause.rose
          (ap (λ (y : OpenFault). Err y) (disk_by is.fault (sym status ∙ seven))))
          (λ n. not_status is.fault DONE (λ y. omega (arith, y)) (λ y. omega (arith, y))
          (λ y. omega (arith, y)) (sym status ∙ n))
          (λ n. not_status is.fault NO_FILE (λ y. omega (arith, y)) (λ y. omega (arith, y))
          (λ y. omega (arith, y)) (sym status ∙ n))
          (λ n. not_status is.fault SOURCE_FAILED (λ y. omega (arith, y)) (λ y. omega (arith, y))
          (λ y. omega (arith, y)) (sym status ∙ n))
          (λ n. not_status is.fault SINK_FAILED (λ y. omega (arith, y)) (λ y. omega (arith, y))
          (λ y. omega (arith, y)) (sym status ∙ n))
          (ap seen.source source) (ap seen.sink sink) (source, sink)
      by (inl (inr is, source, sink)) =
          let f = is.opening.frame in
          let status : status_at e.end ≡ NO_MEMORY = ap (λ (y : SessionEnd). status_at y.end) is.ended in
          unserved_there file (outside_of seen before) (outside_of seen now) Same (seen.disk x.first) x.mount
          x.calm x.there e is.opening.cause.later f.no_turn_back f.stays.told
          f.stays.images_told f.stays.same_mount (ap (λ (y : SessionEnd). y.kept_turn) is.ended)
          (λ n. absurd (omega (arith, n, status))) (λ n. omega (arith, n, status))
          (λ n. omega (arith, n, status))
          (λ n. omega (arith, n, status)) (λ n. omega (arith, n, status))
          (ap seen.source source) (ap seen.sink sink) (source, sink)
      by (inr y) =
          let f = y.opening.frame in
          served file (outside_of seen before) (outside_of seen now) Same (seen.disk x.first)
          x.mount x.calm x.there e (seen.disk y.mid) y.opening.cause.later
          f.no_turn_back f.stays.told f.stays.images_told f.stays.same_mount
          (keeps_of y)

  pub whole : RunSteps seen file before now e → All e
  whole (inl (is, source, sink)) = elim is.which as (λ _. All e) [
    | inl failed ↦ subst All (sym failed.0)
        (mount_failed file (outside_of seen before) (outside_of seen now) Same is.mount is.later failed.2
        failed.1 (ap seen.source source) (ap seen.sink sink)
        (source, sink))
    | inr gone ↦ subst All (sym gone.0)
        (file_absent file (outside_of seen before) (outside_of seen now) Same is.mount gone.2 gone.1
        (ap seen.source source) (ap seen.sink sink) (source, sink))
  ]
  whole (inr x) = whole_served x

  -- ---- a file that is refused

  -- it stays as it is
  pub untouched : RunSteps seen file before now e → (status_at e.end ≡ NO_FILE) ⊎ (status_at e.end ≡ NO_STORE)
      → Untouched old z
  untouched (inl (is, source, sink)) status = mount_untouched old z is.mount is.later
  untouched (inr x) status = by x.steps status
    where
      by : OpenRunSteps seen (held x.first before.source before.sink) now e
          → (status_at e.end ≡ NO_FILE) ⊎ (status_at e.end ≡ NO_STORE) → Untouched old z
      by (inl (inl is, source, sink)) (inl three) = absurd (not_status is.fault NO_FILE
          (λ y. omega (arith, y)) (λ y. omega (arith, y)) (λ y. omega (arith, y))
          (sym (ap (λ (y : SessionEnd). status_at y.end) is.ended) ∙ three))
      by (inl (inl is, source, sink)) (inr four) = Untouched-then
          (mount_untouched old (seen.disk x.first) x.mount (omega (arith, x.calm)))
          (refused_unchanged (seen.disk x.first) z is.fault
          (sym (ap (λ (y : SessionEnd). status_at y.end) is.ended) ∙ four) is.opening.unchanged)
      by (inl (inr is, source, sink)) status =
          let ten : status_at e.end ≡ NO_MEMORY = ap (λ (y : SessionEnd). status_at y.end) is.ended in
          absurd (elim status as (λ _. ⊥) [ inl n ↦ omega (arith, n, ten) | inr n ↦ omega (arith, n, ten) ])
      by (inr y) status =
          let k = keeps_of y in
          absurd (elim status as (λ _. ⊥) [ inl n ↦ k.served (inl n) | inr n ↦ k.served (inr (inl n)) ])

  -- a file that isn't served ends the command as its first refusal says
  pub refused_by : IsTrue old.tells → NeverServed old.file
      → RunSteps seen file before now e
      → EndsBy (IsRefused old.file) [] e.end × (now.sink ≡ before.sink)
  refused_by told never (inl (is, source, sink)) = (
    elim is.which as (λ _. EndsBy (IsRefused old.file) [] e.end) [
      | inl failed ↦ subst (λ (y : SessionEnd). EndsBy (IsRefused old.file) [] y.end) (sym failed.0)
          (inr refl)
      | inr gone ↦ subst (λ (y : SessionEnd). EndsBy (IsRefused old.file) [] y.end) (sym gone.0) refl
    ],
    sink,
  )
  refused_by told never (inr x) = by x.steps
    where
      told_first : IsTrue (seen.disk x.first).tells
      told_first = x.mount.told ∙ told

      same_file : (seen.disk x.first).file ≡ old.file
      same_file = x.mount.same_file told

      never_opened : (a : State) (s : StoreValue) → IsOpening CLASSES (seen.disk x.first) a (Ok s) → ⊥
      never_opened a s is =
          let o = is.opened told_first in
          never o.m o.b
          (subst (λ (f : List ℕ). Opens CLASSES SIZE_MAX f o.m o.b) same_file
          (record { table = o.table; opens = o.found }))

      by : OpenRunSteps seen (held x.first before.source before.sink) now e
          → EndsBy (IsRefused old.file) [] e.end × (now.sink ≡ before.sink)
      by (inl (inl is, source, sink)) = (
        subst (λ (y : SessionEnd). EndsBy (IsRefused old.file) [] y.end) (sym is.ended)
            (refuses old.file is.fault (subst (λ (f : List ℕ). RefusesToOpen CLASSES f is.fault)
            same_file (is.opening.refused told_first))),
        sink,
      )
      by (inl (inr is, source, sink)) = absurd (never_opened z is.store is.opening)
      by (inr y) = absurd (never_opened (seen.disk y.mid) y.store y.opening)

  -- ---- the statuses

  abbrev IsKnown : ℕ → Type 0
  IsKnown status = (is_session status ≡ true) ⊎ (status ≡ NO_STORE)

  known_session : (how : End) (done : ℕ) → IsKnown (status_at (end_of how done))
  known_session ends.End done = inl refl
  known_session ends.Line done = inl refl
  known_session ends.Disk done = inl refl
  known_session ends.Source done = inl refl
  known_session ends.Sink done = inl refl
  known_session ends.Budget done = inl refl

  known_unopened : (n : ℕ) → (n ≡ NO_STORE) ⊎ (n ≡ DISK_FAILED) ⊎ (n ≡ NO_MEMORY) → IsKnown n
  known_unopened n (inl four) = inr four
  known_unopened n (inr (inl seven)) = inl (ap is_session seven)
  known_unopened n (inr (inr ten)) = inl (ap is_session ten)

  pub known : RunSteps seen file before now e → IsKnown (status_at e.end)
  known (inl (is, source, sink)) = elim is.which as (λ _. IsKnown (status_at e.end)) [
    | inl failed ↦ inl (ap (λ (y : SessionEnd). is_session (status_at y.end)) failed.0)
    | inr gone ↦ inl (ap (λ (y : SessionEnd). is_session (status_at y.end)) gone.0)
  ]
  known (inr x) = by x.steps
    where
      by : OpenRunSteps seen (held x.first before.source before.sink) now e
          → IsKnown (status_at e.end)
      by (inl (inl is, source, sink)) = subst (λ (y : SessionEnd). IsKnown (status_at y.end)) (sym is.ended)
          (known_unopened (status_of (stop_of is.fault)) (status_unopened is.fault))
      by (inl (inr is, source, sink)) = inl (ap (λ (y : SessionEnd). is_session (status_at y.end)) is.ended)
      by (inr y) = subst (λ (w : SessionEnd). IsKnown (status_at w.end)) (sym y.ended)
          (known_session y.end y.new.done)
