-- A session in which no device failed has served each request of its input, or memory is wanting.
use Rattle.std.specs.Prelude.{◌≡◌, ◌≢◌, ◌⊎◌, ℕ, ◌+◌, ◌<◌, ◌||◌, true, false, List, [], length, refl}
use Rattle.std.proofs.Common.{arith, ap, sym, ◌∙◌, inl, inr, length-append}
use Rattle.std.proofs.lemmas.Bool.{cases_eq, ne_eqb, false≢true}
use Rattle.disk_face.specs.Counts.{IsCalm}
use Rattle.disk_face.specs.Mounts.{is_mounted}
use Rattle.disk_face.specs.States.{State}
use Rattle.disk_face.specs.Streams.{SinkState, SourceState}
use Rattle.disk_face.specs.declared.bay.Mounted.TheVariants.{There}
use Rattle.slot_codec.specs.Choice as choice
use Rattle.map_model.specs.Maps.{Map}
use Rattle.map_model.specs.Requests.{Request}
use Rattle.segment_layout.specs.Books.{Book}
use Rattle.ask_session.specs.Runs.{budget}
use Rattle.command_face.specs.declared.status.TheConstants.{DISK_FAILED, DONE, FAULTY_REQUEST, NO_FILE, NO_MEMORY, SINK_FAILED, SOURCE_FAILED, TOO_MANY_REQUESTS}
use Rattle.command_face.specs.Mounting.{IsMounted, mounted}
use Rattle.run_command.specs.Headline.{RunHolds, is_session}
use Rattle.run_command.specs.Sessions.{KeepsRun}
use Rattle.command_face.specs.declared.outcome.Outcome.{Outcome}
use Rattle.disk_face.specs.Devices.{devices}
use Rattle.served_file.specs.Served.{found_by}

-- of a session's statuses those are left that no fault has, of a device or of the input
status_calm : (n : ℕ) → is_session n ≡ true → n ≢ FAULTY_REQUEST → n ≢ NO_FILE → n ≢ DISK_FAILED
    → n ≢ SOURCE_FAILED → n ≢ SINK_FAILED → n ≢ TOO_MANY_REQUESTS
    → (n ≡ DONE) ⊎ (n ≡ NO_MEMORY)
status_calm n known two three seven eight nine eleven = elim (cases_eq n DONE)
    as (λ _. (n ≡ DONE) ⊎ (n ≡ NO_MEMORY)) [
      | inl zero ↦ inl zero
      | inr some ↦ elim (cases_eq n NO_MEMORY) as (λ _. (n ≡ DONE) ⊎ (n ≡ NO_MEMORY)) [
        | inl ten ↦ inr ten
        | inr other ↦ absurd (none some other)
      ]
    ]
  where
    none : n ≢ DONE → n ≢ NO_MEMORY → ⊥
    none zero ten =
        let a = ne_eqb n 0 zero in
        let b = ne_eqb n 2 two in
        let c = ne_eqb n 3 three in
        let d = ne_eqb n 7 seven in
        let e = ne_eqb n 8 eight in
        let f = ne_eqb n 9 nine in
        let g = ne_eqb n 10 ten in
        let h = ne_eqb n 11 eleven in
        let none_is : is_session n ≡ false = (λ i. a i || b i || c i || d i || e i || f i || g i || h i) in
        let both : true ≡ false = sym known ∙ none_is in
        absurd (cc)

module _ {t : choice.SlotTable} {m : Map} {b : Book} (requests : List Request) {o : Outcome} {old z : State}
    {from rest : SourceState} {out after : SinkState}
    (r : RunHolds (found_by t m b) requests [] o (devices old out) (devices z after) from rest) where
  -- those that were answered, and the others
  all_are : length requests ≡ o.done + length r.ran.others
  all_are = omega (
    arith,
    ap (λ (xs : List Request). length xs) r.ran.split,
    length-append r.ran.answered r.ran.others,
    r.ran.count,
  )

  pub all_served : (file : List ℕ) → length requests < budget → KeepsRun (devices old out) (devices z after)
      from rest o.status
      → IsMounted file false z.last_mount (o.status ≡ DISK_FAILED) (o.status ≡ NO_FILE)
      → z.last_mount ≡ mounted file false There → IsCalm old.faults z.faults → IsCalm from.faults rest.faults
      → IsCalm out.faults after.faults
      → ((o.status ≡ DONE) × (o.done ≡ length requests)) ⊎ ((o.status ≡ NO_MEMORY) × (o.done ≡ 0))
  all_served file few keeps mount there calm source_calm sink_calm =
      elim (status_calm o.status r.far.known
      (λ is. (r.far.line is).1 refl)
      (λ is. absurd (false≢true (ap is_mounted (sym (mount.absent.0 is) ∙ there))))
      (λ is. omega (arith, keeps.rose is, calm.same, calm.below))
      (λ is. omega (arith, keeps.source_rose is, source_calm.same, source_calm.below))
      (λ is. omega (arith, keeps.sink_rose is, sink_calm.same, sink_calm.below))
      (λ is. omega (arith, r.far.limit.0 is, all_are, few)))
      as (λ _. ((o.status ≡ DONE) × (o.done ≡ length requests)) ⊎ ((o.status ≡ NO_MEMORY) × (o.done ≡ 0))) [
        | inl zero ↦ inl (
          zero,
          omega (arith, all_are, ap (λ (xs : List Request). length xs) (r.far.done zero).0),
        )
        | inr ten ↦ inr (ten, (r.far.memory ten).0)
      ]
