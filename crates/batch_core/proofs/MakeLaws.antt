-- One request of a batch by its answer: a change, a removal that finds nothing, or a keep.
use Rattle.std.specs.Prelude.{◌≡◌, ◌⊎◌, ℕ, ◌+◌, ◌*◌, Bool, true, false, ◌||◌, List, is_some, Option, Some, None, Result, Ok, Err, IsOk, is_err, IfSome, IsNone, IsSome, IsTrue, OnErr, OnOk, refl}
use Rattle.std.proofs.Common.{arith, ap, sym, ◌∙◌, subst, inl, inr}
use Rattle.std.specs.FinMap as fin
use Rattle.disk_face.specs.Counts.{HasCause}
use Rattle.disk_face.proofs.MomentLaws.{Leaves-weaken}
use Rattle.map_model.specs.Maps.{Map}
use Rattle.map_model.specs.Requests as ask
use Rattle.map_model.specs.Requests.{Change, Reply, changed}
use Rattle.segment_layout.specs.Books.{is_quiet, version_of}
use Rattle.store_model.specs.Sized.{IsSizedBy}
use Rattle.store_model.specs.Connection.{IsConnected, StoreValue, limits_of}
use Rattle.store_model.specs.Quiet.{charges_of}
use Rattle.store_model.specs.States.{Served, State, Step, accepted, served}
use Rattle.store_model.specs.Stores.{IsStore}
use Rattle.store_model.specs.declared.answers.Refusal.{Refusal}
use Rattle.store_model.specs.declared.answers.Refusal.TheVariants as why
use Rattle.store_model.specs.declared.answers.Done.{Done}
use Rattle.store_model.specs.Answers.{AnswersChange, done_reply, facts_at, refused_by, reply_of}
use Rattle.store_model.specs.Answers as store
use Rattle.store_model.specs.Changes.{IsQuietChange, NothingChanged}
use Rattle.store_model.specs.Changing.{IsChange}
use Rattle.store_model.specs.Flushes.{IsFlush, IsFlushImage, book_after, map_after}
use Rattle.store_model.specs.Keeps.{AnswersKeep, KeepsNow, OpensToKeptOrNow, kept_now, now_map}
use Rattle.batch_core.specs.Doing.{CanGo, IsKeptNow}
use Rattle.batch_core.specs.Making.{CanMake, IsDone, IsDoneAs, IsMakingImage, Makes, left_by, most_raised}
use Rattle.batch_core.specs.StoresOn.{StandsFor, StoreOn, state_on}
use Rattle.batch_core.proofs.ServedLaws.{accepts, missing_at, missing_gone, next_version}
use Rattle.table_rules.specs.Sequences.{HasSequenceUpTo}
use Rattle.table_rules.proofs.SequenceLaws.{sequence_wider}
use Rattle.batch_core.proofs.RequestLaws.{flush_done, kept_is, missing_done, none_is, opens_as, quiet_done, same_content, same_left, sized_live}
use Rattle.store_model.proofs.AnsweredLaws.{served_is}

-- ---- what an answer stands for

-- it was done, or the disk failed
abbrev DoneOrDisk : Result Done Refusal → Type 0
DoneOrDisk result = IsOk result ⊎ (result ≡ Err why.Disk)

as_ok : {T E : Type 0} (P : Type 0) (result : Result Done Refusal) (r : Result T E) → DoneOrDisk result
    → IsDoneAs result r → OnOk result P → OnOk r P
as_ok P (Ok done) (Ok u) answer agrees p = p
as_ok P (Ok done) (Err e) answer agrees p = absurd (let bad : Ok done ≡ Err agrees.0 = agrees.1 in cc)
as_ok P (Err w) (Ok u) (inl ok) agrees p = absurd (cc)
as_ok P (Err w) (Ok u) (inr disk) (inl ok) p = absurd (cc)
as_ok P (Err w) (Ok u) (inr disk) (inr missing) p = absurd (cc)
as_ok P (Err w) (Err e) answer agrees p = tt

as_err : {T E : Type 0} (P : Type 0) (result : Result Done Refusal) (r : Result T E) → IsDoneAs result r
    → OnErr result P → OnErr r P
as_err P (Ok done) (Ok u) agrees p = tt
as_err P (Ok done) (Err e) agrees p = absurd (let bad : Ok done ≡ Err agrees.0 = agrees.1 in cc)
as_err P (Err w) (Ok u) agrees p = tt
as_err P (Err w) (Err e) agrees p = p

as_fault : {T E : Type 0} (result : Result Done Refusal) (r : Result T E) → DoneOrDisk result
    → IsDoneAs result r → store.is_disk_fault result ≡ is_err r
as_fault (Ok done) (Ok u) answer agrees = refl
as_fault (Ok done) (Err e) answer agrees = absurd (let bad : Ok done ≡ Err agrees.0 = agrees.1 in cc)
as_fault {T} {E} (Err w) (Ok u) answer agrees =
    absurd (as_ok {T = T} {E = E} ⊥ (Err w) (Ok u) answer agrees tt)
as_fault (Err w) (Err e) (inl ok) agrees = absurd (cc)
as_fault (Err w) (Err e) (inr is) agrees = ap (λ (y : Result Done Refusal). store.is_disk_fault y) is

as_cause : {T E : Type 0} {before now : ℕ} (result : Result Done Refusal) (r : Result T E)
    → DoneOrDisk result → IsDoneAs result r → HasCause before now result → HasCause before now r
as_cause result r answer agrees cause = record {
  later = cause.later;
  rose = as_err _ result r agrees cause.rose;
  calm = as_ok _ result r answer agrees cause.calm;
}

-- what holds with each answer that was done
on_done : {P : Type 0} (result : Result Done Refusal) → ((done : Done) → result ≡ Ok done → P)
    → OnOk result P
on_done (Ok done) f = f done refl
on_done (Err w) f = tt

at_done : {P : Type 0} (result : Result Done Refusal) (done : Done) → result ≡ Ok done → OnOk result P → P
at_done (Ok x) done is p = p
at_done (Err w) done is p = absurd (cc)

-- ---- a change

module _ {classes : ℕ} {T E : Type 0} (x y : StoreOn) (c : Change) (result : Result Done Refusal)
    (r : Result T E) (agrees : IsDoneAs result r) (go : CanGo classes x)
    (is : IsChange classes c x.store y.store x.disk y.disk result)
    (step : x.store.is_broken ≡ false → IsTrue x.disk.tells → IfSome (reply_of done_reply result)
    (λ reply. Step (limits_of x.store) (state_on x) (ask.change c) reply (state_on y)))
    (sound : y.store.is_broken ≡ false → y.store.in_hand ≡ None → IsStore classes y.store)
    (m : Map) (stands : StandsFor x m) where
  broken : y.store.is_broken ≡ store.is_disk_fault result
  broken = is.broken ∙ ap (λ (b : Bool). b || store.is_disk_fault result) go.whole

  steps : (done : Done) → result ≡ Ok done → IsTrue x.disk.tells
      → (reply : Reply) × Step (limits_of x.store) (state_on x) (ask.change c) reply (state_on y)
  steps done ok told = (
    done_reply done,
    subst (λ (z : Result Done Refusal). IfSome (reply_of done_reply z) (λ reply. Step (limits_of x.store)
        (state_on x) (ask.change c) reply (state_on y))) ok (step go.whole told),
  )

  sounds : (done : Done) → result ≡ Ok done → IsStore classes y.store
  sounds done ok = sound (broken ∙ ap (λ (z : Result Done Refusal). store.is_disk_fault z) ok) is.over.idle

  module _ (none : refused_by x.store (ask.change c) ≡ None) (answer : DoneOrDisk result) where
    quiet_makes : is_quiet (charges_of x.store c) ≡ true
        → IsQuietChange classes c x.store y.store x.disk y.disk result
        → Makes classes (ask.change c) x y m r
    quiet_makes quiet q = record {
      done = as_ok _ result r answer agrees (on_done result (λ done ok. quiet_done x y m go stands c none
          (steps done ok) (sounds done ok) quiet (at_done result done ok q.value) q.frame.stays.told
          q.rests));
      left = λ told rest. Leaves-weaken (IsMakingImage classes x (left_by (ask.change c) m))
          (λ image kept. kept_is x y m go stands image kept.opens kept.sequence (ask.change c))
          (q.left told rest);
      content = λ told. kept_is x y m go stands y.disk.file (q.content told) (q.sequence told) (ask.change c);
      over = is.over;
      broken = broken ∙ as_fault result r answer agrees;
      cause = as_cause result r answer agrees q.calls.cause;
      frame = q.frame;
    }

    flush_image : IsTrue x.disk.tells → (image : List ℕ)
        → IsFlushImage classes x.store c x.disk.file image
        → IsMakingImage classes x (left_by (ask.change c) m) image
    flush_image told image f = elim f.opens
        as (λ _. IsMakingImage classes x (left_by (ask.change c) m) image) [
          | inl kept ↦ record { opens = inl kept; sequence = low }
          | inr now ↦ opens_as x y m go stands image (map_after x.store c x.disk.file)
              (book_after x.store c x.disk.file) (ask.change c) (ap (changed c) (stands.told told))
              (next_version x.store.in_use.block.k (state_on x).map x.store.book c) low now
        ]
      where
        low : HasSequenceUpTo (x.store.in_use.sequence + most_raised) image
        low = sequence_wider (x.store.in_use.sequence + 2 * x.store.in_use.block.k + 1)
            (x.store.in_use.sequence + most_raised) image (omega (arith, go.sound.block.divisor_high))
            f.sequence

    flush_makes : IsFlush classes c x.store y.store x.disk y.disk result
        → Makes classes (ask.change c) x y m r
    flush_makes f = record {
      done = as_ok _ result r answer agrees (on_done result (λ done ok. flush_done x y m go stands c none
          (steps done ok) (sounds done ok) (at_done result done ok f.value) f.frame.stays.told f.few_saves
          (λ told. at_done result done ok (f.on_table told))));
      left = λ told rest. Leaves-weaken (IsMakingImage classes x (left_by (ask.change c) m))
          (flush_image told) (f.left told rest);
      content = λ told. flush_image told y.disk.file (f.content told);
      over = is.over;
      broken = broken ∙ as_fault result r answer agrees;
      cause = as_cause result r answer agrees f.cause;
      frame = f.frame;
    }

    served_makes : Makes classes (ask.change c) x y m r
    served_makes = by (is_quiet (charges_of x.store c)) refl
      where
        none_now : IsNone (refused_by x.store (ask.change c))
        none_now = none_is (refused_by x.store (ask.change c)) none

        by : (q : Bool) → is_quiet (charges_of x.store c) ≡ q → Makes classes (ask.change c) x y m r
        by true q = quiet_makes q (is.quiet none_now q)
        by false q = flush_makes (is.flush none_now q)

  -- a removal that found nothing
  module _ (some : refused_by x.store (ask.change c) ≡ Some why.Missing) where
    same : NothingChanged x.store y.store x.disk y.disk
    same = is.refused (subst (λ (o : Option Refusal). IsSome o) (sym some) refl)

    answered : result ≡ Err why.Missing
    answered = subst (λ (o : Option Refusal). AnswersChange (is_quiet (charges_of x.store c)) o result) some
        is.answer

    facts : (c.object ≡ None) × (fin.contains_key x.store.now c.name ≡ false)
    facts = missing_gone (limits_of x.store) (facts_at x.store (ask.change c)) c
        (missing_at x.store (ask.change c) go.whole some)

    absent : fin.get m c.name ≡ None
    absent = by (fin.get m c.name) refl
      where
        by : (o : Option (List ℕ)) → fin.get m c.name ≡ o → fin.get m c.name ≡ None
        by None e = e
        by (Some object) e = absurd (let bad : true ≡ false = sym (ap is_some e)
            ∙ sized_live m x.store.now c.name stands.sized ∙ facts.1 in cc)

    missing_steps : IsTrue x.disk.tells
        → (reply : Reply) × Step (limits_of x.store) (state_on x) (ask.change c) reply (state_on y)
    missing_steps told = (
      ask.refused ask.missing,
      subst (λ (z : Result Done Refusal). IfSome (reply_of done_reply z) (λ reply. Step (limits_of x.store)
          (state_on x) (ask.change c) reply (state_on y))) answered (step go.whole told),
    )

    is_missing : IsDone classes (ask.change c) x y m
    is_missing = missing_done x y m go stands same c facts.0 absent missing_steps

    missing_makes : Makes classes (ask.change c) x y m r
    missing_makes = by r (subst (λ (z : Result Done Refusal). IsDoneAs z r) answered agrees)
      where
        by : (r : Result T E) → IsDoneAs (Err why.Missing) r → Makes classes (ask.change c) x y m r
        by (Err e) bad = absurd (let e : why.Missing ≡ bad.0 = (let z : Err why.Missing ≡ Err bad.0 = bad.1
            in cc) in bad.2 (sym e))
        by (Ok u) fine = record {
          done = is_missing;
          left = same_left x y m go stands same (ask.change c);
          content = same_content x y m go stands same (ask.change c);
          over = is.over;
          broken = broken ∙ ap (λ (z : Result Done Refusal). store.is_disk_fault z) answered;
          cause = record {
            later = omega (arith, same.same_faults);
            rose = tt;
            calm = same.same_faults;
          };
          frame = record {
            no_turn_back = same.same_disk.since.later;
            stays = same.same_disk.stays;
          };
        }

  pub change_makes : CanMake x.store (ask.change c) → Makes classes (ask.change c) x y m r
  change_makes (inl none) = served_makes none (either (subst (λ (o : Option Refusal). AnswersChange
      (is_quiet (charges_of x.store c)) o result) none is.answer))
    where
      either : AnswersChange (is_quiet (charges_of x.store c)) None result → DoneOrDisk result
      either (inl ok) = inl (subst (λ (z : Result Done Refusal). IsOk z) (sym ok) refl)
      either (inr failed) = inr failed
  change_makes (inr some) = missing_makes some

-- the same change, said otherwise
pub makes_as : {classes : ℕ} {T E : Type 0} (x y : StoreOn) (r : Result T E) (c d : Change)
    → c.name ≡ d.name → c.object ≡ d.object
    → ((m : Map) → StandsFor x m → Makes classes (ask.change c) x y m r)
    → (m : Map) → StandsFor x m → Makes classes (ask.change d) x y m r
makes_as {classes} x y r c d names objects made = subst (λ (e : Change). (m : Map) → StandsFor x m
    → Makes classes (ask.change e) x y m r) (λ i. record { name = names i; object = objects i }) made

-- ---- a keep

module _ {classes : ℕ} {T E : Type 0} (x y : StoreOn) (result : Result Done Refusal)
    (r : Result T E) (agrees : IsDoneAs result r) (go : CanGo classes x)
    (none : refused_by x.store ask.keep ≡ None) (answer : AnswersKeep (refused_by x.store ask.keep) result)
    (k : IsNone (refused_by x.store ask.keep)
    → KeepsNow classes x.store y.store x.disk y.disk result)
    (step : x.store.is_broken ≡ false → IsTrue x.disk.tells → IfSome (reply_of done_reply result)
    (λ reply. Step (limits_of x.store) (state_on x) ask.keep reply (state_on y)))
    (over_now : IsConnected classes y.store y.disk)
    (broken_now : y.store.is_broken ≡ (x.store.is_broken || store.is_disk_fault result))
    (sound : y.store.is_broken ≡ false → y.store.in_hand ≡ None → IsStore classes y.store) where
  keeps : KeepsNow classes x.store y.store x.disk y.disk result
  keeps = k (none_is (refused_by x.store ask.keep) none)

  kept_or_disk : DoneOrDisk result
  kept_or_disk = elim (subst (λ (o : Option Refusal). AnswersKeep o result) none answer)
      as (λ _. DoneOrDisk result) [
        | inl ok ↦ inl (subst (λ (z : Result Done Refusal). IsOk z) (sym ok) refl)
        | inr failed ↦ inr failed
      ]

  broken_keep : y.store.is_broken ≡ store.is_disk_fault result
  broken_keep = broken_now ∙ ap (λ (b : Bool). b || store.is_disk_fault result) go.whole

  -- what stands is what is kept
  pub keeps_now : OnOk r (IsKeptNow y.store)
  keeps_now = as_ok _ result r kept_or_disk agrees (on_done result (λ done ok.
      let value : y.store ≡ kept_now x.store = at_done result done ok keeps.value in (
        ap (λ (z : StoreValue). z.kept) value ∙ sym (ap (λ (z : StoreValue). z.now) value),
        ap (λ (z : StoreValue). z.kept_book) value ∙ sym (ap (λ (z : StoreValue). z.book) value),
      )))

  module _ (m : Map) (stands : StandsFor x m) where
    keep_image : IsTrue x.disk.tells → (image : List ℕ)
        → OpensToKeptOrNow classes x.store x.disk.file image
        → IsMakingImage classes x (left_by ask.keep m) image
    keep_image told image e = elim e.opens as (λ _. IsMakingImage classes x (left_by ask.keep m) image) [
      | inl kept ↦ record { opens = inl kept; sequence = low }
      | inr now ↦ opens_as x y m go stands image (now_map x.store x.disk.file) x.store.book ask.keep
          (stands.told told) refl low now
    ]
      where
        low : HasSequenceUpTo (x.store.in_use.sequence + most_raised) image
        low = sequence_wider (x.store.in_use.sequence + 1) (x.store.in_use.sequence + most_raised) image
            (omega arith) e.sequence

    keep_served : served (limits_of x.store) (state_on x) ask.keep
        ≡ accepted (limits_of x.store) (state_on x) ask.keep
    keep_served = accepts x.store x.disk.file ask.keep go.sound (served_is x.store ask.keep go.whole none)

    keep_done : (done : Done) → result ≡ Ok done → IsDone classes ask.keep x y m
    keep_done done ok =
        let value : y.store ≡ kept_now x.store = at_done result done ok keeps.value in
        let steps : IsTrue x.disk.tells
        → Step (limits_of x.store) (state_on x) ask.keep (done_reply done) (state_on y) = λ told.
        subst (λ (z : Result Done Refusal). IfSome (reply_of done_reply z) (λ reply. Step (limits_of x.store)
        (state_on x) ask.keep reply (state_on y))) ok (step go.whole told) in
        record {
          step = λ told. (done_reply done, steps told);
          stands = record {
            sized = subst (λ (z : StoreValue). IsSizedBy m z.now) (sym value) stands.sized;
            told = λ told.
                let before : IsTrue x.disk.tells = subst IsTrue keeps.frame.stays.told told in
                ap (λ (t : State). t.map) (steps before).state
                ∙ ap (λ (v : Served). v.state.map) keep_served ∙ stands.told before;
          };
          kept = λ told. inr (
            ap (λ (t : State). t.kept) (steps told).state ∙ ap (λ (v : Served). v.state.kept) keep_served
                ∙ stands.told told,
            ap (λ (z : StoreValue). version_of z.kept_book) value,
          );
          rests = λ told rest. at_done result done ok (keeps.on_table told);
          block = ap (λ (z : StoreValue). z.in_use.block) value;
          version = ap (λ (z : StoreValue). version_of z.book) value;
          reach = omega (arith, ap (λ (z : StoreValue). z.in_use.sequence) value);
          sound = sound (broken_keep ∙ ap (λ (z : Result Done Refusal). store.is_disk_fault z) ok)
              over_now.idle;
        }

    pub keep_makes : Makes classes ask.keep x y m r
    keep_makes = record {
      done = as_ok _ result r kept_or_disk agrees (on_done result keep_done);
      left = λ told rest. Leaves-weaken (IsMakingImage classes x (left_by ask.keep m)) (keep_image told)
          (keeps.left told rest);
      content = λ told. keep_image told y.disk.file (keeps.content told);
      over = over_now;
      broken = broken_keep ∙ as_fault result r kept_or_disk agrees;
      cause = as_cause result r kept_or_disk agrees keeps.calls.cause;
      frame = keeps.frame;
    }
