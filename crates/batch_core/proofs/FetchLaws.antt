-- What a store keeps as a batch, as it is read.
use Rattle.std.specs.Prelude.{◌≡◌, ◌⊎◌, ℕ, ◌≤◌, Bool, true, false, not, if◌then◌else◌, List, length, take, is_some, Option, Some, None, option_map, Result, Ok, Err, IfOk, IsTrue, refl}
use Rattle.std.proofs.Common.{arith, ap, sym, ◌∙◌, subst, inl, inr}
use Rattle.std.proofs.Math.Seq.{length-take-le}
use Rattle.std.specs.FinMap as fin
use Rattle.disk_face.specs.States as disk
use Rattle.disk_face.specs.Frames.{Unchanged}
use Rattle.disk_face.proofs.MomentLaws.{Leaves-weaken}
use Rattle.slot_pair.specs.Finding.{HasDiskCause}
use Rattle.size_class.specs.declared.TheConstants.{SIZE_MAX}
use Rattle.map_model.specs.Maps.{Map}
use Rattle.map_model.specs.Requests as ask
use Rattle.segment_layout.specs.Books.{Book, differs, is_damaged}
use Rattle.extent_table.specs.declared.spot.Spot.{Spot}
use Rattle.store_model.specs.declared.answers.Refusal.{Refusal}
use Rattle.store_model.specs.declared.answers.Refusal.TheVariants as why
use Rattle.store_model.specs.Answers.{AnswersFetch, refusal_for, refused_by, size_at}
use Rattle.data_area.proofs.CauseLaws.{calm_disk, disk_cause_as}
use Rattle.store_model.specs.Readings.{digest_read}
use Rattle.store_model.specs.Reads as reads
use Rattle.store_model.specs.Connection.{IsOver, StoreValue, base_of}
use Rattle.store_model.specs.Digested.{digest_of}
use Rattle.store_model.specs.States.{State, object_in}
use Rattle.store_model.specs.Stores.{IsStore}
use Rattle.store_model.proofs.OverLaws.{kept_image, same_itself}
use Rattle.store_model.proofs.StoreLaws.{small_object}
use Rattle.batch_model.specs.Batches.{batch_name}
use Rattle.batch_core.specs.Answers.{AnswersFinish, FetchedAs, Finishes, IsFetched, JudgesKept, fetched_of, is_begun, is_disk_fault, kept_batch}
use Rattle.batch_core.specs.Doing.{CanGo, IsBatchMap}
use Rattle.batch_core.specs.Going.{IsLeft}
use Rattle.batch_core.specs.StoresOn.{StoreOn, state_on, store_on}
use Rattle.batch_core.specs.declared.fault.BatchFault.{BatchFault}
use Rattle.batch_core.specs.declared.fault.BatchFault.TheVariants as fault
use Rattle.batch_core.proofs.ApplyLaws.{stands_some}
use Rattle.batch_core.proofs.GoesLaws.{kept_left}
use Rattle.batch_core.proofs.RequestLaws.{sized_live}
use Rattle.batch_core.proofs.ServedLaws.{refused_whole}

some_object : (m : Map) (name : List ℕ) → fin.contains_key m name ≡ true
    → fin.get m name ≡ Some (object_in m name)
some_object m name live = by (fin.get m name) refl live
  where
    by : (o : Option (List ℕ)) → fin.get m name ≡ o → is_some o ≡ true
        → fin.get m name ≡ Some (object_in m name)
    by None is some = absurd (cc)
    by (Some object) is some = is ∙ ap Some (let e : object_in m name ≡ object = rw is refl in sym e)

damaged_is : (b : Book) (m : Map) (name object : List ℕ) → fin.get m name ≡ Some object
    → is_damaged b m name ≡ differs (digest_of b.digests name) (Some object)
damaged_is b m name object there = by b.digests
  where
    by : (o : Option Map) → is_damaged (record b { digests = o }) m name
        ≡ differs (digest_of o name) (Some object)
    by None = refl
    by (Some digests) = ap (differs (fin.get digests name)) there

module _ {classes : ℕ} (x : StoreOn) (go : CanGo classes x) where
  refused_get : refused_by x.store (ask.get batch_name) ≡ option_map refusal_for
      (if not (fin.contains_key x.store.now batch_name) then Some ask.missing else None)
  refused_get = refused_whole x.store (ask.get batch_name) go.whole

  pub fetch_small : size_at (fin.get x.store.now batch_name) ≤ SIZE_MAX
  fetch_small = by (fin.get x.store.now batch_name) refl
    where
      by : (o : Option Spot) → fin.get x.store.now batch_name ≡ o → size_at o ≤ SIZE_MAX
      by None is = omega arith
      by (Some s) is = small_object x.store go.sound batch_name s is

  pub map_live : fin.contains_key x.store.now batch_name ≡ true → IsTrue x.disk.tells
      → fin.contains_key (state_on x).map batch_name ≡ true
  map_live live told =
      let held = stands_some x go in
      ap (λ (m : Map). fin.contains_key m batch_name) (held.1.told told)
      ∙ sized_live held.0 x.store.now batch_name held.1.sized ∙ live

  -- what the state keeps as a batch
  pub there : IsTrue (fin.contains_key x.store.now batch_name) → IsTrue x.disk.tells
      → fin.get (state_on x).map batch_name ≡ Some (object_in (state_on x).map batch_name)
  there live told = some_object (state_on x).map batch_name (map_live live told)

  none_refused : fin.contains_key x.store.now batch_name ≡ true
      → refused_by x.store (ask.get batch_name) ≡ None
  none_refused live = refused_get ∙ ap (λ (b : Bool). option_map refusal_for (if not b then Some ask.missing
      else None)) live

  served : (r : Result ℕ Refusal)
      → AnswersFetch (refused_by x.store (ask.get batch_name)) (size_at (fin.get x.store.now batch_name)) r
      → fin.contains_key x.store.now batch_name ≡ true
      → (r ≡ Ok (size_at (fin.get x.store.now batch_name))) ⊎ (r ≡ Err why.Disk) ⊎ (r ≡ Err why.Damaged)
  served r answer live = subst (λ (o : Option Refusal). AnswersFetch o
      (size_at (fin.get x.store.now batch_name)) r) (none_refused live) answer

  missing : (r : Result ℕ Refusal)
      → AnswersFetch (refused_by x.store (ask.get batch_name)) (size_at (fin.get x.store.now batch_name)) r
      → fin.contains_key x.store.now batch_name ≡ false → r ≡ Err why.Missing
  missing r answer gone = subst (λ (o : Option Refusal). AnswersFetch o
      (size_at (fin.get x.store.now batch_name)) r) (refused_get ∙ ap (λ (b : Bool). option_map refusal_for
      (if not b then Some ask.missing else None)) gone) answer

  module _ (d : disk.State) (text : List ℕ)
      (room : size_at (fin.get x.store.now batch_name) ≤ length text) where
    kept_text_is : (n : ℕ) → n ≡ size_at (fin.get x.store.now batch_name)
        → fin.contains_key x.store.now batch_name ≡ true
        → (IsTrue x.disk.tells → take n text ≡ object_in (state_on x).map batch_name)
        → (IsTrue x.disk.tells → differs (digest_of x.store.book.digests batch_name)
        (Some (object_in (state_on x).map batch_name)) ≡ false)
        → FetchedAs x text (Ok (Some n))
    kept_text_is n is live same fine =
        let low : n ≤ SIZE_MAX = omega (arith, is, fetch_small) in (
          omega (arith, is, room),
          low,
          record {
            pending = live;
            long = sym is ∙ sym (length-take-le n text (omega (arith, is, room)));
            same = same;
            sound = λ told. damaged_is x.store.book (state_on x).map batch_name
                (object_in (state_on x).map batch_name)
                (some_object (state_on x).map batch_name (map_live live told)) ∙ fine told;
          },
        )

    by_answer : (r : Result ℕ Refusal) → fin.contains_key x.store.now batch_name ≡ true
        → (r ≡ Ok (size_at (fin.get x.store.now batch_name))) ⊎ (r ≡ Err why.Disk) ⊎ (r ≡ Err why.Damaged)
        → (IsTrue x.disk.tells → IfOk r (λ n. take n text ≡ object_in (state_on x).map batch_name))
        → (IsTrue x.disk.tells → reads.IsJudged (digest_of x.store.book.digests batch_name)
        (object_in (state_on x).map batch_name) r)
        → FetchedAs x text (fetched_of r)
    by_answer r live (inl is) same judged = subst (λ (z : Result ℕ Refusal). FetchedAs x text (fetched_of z))
        (sym is) (kept_text_is (size_at (fin.get x.store.now batch_name)) refl live
        (λ told. subst (λ (z : Result ℕ Refusal). IfOk z (λ n. take n text
        ≡ object_in (state_on x).map batch_name)) is (same told))
        (λ told. (subst (λ (z : Result ℕ Refusal). reads.IsJudged (digest_of x.store.book.digests batch_name)
        (object_in (state_on x).map batch_name) z) is (judged told)).fine))
    by_answer r live (inr (inl is)) same judged = subst (λ (z : Result ℕ Refusal).
        FetchedAs x text (fetched_of z)) (sym is) live
    by_answer r live (inr (inr is)) same judged = subst (λ (z : Result ℕ Refusal).
        FetchedAs x text (fetched_of z)) (sym is) (
          live,
          λ told. damaged_is x.store.book (state_on x).map batch_name
              (object_in (state_on x).map batch_name)
              (some_object (state_on x).map batch_name (map_live live told)) ∙ (judged told).damaged is,
        )

    -- the disk failed in both or in neither
    fault_back : (r : Result ℕ Refusal)
        → AnswersFetch (refused_by x.store (ask.get batch_name)) (size_at (fin.get x.store.now batch_name)) r
        → fetched_of r ≡ Err fault.Disk → r ≡ Err why.Disk
    fault_back r answer is = by (fin.contains_key x.store.now batch_name) refl
      where
        by : (b : Bool) → fin.contains_key x.store.now batch_name ≡ b → r ≡ Err why.Disk
        by true live = elim (served r answer live) as (λ _. r ≡ Err why.Disk) [
          | inl ok ↦ absurd (let e : Ok (Some (size_at (fin.get x.store.now batch_name))) ≡ Err fault.Disk =
              sym (ap fetched_of ok) ∙ is in cc)
          | inr rest ↦ elim rest as (λ _. r ≡ Err why.Disk) [
            | inl failed ↦ failed
            | inr bad ↦
                absurd (let e : Err fault.Damaged ≡ Err fault.Disk = sym (ap fetched_of bad) ∙ is in cc)
          ]
        ]
        by false gone = absurd (let e : Ok None ≡ Err fault.Disk = sym (ap fetched_of (missing r answer gone))
            ∙ is in cc)

    fault_on : (r : Result ℕ Refusal) → r ≡ Err why.Disk → fetched_of r ≡ Err fault.Disk
    fault_on r is = ap fetched_of is

    pub fetch_is : (r : Result ℕ Refusal)
        → AnswersFetch (refused_by x.store (ask.get batch_name)) (size_at (fin.get x.store.now batch_name)) r
        → (x.store.is_broken ≡ false → IsTrue x.disk.tells
        → IfOk r (λ n. take n text ≡ object_in (state_on x).map batch_name))
        → (x.store.is_broken ≡ false → IsTrue x.disk.tells → refused_by x.store (ask.get batch_name) ≡ None
        → reads.IsJudged (digest_read x.store (ask.get batch_name)) (object_in (state_on x).map batch_name) r)
        → Unchanged x.disk d → HasDiskCause why.Disk x.disk.faults d.faults r
        → IsFetched x d text (fetched_of r)
    fetch_is r answer same judged frame cause = record {
      fetched = by (fin.contains_key x.store.now batch_name) refl;
      frame = frame;
      cause = disk_cause_as cause (fault_back r answer) (fault_on r);
    }
      where
        by : (b : Bool) → fin.contains_key x.store.now batch_name ≡ b → FetchedAs x text (fetched_of r)
        by true live = by_answer r live (served r answer live) (same go.whole)
            (λ told. judged go.whole told (none_refused live))
        by false gone = subst (λ (z : Result ℕ Refusal). FetchedAs x text (fetched_of z))
            (sym (missing r answer gone)) (none_there (fin.get x.store.now batch_name) gone)
          where
            none_there : (o : Option Spot) → is_some o ≡ false → o ≡ None
            none_there None e = refl
            none_there (Some s) e = absurd (cc)

-- ---- what an answer says of the store after it

-- a store that nothing was begun with isn't broken, and keeps no batch
pub whole_by : {classes : ℕ} (s : StoreValue) → IsStore classes s → (result : Result Bool BatchFault)
    → AnswersFinish s result → IfOk result (λ done. (s.is_broken ≡ false) × IsStore classes s)
whole_by s h (Ok true) answer = (answer.0.0, h)
whole_by s h (Ok false) answer = (answer.0, h)
whole_by s h (Err why) answer = tt

pub gone_by : (s : StoreValue) (result : Result Bool BatchFault) → AnswersFinish s result
    → is_begun result ≡ false → IfOk result (λ done. fin.get s.now batch_name ≡ None)
gone_by s (Ok true) answer none = absurd (cc)
gone_by s (Ok false) answer none = answer.1
gone_by s (Err why) answer none = tt

-- ---- what a read leaves

module _ {classes : ℕ} (x : StoreOn) (go : CanGo classes x) (d : disk.State)
    (frame : Unchanged x.disk d) where
  told_before : IsTrue d.tells → IsTrue x.disk.tells
  told_before told = subst IsTrue frame.stays.told told

  pub go_after : CanGo classes (store_on x.store d)
  go_after = record {
    whole = go.whole;
    sound = go.sound;
    over = record {
      idle = go.over.idle;
      over = λ whole told. subst (λ (f : List ℕ). IsOver classes x.store f)
          (sym (frame.same_file (told_before told))) (go.over.over whole (told_before told));
    };
    ready = frame.stays.ready;
  }

  -- nothing was begun, and no call failed
  still_finishes : (result : Result Bool BatchFault) → d.faults ≡ x.disk.faults
      → AnswersFinish x.store result → (IsTrue x.disk.tells → JudgesKept x result)
      → is_begun result ≡ false → is_disk_fault result ≡ false
      → Finishes classes x (store_on x.store d) result
  still_finishes result calm answer judged none other = record {
    answer = answer;
    judged = judged;
    fails = λ bad. absurd (let e : true ≡ false = sym bad ∙ other in cc);
    same = λ begun. record { same_store = refl; same_disk = frame; same_faults = calm };
    begun = λ bad. absurd (let e : true ≡ false = sym bad ∙ none in cc);
    over = go_after.over;
    broken = record {
      calm = λ fine. refl;
      failed = λ bad. absurd (let e : true ≡ false = sym bad ∙ other in cc);
    };
    whole = whole_by x.store go.sound result answer;
    gone = gone_by x.store result answer none;
    frame = record { no_turn_back = frame.since.later; stays = frame.stays };
    cause = calm_disk (λ is. let e : true ≡ false = ap is_disk_fault (sym is) ∙ other in cc) calm;
  }

  pub fault_finishes : (text : List ℕ) (w : BatchFault) → FetchedAs x text (Err w)
      → HasDiskCause {T = Option ℕ} fault.Disk x.disk.faults d.faults (Err w)
      → Finishes classes x (store_on x.store d) (Err w)
  fault_finishes text fault.Broken is cause = absurd (is)
  fault_finishes text fault.NoBatch is cause = absurd (is)
  fault_finishes text (fault.Line n) is cause = absurd (is)
  fault_finishes text (fault.Unfit n) is cause = absurd (is)
  fault_finishes text fault.Worn is cause = absurd (is)
  fault_finishes text fault.Damaged is cause = still_finishes (Err fault.Damaged) (cause.calm (λ e. cc))
      (go.whole, is.0) is.1 refl refl
  fault_finishes text fault.Disk is cause = record {
    answer = (go.whole, is);
    judged = λ told. tt;
    fails = λ _ told. inr (refl, frame);
    same = λ bad. absurd (cc);
    begun = λ _ told changes batch. record {
      done = λ bad. absurd (cc);
      left = λ rest. Leaves-weaken _ (λ image may. kept_left _ x image (kept_image x.store go.sound
          x.disk.file (go.over.over go.whole told) image (rest image may))) frame.since;
      content = subst (λ (f : List ℕ). IsLeft classes (IsBatchMap (kept_batch x changes)) x f)
          (sym (frame.same_file told))
          (kept_left (IsBatchMap (kept_batch x changes)) x x.disk.file
          (kept_image x.store go.sound x.disk.file (go.over.over go.whole told) x.disk.file
          (same_itself (base_of x.store) x.store.kept x.disk.file)));
    };
    over = go_after.over;
    broken = record { calm = λ bad. absurd (cc); failed = λ bad. inr (refl, frame) };
    whole = tt;
    gone = tt;
    frame = record { no_turn_back = frame.since.later; stays = frame.stays };
    cause = record {
      later = cause.later;
      rose = λ e. cause.rose refl;
      calm = λ other. absurd (other refl);
    };
  }
