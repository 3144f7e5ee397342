-- What `finish` does once the text was read.
use Rattle.std.specs.Prelude.{◌≡◌, ℕ, ◌+◌, ◌^◌, ◌<◌, nat_lt, Bool, true, false, cond, if◌then◌else◌, List, [], ◌∷◌, ◌++◌, length, is_some, Option, Some, None, option_map, Result, Ok, Err, IsTrue, refl}
use Rattle.std.proofs.Common.{arith, ap, sym, ◌∙◌, subst, inl}
use Rattle.std.proofs.Math.Nat.{le-max_left}
use Rattle.std.proofs.lemmas.Bool.{cond-false}
use Rattle.std.specs.FinMap as fin
use Rattle.std.specs.List.{AllByRecursion}
use Rattle.disk_face.specs.States as disk
use Rattle.disk_face.proofs.MomentLaws.{Leaves-weaken}
use Rattle.map_model.specs.Maps.{Map}
use Rattle.map_model.specs.Requests.{Change}
use Rattle.map_model.specs.Weights.{same_name}
use Rattle.map_model.proofs.MapLaws.{name_order, same_name-is}
use Rattle.extent_table.specs.declared.spot.Spot.{Spot}
use Rattle.store_model.specs.Sized.{IsSizedBy}
use Rattle.store_model.specs.Answers.{size_at}
use Rattle.data_area.proofs.CauseLaws.{calm_disk}
use Rattle.store_model.specs.Connection.{IsOver, SameOnTable, StoreValue, base_of, live_cap, state_of}
use Rattle.store_model.specs.States.{State, object_in}
use Rattle.store_model.proofs.OverLaws.{kept_image}
use Rattle.batch_model.specs.Batches.{IsBatch, IsNoBatch, IsPart, Rises, applied, batch_name}
use Rattle.batch_model.specs.Fits.{misfit}
use Rattle.batch_model.specs.Views.{unbatched}
use Rattle.batch_model.proofs.CountLaws.{counted_from_is, other_way}
use Rattle.batch_model.proofs.KeptLaws.{kept_again}
use Rattle.batch_model.proofs.TextLaws.{batch_one}
use Rattle.batch_model.proofs.ViewLaws.{leaves_batch}
use Rattle.segment_layout.specs.Books.{is_damaged}
use Rattle.batch_core.specs.Answers.{AnswersFinish, Finishes, HasFit, HasMisfit, IsBegun, IsJudged, IsKeptText, IsReadBy, IsPending, IsSound, JudgesKept, is_begun, is_disk_fault, kept_batch, kept_text}
use Rattle.batch_core.specs.Doing.{Batch, CanDo, CanGo, IsBatchMap, IsKeptNow, all_done, half_done, is_live, last_requests, misfit_in, names_beside, requests_for, worn_from}
use Rattle.batch_core.specs.Going.{Goes, IsLeft, Stops}
use Rattle.batch_core.specs.StoresOn.{StandsFor, StoreOn, state_on, store_on}
use Rattle.batch_core.specs.declared.fault.BatchFault.{BatchFault}
use Rattle.batch_core.specs.declared.fault.BatchFault.TheVariants as fault
use Rattle.batch_core.proofs.ApplyLaws.{absent_stands, few_made_by, goes_begun, stands_some, stops_begun}
use Rattle.batch_core.proofs.FetchLaws.{gone_by, there, whole_by}
use Rattle.batch_core.proofs.FitsLaws.{len_more}
use Rattle.batch_core.proofs.GoesLaws.{goes_then, going, kept_left, stops_then}
use Rattle.batch_core.proofs.RequestLaws.{sized_live}
use Rattle.store_model.proofs.SizedLaws.{sized_len}

-- ---- a disk that was read

module _ {classes : ℕ} (s : StoreValue) (a d : disk.State) (go : CanGo classes (store_on s d))
    (read : IsReadBy a d) where
  told_read : IsTrue a.tells → IsTrue d.tells
  told_read told = subst IsTrue (sym read.frame.stays.told) told

  same_state : IsTrue a.tells → state_of s d.file ≡ state_of s a.file
  same_state told = ap (state_of s) (read.frame.same_file told)

  pub goes_read : (Such : Map → Type 0) (m : Map) → StandsFor (store_on s d) m
      → Goes classes Such (store_on s a) (store_on s d) (going [] 0 m)
  goes_read Such m stands = record {
    most = le-max_left s.in_use.sequence (2 ^ 61);
    ran = λ told. ([], same_state told);
    stands = stands;
    kept = λ told. inl (ap (λ (t : State). t.kept) (same_state told), refl);
    rests = λ told rest image may. subst (λ (f : List ℕ). SameOnTable (base_of s) s.kept f image)
        (sym (read.frame.same_file told)) (rest image (read.frame.images image may));
    left = λ told rest. Leaves-weaken (IsLeft classes Such (store_on s a)) (λ image may.
        kept_left Such (store_on s a) image (kept_image s go.sound a.file
        (subst (λ (f : List ℕ). IsOver classes s f) (read.frame.same_file told)
        (go.over.over go.whole (told_read told))) image (rest image may))) read.frame.since;
    block = refl;
    version = refl;
    reach = omega arith;
    unbroken = go.whole;
    sound = go.sound;
    over = go.over;
    calm = read.calm;
    frame = record { no_turn_back = read.frame.since.later; stays = read.frame.stays };
  }

-- ---- the map beside the batch

module _ {classes : ℕ} (x : StoreOn) (text : List ℕ) (go : CanGo classes x) (kept : IsKeptText x text)
    (m : Map) (stands : StandsFor x m) where
  abbrev beside : Map
  beside = unbatched m

  pub beside_free : fin.get beside batch_name ≡ None
  beside_free = fin.get-remove name_order m batch_name batch_name

  sized_beside : IsSizedBy (fin.insert beside batch_name text) x.store.now
  sized_beside q = ap (option_map length) (fin.get-insert name_order beside batch_name text q
      ∙ ap (cond (same_name q batch_name) (Some text)) (fin.get-remove name_order m batch_name q))
      ∙ by (same_name q batch_name) refl
    where
      there : (o : Option Spot) → IsTrue (is_some o) → size_at o ≡ length text
          → Some (length text) ≡ option_map (λ (s : Spot). s.size) o
      there None some is = absurd (cc)
      there (Some s) some is = ap Some (sym is)

      by : (b : Bool) → same_name q batch_name ≡ b
          → option_map length (cond b (Some text) (cond b None (fin.get m q)))
          ≡ option_map (λ (s : Spot). s.size) (fin.get x.store.now q)
      by true is = there (fin.get x.store.now batch_name) kept.pending kept.long
          ∙ ap (λ (n : List ℕ). option_map (λ (s : Spot). s.size) (fin.get x.store.now n))
          (sym (same_name-is q batch_name is))
      by false is = stands.sized q

  object_there : (o : Option (List ℕ)) → fin.get m batch_name ≡ o → IsTrue (is_some o)
      → fin.get m batch_name ≡ Some (object_in m batch_name)
  object_there None is some = absurd (cc)
  object_there (Some object) is some = is ∙ ap Some (sym (found is))
    where
      found : fin.get m batch_name ≡ Some object → object_in m batch_name ≡ object
      found e = rw e refl

  live_map : IsTrue (is_some (fin.get m batch_name))
  live_map = subst IsTrue (sym (sized_live m x.store.now batch_name stands.sized)) kept.pending

  pub beside_stands : StandsFor x (fin.insert beside batch_name text)
  beside_stands = record {
    sized = sized_beside;
    told = λ told.
        let is : text ≡ object_in m batch_name = kept.same told
        ∙ ap (λ (n : Map). object_in n batch_name) (stands.told told) in
        stands.told told ∙ sym (ap (fin.insert beside batch_name) is
        ∙ kept_again m (object_in m batch_name) (object_there (fin.get m batch_name) refl live_map));
  }

  -- the names beside the batch, and how many there are
  beside_len : fin.len x.store.now ≡ fin.len beside + 1
  beside_len = sym (sized_len (fin.insert beside batch_name text) x.store.now sized_beside)
      ∙ len_more beside batch_name text (ap is_some beside_free)

  count_beside : names_beside true x.store ≡ fin.len beside
  count_beside = omega (arith, beside_len)

  lives : (changes : List Change) → AllByRecursion IsPart changes
      → AllByRecursion (λ d. is_live x.store d.name ≡ fin.contains_key beside d.name) changes
  lives [] parts = tt
  lives (d ∷ changes) parts = (
    sym (sized_live m x.store.now d.name stands.sized)
        ∙ ap is_some (sym (fin.get-remove name_order m batch_name d.name
        ∙ cond-false (same_name d.name batch_name) None (fin.get m d.name)
        (other_way batch_name d.name parts.0.other))),
    lives changes parts.1,
  )

  fits_beside : (changes : List Change) → IsBatch text changes
      → misfit_in true x.store changes ≡ misfit true (live_cap x.store) beside changes
  fits_beside changes batch = by changes batch.rises (lives changes batch.parts)
    where
      by : (cs : List Change) → Rises cs
          → AllByRecursion (λ d. is_live x.store d.name ≡ fin.contains_key beside d.name) cs
          → misfit_in true x.store cs ≡ misfit true (live_cap x.store) beside cs
      by [] rises all = refl
      by (c ∷ cs) rises all =
          let rest = counted_from_is true (live_cap x.store) 1 (is_live x.store) beside
          (names_beside true x.store) (c ∷ cs) rises all count_beside in
          λ i. if nat_lt (count_beside i) (live_cap x.store) then rest i else Some 1

  module _ (judged : IsJudged true x.store text (Ok tt)) where
    abbrev pub kept_as : Batch
    kept_as = record { text = text; changes = judged.0.changes; map = beside }

    pub fits_kept : misfit true (live_cap x.store) beside judged.0.changes ≡ None
    fits_kept = sym (fits_beside judged.0.changes judged.0.batch) ∙ judged.0.fits

    pub can_finish : CanDo classes x text kept_as
    can_finish = record {
      go = go;
      same_text = refl;
      batch = judged.0.batch;
      free = beside_free;
      stands = beside_stands;
      fits = fits_kept;
      early = omega (
        arith,
        judged.1 (inl refl),
        few_made_by x true kept_as go judged.0.batch fits_kept,
      );
    }

-- ---- the ends

module _ {classes : ℕ} (s : StoreValue) (a d : disk.State) (text : List ℕ)
    (go : CanGo classes (store_on s d)) (kept : IsKeptText (store_on s d) text) (read : IsReadBy a d) where
  abbrev x : StoreOn
  x = store_on s a

  text_first : IsTrue a.tells → text ≡ kept_text x
  text_first told = kept.same (told_read s a d go read told)
      ∙ ap (λ (t : State). object_in t.map batch_name) (same_state s a d go read told)

  sound_first : IsTrue a.tells → IsSound x
  sound_first told = subst (λ (t : State). is_damaged s.book t.map batch_name ≡ false)
      (same_state s a d go read told) (kept.sound (told_read s a d go read told))

  -- nothing was begun
  read_finishes : (result : Result Bool BatchFault) → AnswersFinish s result
      → (IsTrue a.tells → JudgesKept x result) → is_begun result ≡ false → is_disk_fault result ≡ false
      → Finishes classes x (store_on s d) result
  read_finishes result answer judged none calm = record {
    answer = answer;
    judged = judged;
    fails = λ bad. absurd (let e : true ≡ false = sym bad ∙ calm in cc);
    same = λ other. record { same_store = refl; same_disk = read.frame; same_faults = read.calm };
    begun = λ bad. absurd (let e : true ≡ false = sym bad ∙ none in cc);
    over = go.over;
    broken = record {
      calm = λ other. refl;
      failed = λ bad. absurd (let e : true ≡ false = sym bad ∙ calm in cc);
    };
    whole = whole_by s go.sound result answer;
    gone = gone_by s result answer none;
    frame = record { no_turn_back = read.frame.since.later; stays = read.frame.stays };
    cause = calm_disk (λ is. let e : true ≡ false = ap is_disk_fault (sym is) ∙ calm in cc) read.calm;
  }

  pending : IsPending s
  pending = (go.whole, kept.pending)

  pub judged_finishes : (w : BatchFault) → IsJudged true s text (Err w)
      → Finishes classes x (store_on s d) (Err w)
  judged_finishes fault.Broken is = absurd (is)
  judged_finishes fault.Damaged is = absurd (is)
  judged_finishes fault.NoBatch is = read_finishes (Err fault.NoBatch) pending
      (λ told. (sound_first told, subst (λ (t : List ℕ). IsNoBatch t) (text_first told) is.1)) refl refl
  judged_finishes (fault.Line n) is = absurd (let bad : true ≡ false = is.0 in cc)
  judged_finishes (fault.Unfit n) is = read_finishes (Err (fault.Unfit n)) pending
      (λ told. (sound_first told, subst (λ (t : List ℕ). HasMisfit true s t n) (text_first told) is)) refl
      refl
  judged_finishes fault.Worn is = read_finishes (Err fault.Worn) (pending, is.2)
      (λ told. (sound_first told, subst (λ (t : List ℕ). HasFit true s t) (text_first told) is.0)) refl refl
  judged_finishes fault.Disk is = absurd (is)

  module _ (judged : IsJudged true s text (Ok tt)) (m : Map) (stands : StandsFor (store_on s d) m)
      (y : StoreOn) where
    abbrev b : Batch
    b = kept_as (store_on s d) text go kept m stands judged

    first : Goes classes (IsBatchMap b) x (store_on s d) (going [] 0 (half_done b []))
    first = goes_read s a d go read (IsBatchMap b) (half_done b [])
        (beside_stands (store_on s d) text go kept m stands)

    begun_kept : (result : Result Bool BatchFault) → IsTrue a.tells
        → IsBegun classes b (requests_for b.changes ++ last_requests) x y result
        → (changes : List Change) → IsBatch (kept_text x) changes
        → IsBegun classes (kept_batch x changes) (requests_for changes ++ last_requests) x y result
    begun_kept result told is changes batch =
        subst (λ (cs : List Change). IsBegun classes (kept_batch x cs) (requests_for cs ++ last_requests) x y
        result)
        (batch_one text b.changes changes judged.0.batch
        (subst (λ (t : List ℕ). IsBatch t changes) (sym (text_first told)) batch))
        (subst (λ (t : List ℕ). IsBegun classes (record {
          text = t;
          changes = b.changes;
          map = unbatched (state_on x).map;
        }) (requests_for b.changes ++ last_requests) x y result)
        (text_first told)
        (subst (λ (n : Map). IsBegun classes (record { text = text; changes = b.changes; map = unbatched n })
        (requests_for b.changes ++ last_requests) x y result)
        (sym (stands.told (told_read s a d go read told))
        ∙ ap (λ (t : State). t.map) (same_state s a d go read told)) is))

    early : s.in_use.sequence < worn_from
    early = judged.1 (inl refl)

    pub done_finishes : Goes classes (IsBatchMap b) (store_on s d) y (all_done b) → IsKeptNow y.store
        → Finishes classes x y (Ok true)
    done_finishes goes now =
        let all = goes_then (IsBatchMap b) x (store_on s d) y _ first (all_done b) goes in
        record {
          answer = (pending, early);
          judged = λ told. (
            sound_first told,
            subst (λ (t : List ℕ). HasFit true s t) (text_first told) judged.0,
          );
          same = λ bad. absurd (cc);
          fails = λ bad. absurd (cc);
          begun = λ _ told. begun_kept (Ok true) told (goes_begun x y b judged.0.batch
              (beside_free (store_on s d) text go kept m stands) _ refl told (Ok true) all (omega (
                arith,
                few_made_by (store_on s d) true b go judged.0.batch
                    (fits_kept (store_on s d) text go kept m stands judged),
              )) now);
          over = goes.over;
          broken = record {
            calm = λ other. goes.unbroken ∙ sym go.whole;
            failed = λ bad. absurd (cc);
          };
          whole = (goes.unbroken, goes.sound);
          gone = absent_stands y (applied b.changes b.map) batch_name goes.stands
              (leaves_batch b.changes b.map judged.0.batch.parts
              ∙ beside_free (store_on s d) text go kept m stands);
          frame = all.frame;
          cause = calm_disk (λ is. cc) all.calm;
        }

    pub failed_finishes : Stops classes (IsBatchMap b) (store_on s d) y
        → Finishes classes x y (Err fault.Disk)
    failed_finishes stopped =
        let all = stops_then (IsBatchMap b) x (store_on s d) y _ first stopped in
        record {
          answer = pending;
          judged = λ told. tt;
          fails = λ _ told. inl (record {
            sound = sound_first told;
            fit = subst (λ (t : List ℕ). HasFit true s t) (text_first told) judged.0;
            early = early;
          });
          same = λ bad. absurd (cc);
          begun = λ _ told. begun_kept (Err fault.Disk) told (stops_begun x y b judged.0.batch
              (beside_free (store_on s d) text go kept m stands) (all_done b) refl told (Err fault.Disk)
              (λ is. cc) all);
          over = record {
            idle = all.idle;
            over = λ whole. absurd (let e : true ≡ false = sym all.broken ∙ whole in cc);
          };
          broken = record { calm = λ other. absurd (cc); failed = λ is. inl all.broken };
          whole = tt;
          gone = tt;
          frame = all.frame;
          cause = record {
            later = all.later;
            rose = λ is. all.rose;
            calm = λ other. absurd (other refl);
          };
        }

-- ---- by the state

module _ {classes : ℕ} (x : StoreOn) (go : CanGo classes x) (told : IsTrue x.disk.tells)
    (live : IsTrue (fin.contains_key x.store.now batch_name)) where
  -- what is kept, as it would be read
  kept_itself : IsSound x → IsKeptText x (kept_text x)
  kept_itself sound =
      let held = stands_some x go in
      record {
        pending = live;
        long = sizes (fin.get x.store.now batch_name) (fin.get (state_on x).map batch_name) live
            (there x go live told) (subst (λ (m : Map). option_map length (fin.get m batch_name)
            ≡ option_map (λ (s : Spot). s.size) (fin.get x.store.now batch_name)) (sym (held.1.told told))
            (held.1.sized batch_name));
        same = λ _. refl;
        sound = λ _. sound;
      }
    where
      sizes : (p : Option Spot) (o : Option (List ℕ)) → IsTrue (is_some p) → o ≡ Some (kept_text x)
          → option_map length o ≡ option_map (λ (s : Spot). s.size) p → size_at p ≡ length (kept_text x)
      sizes None o some is same = absurd (cc)
      sizes (Some s) o some is same =
          let e : Some (length (kept_text x)) ≡ Some s.size = sym (ap (option_map length) is) ∙ same in cc

  -- whether a batch fits beside the store is whether it fits the map of its state without the batch
  pub fits_state : IsSound x → (changes : List Change) → IsBatch (kept_text x) changes
      → misfit_in true x.store changes ≡ misfit true (live_cap x.store) (unbatched (state_on x).map) changes
  fits_state sound changes batch =
      let held = stands_some x go in
      fits_beside x (kept_text x) go (kept_itself sound) held.0 held.1 changes batch
      ∙ ap (λ (m : Map). misfit true (live_cap x.store) (unbatched m) changes) (sym (held.1.told told))
