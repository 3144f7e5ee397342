-- A store that was opened over a file, once what it kept as a batch was finished.
use Rattle.std.specs.Prelude.{◌≡◌, ◌+◌, ◌*◌, ◌^◌, ◌<◌, ◌≤◌, ℕ, Bool, true, false, List, ◌++◌, Option, None, Ok, IsTrue, refl}
use Rattle.std.proofs.Common.{arith, ap, sym, ◌∙◌, subst, inl, inr}
use Rattle.std.proofs.Math.Nat.{le-max_right, max-le}
use Rattle.std.specs.FinMap as fin
use Rattle.disk_face.specs.Counts.{last}
use Rattle.disk_face.specs.Frames.{Unchanged}
use Rattle.disk_face.specs.Moments.{Leaves, LeftOnly}
use Rattle.disk_face.specs.States.{IsLawful, State}
use Rattle.disk_face.specs.Writes.{KeepsDisk}
use Rattle.disk_face.proofs.MomentLaws.{Leaves-weaken, LeftOnly-after}
use Rattle.size_class.specs.declared.TheConstants.{CLASSES, SIZE_MAX}
use Rattle.slot_codec.specs.Choice as choice
use Rattle.slot_codec.specs.Spelling.{cap}
use Rattle.slot_codec.specs.declared.codec.SuperBlock.{SuperBlock}
use Rattle.map_model.specs.Maps.{Map}
use Rattle.map_model.proofs.MapLaws.{name_order}
use Rattle.segment_layout.specs.Books.{Book, version_of}
use Rattle.table_rules.specs.Opening.{OpensBy}
use Rattle.table_rules.specs.Sequences.{HasSequenceUpTo}
use Rattle.table_rules.proofs.SequenceLaws.{sequence_wider}
use Rattle.store_model.specs.Connection.{IsConnected, IsOver, RestsOnTable, SameOnTable, StoreValue, base_of, live_cap, state_of}
use Rattle.store_model.specs.Opened.{LeavesRoom, RestsOnFound, most_found}
use Rattle.store_model.specs.States as store
use Rattle.store_model.specs.Stores.{IsStore}
use Rattle.store_model.specs.Changes.{NothingChanged}
use Rattle.served_file.specs.Served.{OpensTo, limits_with, most_left}
use Rattle.served_file.proofs.OpeningLaws.{Opened, start_low}
use Rattle.served_file.proofs.StartLaws.{LeavesStart, leaves_opened, left_mid, start_opens}
use Rattle.batch_model.specs.Batches.{IsBatch, applied, batch_name}
use Rattle.batch_model.specs.Fits.{misfit}
use Rattle.batch_model.specs.Views.{IsView, IsViewBy, unbatched}
use Rattle.batch_model.proofs.ViewLaws.{view_bare}
use Rattle.batch_core.specs.Answers.{Finishes, HasFit, IsBatchDone, IsBegun, IsSound, kept_batch, kept_text}
use Rattle.batch_core.specs.Doing.{Batch, CanGo, IsBatchMap, last_requests, requests_for, worn_from}
use Rattle.batch_core.specs.Going.{IsLeft}
use Rattle.batch_core.specs.Making.{OpensAs}
use Rattle.batch_core.specs.StoresOn.{RestsOn, StoreOn, store_on}
use Rattle.batch_core.proofs.ApplyLaws.{stands_absent, stands_some}
use Rattle.batch_core.proofs.FetchLaws.{map_live, there}
use Rattle.batch_core.proofs.FinishLaws.{fits_state}
use Rattle.batch_core.proofs.LeftLaws.{kept_fits, kept_is_batch, viewed_as_done}
use Rattle.batch_command.specs.Promise.{FinishedTo, IsViewedAs, OpensToView}

-- an image opens to the start, or to a map that is viewed as the start is
abbrev pub IsViewed : SuperBlock → store.State → List ℕ → Type 0
IsViewed u start image = IsViewedAs u.names start image

-- the same, of an image whose table has a sequence that a call leaves
abbrev pub IsStaged : choice.SlotTable → SuperBlock → store.State → List ℕ → Type 0
IsStaged t u start image = IsViewed u start image × HasSequenceUpTo (most_left u.k t) image

-- A store over a file: what was kept as a batch was finished, and each image left since the call began is
-- viewed as the start.
pub record Stage (t : choice.SlotTable) (old : State) (u : SuperBlock) (start : store.State) (y : State)
    (s : StoreValue) : Type 0 where
  pub unbroken : s.is_broken ≡ false
  pub sound : IsStore CLASSES s
  pub over : IsOver CLASSES s y.file
  pub block : s.in_use.block ≡ u
  pub same_cap : live_cap s ≡ cap u.names (version_of start.book)
  pub finished : FinishedTo (limits_with u) start (state_of s y.file)
  pub same_kept : (state_of s y.file).kept ≡ (state_of s y.file).map
  pub same_book : s.kept_book ≡ s.book
  pub free : fin.get (state_of s y.file).map batch_name ≡ None
  pub left : LeavesRoom t → RestsOnFound t old → y.turn < last → LeftOnly y old.turn (IsViewed u start)
  pub numbered : LeavesRoom t → RestsOnFound t old → y.turn < last
      → LeftOnly y old.turn (HasSequenceUpTo (most_left u.k t))
  pub rests : RestsOnFound t old → RestsOnTable (base_of s) s.kept y
  pub low : s.in_use.sequence ≤ most_left u.k t
  pub told : IsTrue y.tells
  pub later : old.turn ≤ y.turn
  pub faults : old.faults ≤ y.faults

-- ---- images of a batch

-- an image that opens to a map of a batch is viewed as the map with all of it, and the batch can be finished
module _ (x : StoreOn) (b : Batch) (again : Bool) (batch : IsBatch b.text b.changes)
    (free : fin.get b.map batch_name ≡ None)
    (fits : misfit again (live_cap x.store) b.map b.changes ≡ None) where
  pub view_of : (image : List ℕ) (m : Map) → IsBatchMap b m
      → OpensAs CLASSES (version_of x.store.book) m image
      → OpensToView x.store.in_use.block.names (applied b.changes b.map) image
  view_of image m such is = record {
    m = m;
    b = is.book;
    opens = is.opens;
    viewed = viewed_as_done b m batch free such;
    goes_on = λ text kept. record {
      changes = b.changes;
      batch = kept_is_batch b m text batch free such kept;
      fits = kept_fits again b m text (cap x.store.in_use.block.names (version_of is.book)) batch free
          (subst (λ (n : ℕ). misfit again (cap x.store.in_use.block.names n) b.map b.changes ≡ None)
          (sym is.same_version) fits) such kept;
    };
  }

-- a sequence that a call leaves
pub most_high : (t : choice.SlotTable) (u : SuperBlock) → 2 ^ 61 ≤ most_left u.k t
most_high t u =
    let high : 2 ^ 61 + 2 * u.k ≤ most_left u.k t = le-max_right (most_found t) (2 ^ 61 + 2 * u.k) in
    omega (arith, high)

-- ---- a store that was opened

module _ (t : choice.SlotTable) (m : Map) (b : Book) (old : State) (lawful : IsLawful old)
    (told : IsTrue old.tells) (o : OpensBy CLASSES SIZE_MAX t old.file m b) {mid : State} {s : StoreValue}
    (op : Opened t m b old mid s) where
  abbrev u : SuperBlock
  u = s.in_use.block

  abbrev start : store.State
  start = state_of s mid.file

  abbrev x : StoreOn
  x = store_on s mid

  low_first : s.in_use.sequence ≤ most_left u.k t
  low_first = start_low t u.k s.in_use.sequence op.sequence

  start_kept : start.kept ≡ start.map
  start_kept = ap (λ (y : store.State). y.kept) op.state ∙ sym (ap (λ (y : store.State). y.map) op.state)

  start_book : s.kept_book ≡ s.book
  start_book = ap (λ (y : store.State). y.kept_book) op.state
      ∙ sym (ap (λ (y : store.State). y.book) op.state)

  -- ---- nothing was kept

  module _ (y : State) (go : CanGo CLASSES x) (none : fin.get s.now batch_name ≡ None)
      (same : Unchanged mid y) (calm : y.faults ≡ mid.faults) where
    file_same : y.file ≡ mid.file
    file_same = same.same_file op.told

    bare : fin.get start.map batch_name ≡ None
    bare =
        let held = stands_some x go in
        ap (λ (n : Map). fin.get n batch_name) (held.1.told op.told)
        ∙ stands_absent x held.0 batch_name held.1 none

    leaves : LeavesStart t m b old y start
    leaves = leaves_opened t m b old lawful told o op same

    pub stage_same : Stage t old u start y s
    stage_same = record {
      unbroken = op.unbroken;
      sound = op.sound;
      over = subst (IsOver CLASSES s) (sym file_same) op.over;
      block = refl;
      same_cap = refl;
      finished = subst (λ (f : List ℕ). FinishedTo (limits_with u) start (state_of s f)) (sym file_same)
          (view_bare start.map bare, inl (bare, refl));
      same_kept = subst (λ (f : List ℕ). (state_of s f).kept ≡ (state_of s f).map) (sym file_same) start_kept;
      same_book = start_book;
      free = subst (λ (f : List ℕ). fin.get (state_of s f).map batch_name ≡ None) (sym file_same) bare;
      left = λ room rests below image since. inl (leaves.left room rests below image since);
      numbered = λ room rests below. subst (λ (v : SuperBlock).
          LeftOnly y old.turn (HasSequenceUpTo (most_left v.k t))) (sym op.block)
          (leaves.numbered room rests below);
      rests = λ was image may. subst (λ (f : List ℕ). SameOnTable (base_of s) s.kept f image) (sym file_same)
          (op.rests was image (same.images image may));
      low = low_first;
      told = subst IsTrue (sym same.stays.told) op.told;
      later = omega (arith, op.later, same.same_turn);
      faults = omega (arith, op.faults, calm);
    }

  -- ---- a batch that was kept may be finished

  module _ (go : CanGo CLASSES x) (live : IsTrue (fin.contains_key s.now batch_name)) (sound : IsSound x)
      (fit : HasFit true s (kept_text x)) where
    abbrev pub batch_of : Batch
    batch_of = kept_batch x fit.changes

    pub fits_start : misfit true (live_cap s) (unbatched start.map) fit.changes ≡ None
    fits_start = sym (fits_state x go op.told live sound fit.changes fit.batch) ∙ fit.fits

    gone_beside : fin.get (unbatched start.map) batch_name ≡ None
    gone_beside = fin.get-remove name_order start.map batch_name batch_name

    pub view_start : (view : Map) → view ≡ applied fit.changes (unbatched start.map) → IsView start.map view
    view_start view is = subst (λ (n : Option (List ℕ)). IsViewBy n start.map view)
        (sym (there x go live op.told))
        (inl (record { changes = fit.changes; batch = fit.batch; same = is }))

    -- what is left of it is viewed as the start
    pub viewed_left : (image : List ℕ) → IsLeft CLASSES (IsBatchMap batch_of) x image
        → IsViewed u start image × HasSequenceUpTo (most_left u.k t) image
    viewed_left image is = (
      elim is.opens as (λ _. IsViewed u start image) [
        | inl kept ↦ inl (start_opens t m b old lawful told o op image kept)
        | inr such ↦ inr (record {
          view = applied fit.changes (unbatched start.map);
          viewed = view_start (applied fit.changes (unbatched start.map)) refl;
          opens = view_of x batch_of true fit.batch gone_beside fits_start image such.0 such.1 such.2;
        })
      ],
      sequence_wider _ (most_left u.k t) image (max-le low_first (most_high t u)) is.sequence,
    )

    opened_is : (image : List ℕ) → OpensTo start image × HasSequenceUpTo (most_left t.chosen.block.k t) image
        → IsStaged t u start image
    opened_is image is = (
      inl is.0,
      subst (λ (v : SuperBlock). HasSequenceUpTo (most_left v.k t) image) (sym op.block) is.1,
    )

    pub left_after : (y : State)
        → (RestsOn x → Leaves mid y (IsLeft CLASSES (IsBatchMap batch_of) x))
        → LeavesRoom t → RestsOnFound t old → y.turn < last → LeftOnly y old.turn (IsStaged t u start)
    left_after y begun room rests below =
        let now = begun (op.rests rests) in
        LeftOnly-after old.turn (IsStaged t u start) op.later (λ image since. opened_is image
        (left_mid t m b old lawful told o op room rests (omega (arith, now.later, below)) image since))
        (Leaves-weaken (IsStaged t u start) viewed_left now)

    module _ (y : State) (new : StoreValue)
        (begun : IsBegun CLASSES batch_of (requests_for fit.changes ++ last_requests) x (store_on new y)
        (Ok true)) (whole : (new.is_broken ≡ false) × IsStore CLASSES new)
        (connected : IsConnected CLASSES new y) (early : s.in_use.sequence < worn_from)
        (frame : KeepsDisk mid y) (later : mid.faults ≤ y.faults) where
      done : IsBatchDone CLASSES batch_of (requests_for fit.changes ++ last_requests) x (store_on new y)
      done = begun.done refl

      told_y : IsTrue y.tells
      told_y = subst IsTrue (sym frame.stays.told) op.told

      same_kept : (state_of new y.file).kept ≡ (state_of new y.file).map
      same_kept = done.kept ∙ sym done.same_map

      gone : fin.get (state_of new y.file).map batch_name ≡ None
      gone = ap (λ (n : Map). fin.get n batch_name) done.same_map ∙ done.gone

      pub stage_done : Stage t old u start y new
      stage_done = record {
        unbroken = whole.0;
        sound = whole.1;
        over = connected.over whole.0 told_y;
        block = done.block;
        same_cap = done.same_cap;
        finished = (
          view_start (state_of new y.file).map done.same_map,
          inr (
            (map_live x go live op.told, sound),
            record {
              fit = record { changes = fit.changes; batch = fit.batch; fits = fits_start };
              early = early;
              replies = done.ran.0;
              ran = done.ran.1;
              same_map = done.same_map;
              same_kept = same_kept;
              same_book = done.kept_book;
              gone = gone;
            },
          ),
        );
        same_kept = same_kept;
        same_book = done.kept_book;
        free = gone;
        left = λ room rests below image since. (left_after y begun.left room rests below image since).0;
        numbered = λ room rests below image since. (left_after y begun.left room rests below image since).1;
        rests = λ was. done.rests (op.rests was);
        low = omega (arith, done.reach, early, most_high t u);
        told = told_y;
        later = omega (arith, op.later, frame.no_turn_back);
        faults = omega (arith, op.faults, later);
      }

  -- ---- the store once it was finished

  pub stage_of : (y : State) (new : StoreValue) (finished : Bool) → CanGo CLASSES x
      → Finishes CLASSES x (store_on new y) (Ok finished) → Stage t old u start y new
  stage_of y new true go is =
      let judged = is.judged op.told in
      stage_done go is.answer.0.1 judged.0 judged.1 y new (is.begun refl op.told judged.1.changes
      judged.1.batch) is.whole is.over is.answer.1 is.frame is.cause.later
  stage_of y new false go is =
      let same : NothingChanged s new mid y = is.same refl in
      subst (Stage t old u start y) (sym same.same_store)
      (stage_same y go is.answer.1 same.same_disk same.same_faults)
