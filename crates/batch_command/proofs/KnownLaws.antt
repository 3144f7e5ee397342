-- What is known of a batch over a file that opens, where it didn't come to its input.
use Rattle.std.specs.Prelude.{◌≡◌, ◌≢◌, ◌<◌, ◌≤◌, ℕ, Bool, true, false, List, [], Option, Some, None, Result, Err, IsTrue, refl}
use Rattle.std.proofs.Common.{arith, ap, sym, ◌∙◌, subst, inl, inr}
use Rattle.std.specs.FinMap as fin
use Rattle.disk_face.specs.Counts.{IsCalm, Rose, last}
use Rattle.disk_face.specs.Devices.{devices}
use Rattle.disk_face.specs.Frames.{Unchanged}
use Rattle.disk_face.specs.Moments.{LeftOnly}
use Rattle.disk_face.specs.States.{IsLawful, State}
use Rattle.disk_face.specs.Streams.{SinkState}
use Rattle.size_class.specs.declared.TheConstants.{CLASSES, SIZE_MAX}
use Rattle.slot_codec.specs.Choice as choice
use Rattle.slot_codec.specs.declared.codec.SuperBlock.{SuperBlock}
use Rattle.map_model.specs.Maps.{Map}
use Rattle.map_model.specs.Requests.{Change}
use Rattle.segment_layout.specs.Books.{Book}
use Rattle.table_rules.specs.Opening.{OpensBy}
use Rattle.table_rules.specs.Sequences.{HasSequenceUpTo}
use Rattle.store_model.specs.Connection.{StoreValue, state_of}
use Rattle.store_model.specs.Opened.{LeavesRoom, RestsOnFound}
use Rattle.store_model.specs.States as store
use Rattle.command_face.specs.Layers.{Answers}
use Rattle.command_face.specs.Outcomes.{EndsBy, status_at}
use Rattle.command_face.specs.declared.status.TheConstants.{DISK_FAILED}
use Rattle.command_face.specs.declared.stop.StopReason.{StopReason}
use Rattle.command_face.specs.declared.stop.StopReason.TheVariants as stop
use Rattle.served_file.specs.Served.{OpensTo, found_with, limits_with, most_left}
use Rattle.served_file.proofs.OpeningLaws.{Opened, start_low}
use Rattle.served_file.proofs.StartLaws.{LeavesStart, leaves_opened}
use Rattle.batch_model.specs.Batches.{IsBatch, batch_name}
use Rattle.batch_core.specs.Answers.{Finishes, IsSound, MayFinish, kept_text}
use Rattle.batch_core.specs.Doing.{CanGo, misfit_in}
use Rattle.batch_core.specs.StoresOn.{StoreOn, store_on}
use Rattle.batch_core.specs.declared.fault.BatchFault.{BatchFault}
use Rattle.batch_core.specs.declared.fault.BatchFault.TheVariants as fault
use Rattle.batch_core.proofs.FetchLaws.{map_live}
use Rattle.batch_core.proofs.FinishLaws.{fits_state}
use Rattle.batch_command.specs.Batching.{has_applied}
use Rattle.batch_command.specs.Doing.{IsIdle, reason_of}
use Rattle.batch_command.specs.Promise.{HasBatched, IsBatchEnd, IsBatchImage, IsLeftBy, KeepsFor, LeavesNext, LeavesOnly}
use Rattle.batch_command.specs.Reading.{ComesToNone}
use Rattle.served_file.proofs.AlwaysLaws.{nothing_put}
use Rattle.batch_command.proofs.EndsLaws.{fault_unapplied}
use Rattle.batch_command.proofs.StageLaws.{IsViewed, left_after, viewed_left}

-- nothing was applied
pub unapplied_none : {A : Type 0} (status : ℕ) → has_applied status ≡ false → IsTrue (has_applied status) → A
unapplied_none status none is = absurd (let e : true ≡ false = sym is ∙ none in cc)

-- what is viewed as the start is an image of the batch
pub viewed_image : (u : SuperBlock) (start : store.State) (text image : List ℕ) → IsViewed u start image
    → IsBatchImage (limits_with u) start text image
viewed_image u start text image (inl is) = inl is
viewed_image u start text image (inr is) = inr (inl is)

-- an image of the batch, whose table has a sequence that a call leaves
abbrev pub IsBoth : choice.SlotTable → SuperBlock → store.State → List ℕ → List ℕ → Type 0
IsBoth t u start text image = IsBatchImage (limits_with u) start text image
    × HasSequenceUpTo (most_left u.k t) image

-- What is known of a call once its store was opened, for the whole to be put together.
pub record Known (t : choice.SlotTable) (m : Map) (b : Book) (u : SuperBlock) (start : store.State)
    (text : List ℕ) (old z : State) (out put after : SinkState) (end : Result (Unit {0}) StopReason) : Type 0
  where
    pub answers : Answers (IsBatchEnd (limits_with u) start text) out put end
    pub content : LeavesRoom t → IsBatchImage (limits_with u) start text z.file
    pub crash : LeavesRoom t → RestsOnFound t old → z.turn < last
        → LeftOnly z old.turn (IsBatchImage (limits_with u) start text)
    pub numbered : LeavesRoom t → RestsOnFound t old → z.turn < last
        → LeftOnly z old.turn (HasSequenceUpTo (most_left u.k t))
    pub unbegun : ComesToNone (status_at end) → LeavesRoom t → LeavesOnly (OpensTo start) t old z
    pub unapplied : has_applied (status_at end) ≡ false → status_at end ≢ DISK_FAILED → LeavesRoom t
        → LeavesOnly (IsViewed u start) t old z
    pub done : IsTrue (has_applied (status_at end))
        → HasBatched (found_with u t m b) start text (devices old out) (devices z after)
    pub next_start : IsCalm old.faults z.faults
        → LeavesNext (found_with u t m b) start text (status_at end) (devices old out) (devices z after)

-- the disk failed
module _ (t : choice.SlotTable) (m : Map) (b : Book) (old : State) (text : List ℕ) (z : State)
    (out put after : SinkState) (end : Result (Unit {0}) StopReason) where
  pub known_failed : (u : SuperBlock) (start : store.State) (before : ℕ) → old.faults ≤ before
      → Rose before z.faults → end ≡ Err stop.Disk → put ≡ out
      → IsBatchImage (limits_with u) start text z.file
      → (LeavesRoom t → RestsOnFound t old → z.turn < last → LeftOnly z old.turn (IsBoth t u start text))
      → Known t m b u start text old z out put after end
  known_failed u start before low rose ends nothing content images = record {
    answers = subst (Answers (IsBatchEnd (limits_with u) start text) out put) (sym ends)
        (nothing_put (IsBatchEnd (limits_with u) start text) out put stop.Disk (inr refl) nothing);
    content = λ _. content;
    crash = λ room rests below image since. (images room rests below image since).0;
    numbered = λ room rests below image since. (images room rests below image since).1;
    unbegun = λ which. absurd (omega (arith, which, status_is));
    unapplied = λ _ other. absurd (other status_is);
    done = λ is. unapplied_none (status_at end) (ap has_applied status_is) is;
    next_start = λ calm. absurd (omega (arith, low, rose, calm.same, calm.below));
  }
    where
      status_is : status_at end ≡ 7
      status_is = ap (λ (e : Result (Unit {0}) StopReason). status_at e) ends

module _ (t : choice.SlotTable) (m : Map) (b : Book) (old : State) (lawful : IsLawful old)
    (told : IsTrue old.tells) (o : OpensBy CLASSES SIZE_MAX t old.file m b) (text : List ℕ) (z : State)
    (out put after : SinkState) (end : Result (Unit {0}) StopReason) where
  -- the state that is left where nothing was applied
  left_unapplied : (u : SuperBlock) (start left : store.State) → has_applied (status_at end) ≡ false
      → IsLeftBy false (limits_with u) start text left
      → IsLeftBy (has_applied (status_at end)) (limits_with u) start text left
  left_unapplied u start left none is =
      subst (λ (a : Bool). IsLeftBy a (limits_with u) start text left) (sym none) is

  -- ---- nothing was done with the store

  pub known_start : (u : SuperBlock) (start : store.State) → t.chosen.block ≡ u
      → LeavesStart t m b old z start → has_applied (status_at end) ≡ false
      → Answers (IsBatchEnd (limits_with u) start text) out put end
      → Known t m b u start text old z out put after end
  known_start u start block leaves none answers = record {
    answers = answers;
    content = λ room. inl (leaves.content room);
    crash = λ room rests below image since. inl (leaves.left room rests below image since);
    numbered = λ room rests below. subst (λ (v : SuperBlock).
        LeftOnly z old.turn (HasSequenceUpTo (most_left v.k t))) block (leaves.numbered room rests below);
    unbegun = λ _ room. record { content = leaves.content room; left = leaves.left room };
    unapplied = λ _ _ room. record {
      content = inl (leaves.content room);
      left = λ rests below image since. inl (leaves.left room rests below image since);
    };
    done = λ is. unapplied_none (status_at end) none is;
    next_start = λ calm. record {
      left = start;
      by = left_unapplied u start start none (inl refl);
      low = start_low t u.k start.sequence leaves.starts.sequence;
      next = leaves.next_start calm;
    };
  }

  module _ {mid : State} {s : StoreValue} (op : Opened t m b old mid s) where
    abbrev u : SuperBlock
    u = s.in_use.block

    abbrev start : store.State
    start = state_of s mid.file

    abbrev x : StoreOn
    x = store_on s mid

    abbrev IsEnd : Result (List ℕ) StopReason → Type 0
    IsEnd = IsBatchEnd (limits_with u) start text

    abbrev IsKnown : Type 0
    IsKnown = Known t m b u start text old z out put after end

    pub go_first : IsIdle s mid → CanGo CLASSES x
    go_first idle = record {
      whole = op.unbroken;
      sound = op.sound;
      over = record { idle = idle.idle; over = λ _ _. op.over };
      ready = idle.ready;
    }

    pub known_same : Unchanged mid z → has_applied (status_at end) ≡ false → Answers IsEnd out put end
        → IsKnown
    known_same same none answers = known_start u start (sym op.block)
        (leaves_opened t m b old lawful told o op same) none answers

    -- ---- the batch that was kept couldn't be finished

    module _ (idle : IsIdle s mid) (new : StoreValue) (nothing : put ≡ out) where
      go : CanGo CLASSES x
      go = go_first idle

      -- nothing changed, and that is the answer
      refuses : (why : BatchFault) → end ≡ Err (reason_of why) → Unchanged mid z
          → EndsBy IsEnd [] (Err (reason_of why)) → IsKnown
      refuses why ends same by = known_same same (ap (λ (e : Result (Unit {0}) StopReason).
          has_applied (status_at e)) ends ∙ fault_unapplied why)
          (subst (Answers IsEnd out put) (sym ends) (nothing_put IsEnd out put (reason_of why) by nothing))

      -- what is kept is a batch, and fits so
      kept_for : (live : IsTrue (fin.contains_key s.now batch_name)) (sound : IsSound x) (n : Option ℕ)
          (changes : List Change) → IsBatch (kept_text x) changes → misfit_in true s changes ≡ n
          → KeepsFor (limits_with u) start n
      kept_for live sound n changes batch fits = (
        (map_live x go live op.told, sound),
        record {
          changes = changes;
          batch = batch;
          fits = sym (fits_state x go op.told live sound changes batch) ∙ fits;
        },
      )

      -- the disk failed in a batch that may be begun
      fails_in : end ≡ Err stop.Disk → Finishes CLASSES x (store_on new z) (Err fault.Disk) → MayFinish x
          → IsKnown
      fails_in ends is may =
          let begun = is.begun refl op.told may.fit.changes may.fit.batch in
          let live = is.answer.1 in
          known_failed t m b old text z out put after end u start mid.faults op.faults (is.cause.rose refl)
          ends nothing
          (viewed_image u start text z.file (viewed_left t m b old lawful told o op go live may.sound may.fit
          z.file begun.content).0)
          (λ room rests below image since.
          let both = left_after t m b old lawful told o op go live may.sound may.fit z begun.left room rests
          below image since in
          (viewed_image u start text image both.0, both.1))

      pub stopped : (why : BatchFault) → end ≡ Err (reason_of why)
          → Finishes CLASSES x (store_on new z) (Err why) → IsKnown
      stopped fault.Broken ends is =
          absurd (let e : true ≡ false = sym is.answer ∙ op.unbroken in cc)
      stopped fault.Damaged ends is = refuses fault.Damaged ends (is.same refl).same_disk
          ((map_live x go is.answer.1 op.told, is.judged op.told), refl)
      stopped fault.NoBatch ends is =
          let judged = is.judged op.told in
          refuses fault.NoBatch ends (is.same refl).same_disk
          (((map_live x go is.answer.1 op.told, judged.0), judged.1), refl)
      stopped (fault.Line n) ends is = absurd (is.answer)
      stopped (fault.Unfit n) ends is =
          let judged = is.judged op.told in
          refuses (fault.Unfit n) ends (is.same refl).same_disk
          (inl (kept_for is.answer.1 judged.0 (Some n) judged.1.changes judged.1.batch judged.1.misfit), refl)
      stopped fault.Worn ends is =
          let judged = is.judged op.told in
          refuses fault.Worn ends (is.same refl).same_disk (
            inl (
              kept_for is.answer.0.1 judged.0 None judged.1.changes judged.1.batch judged.1.fits,
              is.answer.1,
            ),
            refl,
          )
      stopped fault.Disk ends is = elim (is.fails refl op.told) as (λ _. IsKnown) [
        | inl may ↦ fails_in ends is may
        | inr same ↦ refuses fault.Disk ends same.1 (inr refl)
      ]
