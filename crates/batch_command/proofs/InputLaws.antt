-- What is known of a batch over a file that opens, by what came of its input.
use Rattle.std.specs.Prelude.{◌≡◌, ◌≢◌, ◌<◌, ℕ, Bool, true, false, ◌||◌, List, [], Option, Some, None, Result, Ok, Err, IsTrue, refl}
use Rattle.std.proofs.Common.{arith, ap, sym, ◌∙◌, subst, inl, inr}
use Rattle.std.proofs.Math.Nat.{max-le}
use Rattle.std.specs.FinMap as fin
use Rattle.disk_face.specs.Counts.{last}
use Rattle.disk_face.specs.Frames.{Unchanged}
use Rattle.disk_face.specs.Moments.{Leaves, LeftOnly}
use Rattle.disk_face.specs.States.{State}
use Rattle.disk_face.specs.Streams.{SinkState}
use Rattle.disk_face.specs.Writes.{KeepsDisk}
use Rattle.disk_face.proofs.MomentLaws.{Leaves-weaken, LeftOnly-after}
use Rattle.size_class.specs.declared.TheConstants.{CLASSES, SIZE_MAX}
use Rattle.slot_codec.specs.Choice as choice
use Rattle.slot_codec.specs.Spelling.{cap}
use Rattle.slot_codec.specs.declared.codec.SuperBlock.{SuperBlock}
use Rattle.map_model.specs.Maps.{Map}
use Rattle.map_model.specs.Requests.{Change}
use Rattle.segment_layout.specs.Books.{Book, version_of}
use Rattle.table_rules.specs.Opening.{Opens}
use Rattle.table_rules.proofs.SequenceLaws.{sequence_wider}
use Rattle.store_model.specs.Connection.{IsConnected, IsOver, StoreValue, limits_of, live_cap, state_of}
use Rattle.store_model.specs.Opened.{LeavesRoom, RestsOnFound}
use Rattle.store_model.specs.States as store
use Rattle.store_model.specs.Stores.{IsStore}
use Rattle.store_model.proofs.OverLaws.{kept_image}
use Rattle.command_face.specs.Layers.{Answers}
use Rattle.command_face.specs.Outcomes.{EndsBy, status_at}
use Rattle.command_face.specs.declared.stop.StopReason.{StopReason}
use Rattle.command_face.specs.declared.stop.StopReason.TheVariants as stop
use Rattle.served_file.specs.Served.{IsNextStart, OpensTo, limits_with, most_left}
use Rattle.served_file.proofs.OverLaws.{next_over}
use Rattle.batch_model.specs.Batches.{IsBatch, StopsAt, applied, batch_name}
use Rattle.batch_model.specs.Fits.{misfit}
use Rattle.batch_core.specs.Answers.{Applies, IsBatchDone, applied_to, requests_of}
use Rattle.batch_core.specs.Doing.{CanGo, IsBatchMap, misfit_in, worn_from}
use Rattle.batch_core.specs.Going.{IsLeft}
use Rattle.batch_core.specs.Making.{OpensToLast}
use Rattle.batch_core.specs.StoresOn.{RestsOn, StoreOn, store_on}
use Rattle.batch_core.specs.declared.fault.BatchFault.{BatchFault}
use Rattle.batch_core.specs.declared.fault.BatchFault.TheVariants as fault
use Rattle.batch_core.proofs.ApplyLaws.{fits_map, stands_some}
use Rattle.batch_command.specs.Batching.{has_applied}
use Rattle.batch_command.specs.Doing.{EndsAs, PutsReply, reason_of}
use Rattle.batch_command.specs.Promise.{AppliedTo, IsBatchEnd, IsBatchImage, IsFor, IsLeftBy, OpensToView, room_in}
use Rattle.batch_command.specs.Reading.{ComesToNone, text_of}
use Rattle.batch_command.proofs.AlikeLaws.{kept_opens, kept_viewed, same_next, same_staged, same_viewed}
use Rattle.served_file.proofs.AlwaysLaws.{nothing_put}
use Rattle.batch_command.proofs.EndsLaws.{answers_line, fault_unapplied, line_applied}
use Rattle.batch_command.proofs.FrontLaws.{front_batch, front_none, front_stops}
use Rattle.batch_command.proofs.KnownLaws.{IsBoth, Known, known_failed, unapplied_none, viewed_image}
use Rattle.batch_command.proofs.StageLaws.{IsStaged, Stage, most_high, view_of}

module _ (t : choice.SlotTable) (m : Map) (b : Book) (old : State) (u : SuperBlock)
    (start : store.State) (block : u ≡ t.chosen.block) (y : State) (s : StoreValue)
    (stage : Stage t old u start y s) (ready : CanGo CLASSES (store_on s y)) (left : List ℕ) (z : State)
    (out put after : SinkState) (end : Result (Unit {0}) StopReason) where
  abbrev x : StoreOn
  x = store_on s y

  abbrev now : store.State
  now = state_of s y.file

  abbrev IsEnd : Result (List ℕ) StopReason → Type 0
  IsEnd = IsBatchEnd (limits_with u) start left

  abbrev IsImage : List ℕ → Type 0
  IsImage image = IsBatchImage (limits_with u) start left image

  abbrev IsEach : List ℕ → Type 0
  IsEach = IsBoth t u start left

  abbrev IsKnown : Type 0
  IsKnown = Known t m b u start left old z out put after end

  kept_image_is : (image : List ℕ) → Opens CLASSES SIZE_MAX image now.kept now.kept_book → IsImage image
  kept_image_is image is = viewed_image u start left image (kept_viewed t old u start y s stage image is)

  stage_both : LeavesRoom t → RestsOnFound t old → y.turn < last → LeftOnly y old.turn IsEach
  stage_both room rests below image since = (
    viewed_image u start left image (stage.left room rests below image since),
    stage.numbered room rests below image since,
  )

  -- ---- nothing was applied

  module _ (same : Unchanged y z) where
    staged : LeavesRoom t → RestsOnFound t old → z.turn < last → LeftOnly z old.turn (IsStaged t u start)
    staged = same_staged t old u start y s stage z same

    same_crash : LeavesRoom t → RestsOnFound t old → z.turn < last → LeftOnly z old.turn IsImage
    same_crash room rests below image since =
        viewed_image u start left image (staged room rests below image since).0

    same_content : IsImage z.file
    same_content = viewed_image u start left z.file (same_viewed t old u start y s stage z same)

    pub input_same : has_applied (status_at end) ≡ false → (ComesToNone (status_at end) → ⊥)
        → Answers IsEnd out put end → IsKnown
    input_same none comes answers = record {
      answers = answers;
      content = λ _. same_content;
      crash = same_crash;
      numbered = λ room rests below image since. (staged room rests below image since).1;
      unbegun = λ which. absurd (comes which);
      unapplied = λ _ _ room. record {
        content = same_viewed t old u start y s stage z same;
        left = λ rests below image since. (staged room rests below image since).0;
      };
      done = λ is. unapplied_none (status_at end) none is;
      next_start = λ calm. record {
        left = now;
        by = subst (λ (a : Bool). IsLeftBy a (limits_with u) start left now) (sym none) (inr stage.finished);
        low = stage.low;
        next = same_next t old u start block y s stage z same;
      };
    }

    -- an empty text, whose line was put unless the sink failed
    pub input_empty : left ≡ [] → (ComesToNone (status_at end) → ⊥) → PutsReply false out put end → IsKnown
    input_empty none comes puts = record {
      answers = answers_line IsEnd out put false end
          (now, now, stage.finished, inl (none, refl), inl (none, refl)) puts;
      content = λ _. same_content;
      crash = same_crash;
      numbered = λ room rests below image since. (staged room rests below image since).1;
      unbegun = λ which. absurd (comes which);
      unapplied = λ none. absurd (let e : true ≡ false = sym (line_applied end puts) ∙ none in cc);
      done = λ is. record {
        mid = now;
        left = now;
        finished = stage.finished;
        applied = inl (none, refl);
        gone = stage.free;
        opens = kept_opens t old u start y s stage z.file
            (subst (λ (f : List ℕ). Opens CLASSES SIZE_MAX f now.kept now.kept_book)
            (sym (same.same_file stage.told))
            (record { table = stage.over.table; opens = stage.over.checkpoint.opens }));
        safe = λ rests image may. kept_opens t old u start y s stage image
            (kept_image s stage.sound y.file stage.over image
            (stage.rests rests image (same.images image may))).opens;
      };
      next_start = λ calm. record {
        left = now;
        by = subst (λ (a : Bool). IsLeftBy a (limits_with u) start left now) (sym (line_applied end puts))
            (now, stage.finished, inl (none, refl));
        low = stage.low;
        next = same_next t old u start block y s stage z same;
      };
    }

  -- ---- a batch was begun

  -- whether a batch fits the store is whether it fits the map of its state
  fits_now : (changes : List Change) → IsBatch left changes
      → misfit_in false s changes ≡ misfit false (live_cap s) now.map changes
  fits_now changes batch =
      let held = stands_some x ready in
      fits_map x held.0 changes left held.1 batch
      ∙ ap (λ (n : Map). misfit false (live_cap s) n changes) (sym (held.1.told stage.told))

  room_now : live_cap s ≡ room_in (limits_with u) now
  room_now = ap (λ (v : SuperBlock). cap v.names (version_of s.book)) stage.block

  fits_room : (n : Option ℕ) (changes : List Change) → IsBatch left changes → misfit_in false s changes ≡ n
      → misfit false (room_in (limits_with u) now) now.map changes ≡ n
  fits_room n changes batch fits = subst (λ (k : ℕ). misfit false k now.map changes ≡ n) room_now
      (sym (fits_now changes batch) ∙ fits)

  fits_in_now : (n : Option ℕ) (changes : List Change) → IsBatch left changes → misfit_in false s changes ≡ n
      → IsFor false (room_in (limits_with u) now) now.map left n
  fits_in_now n changes batch fits = record {
    changes = changes;
    batch = batch;
    fits = fits_room n changes batch fits;
  }

  module _ (changes : List Change) (batch : IsBatch left changes) (fits : misfit_in false s changes ≡ None)
    where
      fits_here : misfit false (live_cap s) now.map changes ≡ None
      fits_here = sym (fits_now changes batch) ∙ fits

      left_both : (image : List ℕ) → IsLeft CLASSES (IsBatchMap (applied_to x left changes)) x image
          → IsEach image
      left_both image is = (
        elim is.opens as (λ _. IsImage image) [
          | inl kept ↦ kept_image_is image kept
          | inr such ↦ inr (inr (record {
            view = now.map;
            viewed = stage.finished.0;
            fit = record {
              changes = changes;
              batch = batch;
              fits = subst (λ (k : ℕ). misfit false k now.map changes ≡ None) stage.same_cap fits_here;
            };
            opens = subst (λ (v : SuperBlock). OpensToView v.names (applied changes now.map) image)
                stage.block
                (view_of x (applied_to x left changes) false batch stage.free fits_here image such.0 such.1
                such.2);
          }))
        ],
        sequence_wider _ (most_left u.k t) image (max-le stage.low (most_high t u)) is.sequence,
      )

      module _ (begun_left : RestsOn x
          → Leaves y z (IsLeft CLASSES (IsBatchMap (applied_to x left changes)) x)) where
        begun_both : LeavesRoom t → RestsOnFound t old → z.turn < last → LeftOnly z old.turn IsEach
        begun_both room rests below =
            let leaves = begun_left (stage.rests rests) in
            LeftOnly-after old.turn IsEach stage.later
            (stage_both room rests (omega (arith, leaves.later, below)))
            (Leaves-weaken IsEach left_both leaves)

        -- all of it was done, and the line was put unless the sink failed
        module _ (some : left ≢ []) (new : StoreValue) (frame : KeepsDisk y z)
            (done : IsBatchDone CLASSES (applied_to x left changes) (requests_of left changes) x
            (store_on new z)) (early : s.in_use.sequence < worn_from)
            (connected : IsConnected CLASSES new z) (unbroken : new.is_broken ≡ false)
            (sound : IsStore CLASSES new) (content : IsImage z.file) where
          abbrev last_state : store.State
          last_state = state_of new z.file

          over : IsOver CLASSES new z.file
          over = connected.over unbroken (subst IsTrue (sym frame.stays.told) stage.told)

          same_kept : last_state.kept ≡ last_state.map
          same_kept = done.kept ∙ sym done.same_map

          gone : fin.get last_state.map batch_name ≡ None
          gone = ap (λ (n : Map). fin.get n batch_name) done.same_map ∙ done.gone

          last_opens : (image : List ℕ) → OpensToLast CLASSES (store_on new z) image
              → OpensTo last_state image
          last_opens image is = subst (λ (n : Map). Opens CLASSES SIZE_MAX image n new.book) same_kept
              (subst (λ (k : Book). Opens CLASSES SIZE_MAX image last_state.kept k) done.kept_book is)

          same_limits : limits_of s ≡ limits_with u
          same_limits = ap limits_with stage.block

          applied_last : AppliedTo (limits_with u) left now last_state
          applied_last = inr (
            some,
            record {
              fit = record {
                changes = changes;
                batch = batch;
                fits = fits_room None changes batch fits;
              };
              early = early;
              replies = done.ran.0;
              ran = subst (λ (l : store.Limits). store.Run l now (requests_of left changes) done.ran.0
                  last_state) same_limits done.ran.1;
              same_map = done.same_map;
              same_kept = same_kept;
              same_book = done.kept_book;
              gone = gone;
            },
          )

          last_next : IsNextStart t last_state last_state.sequence old z
          last_next = next_over t new old z new.in_use.sequence sound over (done.block ∙ stage.block ∙ block)
              (omega arith) (λ rests. done.rests (stage.rests rests))

          pub input_done : (ComesToNone (status_at end) → ⊥) → PutsReply true out put end → IsKnown
          input_done comes puts = record {
            answers = answers_line IsEnd out put true end
                (now, last_state, stage.finished, applied_last, inr (some, refl)) puts;
            content = λ _. content;
            crash = λ room rests below image since. (begun_both room rests below image since).0;
            numbered = λ room rests below image since. (begun_both room rests below image since).1;
            unbegun = λ which. absurd (comes which);
            unapplied = λ bad. absurd (let e : true ≡ false = sym (line_applied end puts) ∙ bad in cc);
            done = λ is. record {
              mid = now;
              left = last_state;
              finished = stage.finished;
              applied = applied_last;
              gone = gone;
              opens = last_opens z.file done.opens;
              safe = λ rests image may. last_opens image (done.all (stage.rests rests) image may);
            };
            next_start = λ calm. record {
              left = last_state;
              by = subst (λ (a : Bool). IsLeftBy a (limits_with u) start left last_state)
                  (sym (line_applied end puts)) (now, stage.finished, applied_last);
              low = omega (arith, done.reach, early, most_high t u);
              next = last_next;
            };
          }

  -- ---- what came of a text that was read

  module _ (new : StoreValue) where
    -- of a batch that is the whole text
    applied_whole : Applies CLASSES left x (store_on new z) (Ok true) → (ComesToNone (status_at end) → ⊥)
        → PutsReply true out put end → IsKnown
    applied_whole is comes puts =
        let fit = is.answer.0.2 in
        let begun = is.begun refl stage.told fit.changes fit.batch in
        input_done fit.changes fit.batch fit.fits begun.left is.answer.0.1 new is.frame (begun.done refl)
        is.answer.1 is.over (is.broken ∙ ap (λ (b : Bool). b || false) stage.unbroken) is.sound
        (left_both fit.changes fit.batch fit.fits z.file begun.content).0 comes puts

    failed_whole : Applies CLASSES left x (store_on new z) (Err fault.Disk) → end ≡ Err stop.Disk
        → put ≡ out → IsKnown
    failed_whole is ends nothing =
        let fit = is.answer.0.2 in
        let begun = is.begun refl stage.told fit.changes fit.batch in
        known_failed t m b old left z out put after end u start y.faults stage.faults
        (is.cause.rose refl) ends nothing
        (left_both fit.changes fit.batch fit.fits z.file begun.content).0
        (begun_both fit.changes fit.batch fit.fits begun.left)

    -- nothing was begun, and that is the answer
    refuses : (why : BatchFault) → end ≡ Err (reason_of why) → put ≡ out → Unchanged y z
        → (ComesToNone (status_at end) → ⊥) → EndsBy IsEnd [] (Err (reason_of why)) → IsKnown
    refuses why ends nothing same comes by = input_same same
        (ap (λ (e : Result (Unit {0}) StopReason). has_applied (status_at e)) ends ∙ fault_unapplied why)
        comes (subst (Answers IsEnd out put) (sym ends)
        (nothing_put IsEnd out put (reason_of why) by nothing))

    module _ (text : List ℕ) (read : text ≡ text_of left) where
      whole : (changes : List Change) → IsBatch text changes → text ≡ left
      whole changes batch = read
          ∙ front_batch left changes (subst (λ (t : List ℕ). IsBatch t changes) read batch)

      fits_whole : (n : Option ℕ) (changes : List Change) → IsBatch text changes
          → misfit_in false s changes ≡ n → IsFor false (room_in (limits_with u) now) now.map left n
      fits_whole n changes batch fits = fits_in_now n changes
          (subst (λ (t : List ℕ). IsBatch t changes) (whole changes batch) batch) fits

      pub input_applied : (result : Result Bool BatchFault) → Applies CLASSES text x (store_on new z) result
          → EndsAs result out put end → (ComesToNone (status_at end) → ⊥) → IsKnown
      input_applied (Ok true) is ends comes =
          let fit = is.answer.0.2 in
          applied_whole (subst (λ (t : List ℕ). Applies CLASSES t x (store_on new z) (Ok true))
          (whole fit.changes fit.batch) is) comes ends
      input_applied (Ok false) is ends comes =
          input_empty (is.same refl).same_disk (front_none left (sym read ∙ is.answer.1)) comes ends
      input_applied (Err fault.Broken) is ends comes =
          absurd (let e : true ≡ false = sym is.answer ∙ stage.unbroken in cc)
      input_applied (Err fault.Damaged) is ends comes = absurd (is.answer)
      input_applied (Err fault.NoBatch) is ends comes = absurd (is.answer)
      input_applied (Err (fault.Line n)) is ends comes = refuses (fault.Line n) ends.0 ends.1
          (is.same refl).same_disk comes (
            (
              (now, stage.finished),
              front_stops left n (subst (λ (t : List ℕ). StopsAt t n) read is.answer.1),
            ),
            refl,
          )
      input_applied (Err (fault.Unfit n)) is ends comes =
          let misfit = is.answer.1 in
          refuses (fault.Unfit n) ends.0 ends.1 (is.same refl).same_disk comes
          (inr (now, stage.finished, fits_whole (Some n) misfit.changes misfit.batch misfit.misfit), refl)
      input_applied (Err fault.Worn) is ends comes =
          let fit = is.answer.0.2 in
          refuses fault.Worn ends.0 ends.1 (is.same refl).same_disk comes (
            inr (
              now,
              stage.finished,
              subst (λ (t : List ℕ). t ≢ []) (whole fit.changes fit.batch)
                  is.answer.0.1,
              fits_whole None fit.changes fit.batch fit.fits,
              is.answer.1,
            ),
            refl,
          )
      input_applied (Err fault.Disk) is ends comes =
          let fit = is.answer.0.2 in
          failed_whole (subst (λ (t : List ℕ). Applies CLASSES t x (store_on new z) (Err fault.Disk))
          (whole fit.changes fit.batch) is) ends.0 ends.1

  -- it couldn't be read
  pub input_unread : Unchanged y z → end ≡ Err stop.Source → put ≡ out → IsKnown
  input_unread same ends nothing =
      let eight : status_at end ≡ 8 = ap (λ (e : Result (Unit {0}) StopReason). status_at e) ends in
      input_same same (ap has_applied eight) (λ which. omega (arith, which, eight))
      (subst (Answers IsEnd out put) (sym ends)
      (nothing_put IsEnd out put stop.Source ((now, stage.finished), refl) nothing))
