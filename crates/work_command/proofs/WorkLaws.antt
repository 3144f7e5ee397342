-- The headline of `work`, from how its jobs went.
use Rattle.std.specs.Prelude.{◌≡◌, ◌≢◌, ◌⊎◌, ℕ, ◌+◌, ◌<◌, ◌≤◌, true, false, List, [], ◌∷◌, length, IsTrue, refl}
use Rattle.std.proofs.Common.{arith, ap, sym, ◌∙◌, subst, inl, inr, append-nil}
use Rattle.disk_face.specs.Counts.{IsCalm, last}
use Rattle.disk_face.specs.States.{IsLawful, State}
use Rattle.disk_face.specs.Moments.{Leaves, LeftOnly}
use Rattle.disk_face.specs.Streams.{SinkState}
use Rattle.disk_face.proofs.MomentLaws.{Leaves-weaken, LeftOnly-after}
use Rattle.size_class.specs.declared.TheConstants.{CLASSES, SIZE_MAX}
use Rattle.slot_codec.specs.Choice as choice
use Rattle.slot_codec.specs.Spelling.{head_len}
use Rattle.slot_codec.specs.declared.codec.SuperBlock.{SuperBlock}
use Rattle.map_model.specs.Maps.{Map}
use Rattle.map_model.specs.Requests.{Reply, Request}
use Rattle.segment_layout.specs.Books.{Book}
use Rattle.table_rules.specs.Opening.{Opens, OpensBy}
use Rattle.table_rules.specs.Sequences.{HasSequenceUpTo}
use Rattle.table_rules.proofs.SequenceLaws.{sequence_wider}
use Rattle.store_model.specs.Connection.{IsOver, StoreValue, base_of, limits_of, state_of}
use Rattle.store_model.specs.States as store
use Rattle.store_model.specs.States.{Chain}
use Rattle.store_model.specs.Opened.{IsFoundImage, LeavesRoom, RestsOnFound}
use Rattle.store_model.proofs.OpeningLaws.{found_image}
use Rattle.ask_session.specs.Runs as run
use Rattle.ask_session.specs.Runs.{IsRunImage, IsStepImage, last_state, most_sequence}
use Rattle.ask_session.proofs.RunLaws.{opens_with}
use Rattle.work_maker.specs.Jobs.{jobs}
use Rattle.work_maker.proofs.ListLaws.{how_many}
use Rattle.work_session.specs.Works.{ArePaidLines, HasDone, HasStopped, IsJobImage}
use Rattle.work_session.specs.declared.summary.Summary.{Summary}
use Rattle.command_face.specs.declared.status.TheConstants.{DISK_FAILED, NO_FILE, NO_MEMORY, SINK_FAILED}
use Rattle.work_command.specs.Asked.{NumberedJobs, Tells, jobs_of}
use Rattle.served_file.specs.Served.{EndsTight, IsNextStart, OpensTo, OpensToBeing, OpensToKept, Starts, limits_with, most_left, found_with}
use Rattle.command_face.specs.Outcomes.{PutsLast}
use Rattle.work_command.specs.Working.{JobsHold, has_worked, is_working}
use Rattle.served_file.proofs.OpeningLaws.{Opened, exact_turn, found_numbered, requests_low, start_low}
use Rattle.served_file.proofs.OverLaws.{next_over, tight_over}
use Rattle.served_file.proofs.ShownLaws.{Shows, first_kept, last_shown, some_weaker}
use Rattle.disk_face.specs.Devices.{devices}

-- there is a job
some_of : (requests : List Request) (n : ℕ) → length requests ≡ n + 1 → requests ≢ []
some_of requests n long is = omega (arith, long, ap (λ (xs : List Request). length xs) is)

some_jobs : (number count names : ℕ) → jobs number count names ≢ []
some_jobs number count names = some_of (jobs number count names) count (how_many names 1 count _)

module _ (t : choice.SlotTable) (m : Map) (b : Book) (old : State) (lawful : IsLawful old)
    (o : OpensBy CLASSES SIZE_MAX t old.file m b) (asked : NumberedJobs) (out after : SinkState) where
  -- each image that was left as the call began
  left_before : old.turn < last → RestsOnFound t old
      → LeftOnly old old.turn (IsFoundImage CLASSES t m b (length old.file))
  left_before below rests image since =
      found_image CLASSES t old.file m b o image (rests image (lawful.only_now image below since))

  -- ---- no job was begun

  module _ (u : SuperBlock) (start : store.State) (starts : Starts t m b start) {z : State}
      (later : old.turn ≤ z.turn)
      (left : LeavesRoom t → RestsOnFound t old
      → Leaves old z (IsFoundImage CLASSES t m b (length old.file))) where
    found_start : (image : List ℕ) → Opens CLASSES SIZE_MAX image m b → OpensTo start image
    found_start image is = opens_with image (ap (λ (y : store.State). y.map) starts.state)
        (ap (λ (y : store.State). y.book) starts.state) is

    pub numbered_start : (k : ℕ) → LeavesRoom t → RestsOnFound t old → z.turn < last
        → LeftOnly z old.turn (HasSequenceUpTo (most_left k t))
    numbered_start k room rests below image since = found_numbered t m b (length old.file) k image
        (LeftOnly-after old.turn (IsFoundImage CLASSES t m b (length old.file)) (omega arith)
        (left_before (omega (arith, later, below)) rests) (left room rests) image since)

    pub left_start : LeavesRoom t → RestsOnFound t old → z.turn < last → LeftOnly z old.turn (OpensTo start)
    left_start room rests below image since = found_start image
        (LeftOnly-after old.turn (IsFoundImage CLASSES t m b (length old.file)) (omega arith)
        (left_before (omega (arith, later, below)) rests) (left room rests) image since).opens

    pub none_begun : (status : ℕ) → is_working status ≡ true → has_worked status ≡ false
        → (IsCalm old.faults z.faults → IsNextStart t start start.sequence old z)
        → JobsHold (found_with u t m b) asked status (devices old out) (devices z after)
    none_begun status known none next = record {
      start = start;
      starts = starts;
      continues = λ is. absurd (let e : true ≡ false = sym is ∙ none in cc);
      n = 0;
      ran = record {
        answered = [];
        others = jobs asked.number asked.count u.names;
        split = refl;
        count = refl;
        replies = [];
        states = [];
        chain = tt;
      };
      far = record {
        known = known;
        all = λ is. absurd (let e : true ≡ false = sym is ∙ none in cc);
        some = λ is. some_jobs asked.number asked.count u.names;
        none = λ is. refl;
      };
      done = λ is. absurd (let e : true ≡ false = sym is ∙ none in cc);
      crash = λ room rests below image since. inl (inl (left_start room rests below image since));
      numbered = numbered_start u.k;
      unbegun = λ is room rests below. left_start room rests below;
      next_start = next;
      reach = start_low t u.k start.sequence starts.sequence;
    }

  -- ---- the file was opened

  module _ {mid : State} {s : StoreValue} (op : Opened t m b old mid s) where
    abbrev u : SuperBlock
    u = s.in_use.block

    abbrev start : store.State
    start = state_of s mid.file

    starts : Starts t m b start
    starts = record { state = op.state; sequence = op.sequence }

    kept_start : (image : List ℕ) → run.OpensToKept CLASSES start image → OpensTo start image
    kept_start image is = opens_with image
        (ap (λ (y : store.State). y.map) op.state ∙ ap (λ (y : store.State). y.kept) (sym op.state))
        (ap (λ (y : store.State). y.book) op.state ∙ ap (λ (y : store.State). y.kept_book) (sym op.state)) is

    -- what was left until the first job
    left_mid : LeavesRoom t → RestsOnFound t old → mid.turn < last → LeftOnly mid old.turn (OpensTo start)
    left_mid room rests below = left_start u start starts op.later op.left room rests below

    pub none_done : (status : ℕ) → is_working status ≡ true → has_worked status ≡ false
        → JobsHold (found_with u t m b) asked status (devices old out) (devices mid after)
    none_done status known none = none_begun u start starts op.later op.left status known none
        (λ calm. next_over t s old mid s.in_use.sequence op.sound op.over op.block (omega arith) op.rests)

    module _ (requests : List Request) (replies : List Reply) (states : List store.State)
        (chain : Chain (limits_of s) start requests replies states) where
      shown : (image : List ℕ) → Shows image start replies states → OpensToKept start replies states image
      shown image (inl kept) = inl (kept_start image kept)
      shown image (inr one) = inr one

      run_shows : (image : List ℕ) → IsRunImage CLASSES u.k (base_of s) start states image
          → OpensToKept start replies states image
      run_shows image is = shown image (first_kept image (limits_of s) start requests replies states chain
          (some_weaker (IsStepImage CLASSES u.k (base_of s) image)
          (λ x y. run.OpensToKept CLASSES x image ⊎ run.OpensToKept CLASSES y image) start states
          (λ x y h. h.opens)
          is))

      job_shows : (r : Request) (others : List Request) (image : List ℕ)
          → IsJobImage CLASSES (base_of s) (limits_of s) (last_state start states) r image
          → OpensToKept start replies states image
          ⊎ OpensToBeing 7 (limits_with u) (last_state start states) (r ∷ others) image
      job_shows r others image is = elim is.opens
          as (λ _. OpensToKept start replies states image
          ⊎ OpensToBeing 7 (limits_with u) (last_state start states) (r ∷ others) image) [
            | inl kept ↦ inl (shown image (last_shown image (limits_of s) start requests replies states chain
                kept))
            | inr one ↦ inr (refl, one)
          ]

    module _ {z : State} where
      -- the sequence of what was left until the last job
      numbered_after : LeavesRoom t → RestsOnFound t old → z.turn < last → mid.turn ≤ z.turn
          → Leaves mid z (HasSequenceUpTo (most_sequence u.k s.in_use.sequence))
          → LeftOnly z old.turn (HasSequenceUpTo (most_left u.k t))
      numbered_after room rests below later left =
          let P = HasSequenceUpTo (most_left u.k t) in
          LeftOnly-after old.turn P op.later
          (numbered_start u start starts op.later op.left u.k room rests (omega (arith, below, later)))
          (Leaves-weaken P (λ image. sequence_wider (most_sequence u.k s.in_use.sequence) (most_left u.k t)
          image (requests_low t u.k s.in_use.sequence op.most)) left)

      -- the disk failed in a job
      pub in_a_job : HasStopped CLASSES s (jobs_of asked s) mid z
          → JobsHold (found_with u t m b) asked 7 (devices old out) (devices z after)
      in_a_job x = record {
        start = start;
        starts = starts;
        continues = λ is. absurd (let e : false ≡ true = is in cc);
        n = length x.done;
        ran = record {
          answered = x.done;
          others = x.next ∷ x.others;
          split = x.split;
          count = refl;
          replies = x.replies;
          states = x.states;
          chain = x.chain op.told;
        };
        far = record {
          known = refl;
          all = λ is. absurd (let e : false ≡ true = is in cc);
          some = λ is none. absurd (cc);
          none = λ is. absurd (omega (arith, is));
        };
        done = λ is. absurd (let e : false ≡ true = is in cc);
        crash = λ room rests below.
            let P = λ (image : List ℕ). OpensToKept start x.replies x.states image
            ⊎ OpensToBeing 7 (limits_with u) (last_state start x.states) (x.next ∷ x.others) image in
            LeftOnly-after old.turn P op.later
            (λ image since. inl (inl (left_mid room rests (omega (arith, below, x.frame.no_turn_back)) image
            since)))
            (Leaves-weaken P (λ image is. elim is as (λ _. P image) [
              | inl ran ↦ inl (run_shows x.done x.replies x.states (x.chain op.told) image ran)
              | inr job ↦ job_shows x.done x.replies x.states (x.chain op.told) x.next x.others image job
            ]) (x.left op.told (op.rests rests)));
        numbered = λ room rests below. numbered_after room rests below x.frame.no_turn_back
            (x.numbered op.told (op.rests rests));
        unbegun = λ is. absurd (omega (arith, is));
        next_start = λ calm. absurd (omega (arith, calm.same, calm.below, op.faults, x.rose));
        reach = omega (arith, x.reach op.told, requests_low t u.k s.in_use.sequence op.most);
      }

      -- all jobs were done
      module _ (x : Summary) (d : HasDone CLASSES s (jobs_of asked s) mid z x) where
        abbrev requests : List Request
        requests = jobs_of asked s

        chain_d : Chain (limits_of s) start requests d.replies d.states
        chain_d = d.ran.chain op.told

        newest : state_of d.new z.file ≡ last_state start d.states
        newest = d.ran.newest op.told

        over_z : IsOver CLASSES d.new z.file
        over_z = d.ran.over.over d.ran.unbroken (d.ran.frame.stays.told ∙ op.told)

        pub all_done : (status : ℕ) → is_working status ≡ true → has_worked status ≡ true
            → status ≢ DISK_FAILED
            → ((status ≡ NO_FILE) ⊎ (status ≡ NO_MEMORY) → ⊥)
            → (text : List ℕ) → Tells asked.entries requests d.replies x text
            → (IsTrue out.tells → PutsLast out.given after.given text (status ≡ SINK_FAILED))
            → JobsHold (found_with u t m b) asked status (devices old out) (devices z after)
        all_done status known worked seven begun text tells puts = record {
          start = start;
          starts = starts;
          continues = λ is. op.continues;
          n = length requests;
          ran = record {
            answered = requests;
            others = [];
            split = sym (append-nil requests);
            count = refl;
            replies = d.replies;
            states = d.states;
            chain = chain_d;
          };
          far = record {
            known = known;
            all = λ is. refl;
            some = λ is. absurd (seven is);
            none = λ is. absurd (begun is);
          };
          done = λ is. record {
            summary = x;
            sums = record {
              requests = d.requests;
              counts = d.counts op.told;
              moved_row = d.new.moved;
              asked_row = d.new.asked;
              lines = d.lines;
              same = d.same;
              asked = d.asked op.told;
              paid = subst (λ (g : List (List ℕ)). ArePaidLines CLASSES u.k g x)
                  (ap (λ (y : store.State). y.book.grid) op.state) d.paid;
            };
            text = text;
            tells = tells;
            puts = puts;
            saved = record {
              ends = subst (λ (y : store.State). EndsTight u.k (head_len u.names) y z.file) newest
                  (tight_over d.new z.file u d.ran.sound over_z d.ran.block);
              opens = d.opens op.told;
              safe = λ rests. d.all op.told (op.rests rests);
            };
            calls = λ settled exact. omega (
              arith,
              d.calls op.told,
              op.turn settled,
              exact_turn t b old
                  exact,
            );
          };
          crash = λ room rests below.
              let P = λ (image : List ℕ). OpensToKept start d.replies d.states image
              ⊎ OpensToBeing status (limits_with u) (last_state start d.states) [] image in
              LeftOnly-after old.turn P op.later
              (λ image since. inl (inl (left_mid room rests (omega (arith, below, d.ran.frame.no_turn_back))
              image since)))
              (Leaves-weaken P (λ image is. inl (run_shows requests d.replies d.states chain_d image is))
              (d.ran.left op.told (op.rests rests)));
          numbered = λ room rests below. numbered_after room rests below d.ran.frame.no_turn_back
              (d.ran.numbered op.told (op.rests rests));
          unbegun = λ is. absurd (begun is);
          next_start = λ calm. subst (λ (y : store.State). IsNextStart t y y.sequence old z) newest
              (next_over t d.new old z d.new.in_use.sequence d.ran.sound over_z (d.ran.block ∙ op.block)
              (omega arith) (λ was. d.ran.rests op.told (op.rests was)));
          reach = omega (
            arith,
            d.ran.reach op.told,
            ap (λ (y : store.State). y.sequence) newest,
            requests_low t u.k s.in_use.sequence op.most,
          );
        }
