-- What `desk` does to a file that opens, from how it went.
use Rattle.std.specs.Prelude.{◌≡◌, ◌≢◌, ◌⊎◌, ◌↔◌, ◌<◌, ◌≤◌, ◌++◌, ℕ, true, false, List, [], Option, Some, None, Result, IsTrue, refl}
use Rattle.std.proofs.Common.{arith, ap, sym, ◌∙◌, subst, inl, inr, append-nil}
use Rattle.disk_face.specs.Counts.{IsCalm, Rose, last}
use Rattle.disk_face.specs.Devices.{devices}
use Rattle.disk_face.specs.Moments.{LeftOnly}
use Rattle.disk_face.specs.States.{IsLawful, State}
use Rattle.disk_face.specs.Streams.{SinkState, SourceState}
use Rattle.disk_face.proofs.MomentLaws.{LeftOnly-after}
use Rattle.size_class.specs.declared.TheConstants.{CLASSES, SIZE_MAX}
use Rattle.slot_codec.specs.Choice as choice
use Rattle.slot_codec.specs.declared.codec.SuperBlock.{SuperBlock}
use Rattle.map_model.specs.Maps.{Map}
use Rattle.segment_layout.specs.Books.{Book}
use Rattle.table_rules.specs.Opening.{OpensBy}
use Rattle.store_model.specs.Connection.{FlushInHand, IsOver, StoreValue, state_of}
use Rattle.store_model.specs.Halves.{IsReadable}
use Rattle.store_model.specs.Opened.{LeavesRoom, RestsOnFound, most_found}
use Rattle.store_model.specs.States as store
use Rattle.store_model.specs.States.{Limits}
use Rattle.command_face.specs.Outcomes.{PutsLast, line_at, status_at}
use Rattle.command_face.specs.declared.status.TheConstants.{DISK_FAILED, NO_FILE, NO_MEMORY}
use Rattle.command_face.specs.declared.stop.StopReason.{StopReason}
use Rattle.command_face.proofs.StatusLaws.{later_rose}
use Rattle.served_file.specs.Served.{IsNextStart, OpensTo, Starts, found_with, limits_with}
use Rattle.served_file.specs.Steps.{FileSteps}
use Rattle.served_file.proofs.FoundLaws.{found_start}
use Rattle.served_file.proofs.OpeningLaws.{Opened, start_low}
use Rattle.served_file.proofs.OverLaws.{next_over}
use Rattle.served_file.proofs.StartLaws.{IsEarly, LeavesStart, begun_or_not, leaves_opened, left_mid, starts_so}
use Rattle.ask_text.specs.declared.ends.End.{End}
use Rattle.ask_text.specs.declared.ends.End.TheVariants as ends
use Rattle.desk_model.specs.Answers.{Answer}
use Rattle.desk_model.specs.Desks.{Desk, Plays, new_desk}
use Rattle.desk_model.specs.Events.{Event, IsScript}
use Rattle.desk_model.proofs.OrderLaws.{session_taken, session_told}
use Rattle.desk_model.proofs.RunLaws.{desk_runs}
use Rattle.desk_core.specs.Images as images
use Rattle.desk_core.specs.Images.{kept_of}
use Rattle.desk_core.specs.Runs.{budget}
use Rattle.desk_core.specs.Shows.{ShowsStore}
use Rattle.desk_core.proofs.HandLaws.{no_hand}
use Rattle.desk_core.proofs.ImageLaws.{opens_with}
use Rattle.desk_command.specs.Acts.{IsAct, IsFinishing, IsImageFrom, LastAct, OpensAsLeft, last_from, left_from, text_of}
use Rattle.desk_command.specs.Acts as act
use Rattle.desk_command.specs.Desking.{ComesToNone, is_desking}
use Rattle.desk_command.specs.Doing.{ActsAt, DeskWent, HasDesked, HasPut, IsDesking, StopsAt}
use Rattle.desk_command.specs.Promise.{DeskHolds, HowFar, IsInOrder, NumbersLine}
use Rattle.desk_command.proofs.DoneLaws.{EndStatus, status_for}
use Rattle.desk_command.proofs.ReachLaws.{left_low}
use Rattle.desk_command.proofs.ScriptLaws.{Splits, act_over, none_next, splits}
use Rattle.served_file.specs.Ends.{end_of}

-- ---- orders

-- the requests are taken and replied in order
in_order : (limits : Limits) (start : store.State) (es : List Event) (answers : List Answer) (ds : List Desk)
    → Plays limits (new_desk start) es answers ds → IsInOrder limits (new_desk start) es answers ds
in_order limits start es answers ds plays = record {
  ran = desk_runs limits (new_desk start) es answers ds refl plays;
  taken = λ s few. session_taken limits (new_desk start) es answers ds s (omega (arith, few)) plays;
  told = λ s. session_told limits (new_desk start) es answers ds s plays;
}

-- ---- how it ends

status_zero : (why : End) (n : ℕ) → status_at (end_of why 0) ≡ status_at (end_of why n)
status_zero ends.End n = refl
status_zero ends.Line n = refl
status_zero ends.Disk n = refl
status_zero ends.Source n = refl
status_zero ends.Sink n = refl
status_zero ends.Budget n = refl

numbers : (why : End) (n : ℕ) → n ≤ budget → NumbersLine n (end_of why n)
numbers ends.End n few = tt
numbers ends.Line n few = omega (arith, few)
numbers ends.Disk n few = tt
numbers ends.Source n few = tt
numbers ends.Sink n few = tt
numbers ends.Budget n few = tt

early_status : (end : Result (Unit {0}) StopReason) → IsEarly end
    → (status_at end ≡ DISK_FAILED) ⊎ (status_at end ≡ NO_FILE) ⊎ (status_at end ≡ NO_MEMORY)
early_status end (inl disk) = inl (ap (λ (e : Result (Unit {0}) StopReason). status_at e) disk)
early_status end (inr (inl gone)) = inr (inl (ap (λ (e : Result (Unit {0}) StopReason). status_at e) gone))
early_status end (inr (inr none)) = inr (inr (ap (λ (e : Result (Unit {0}) StopReason). status_at e) none))

early_known : (n : ℕ) → (n ≡ DISK_FAILED) ⊎ (n ≡ NO_FILE) ⊎ (n ≡ NO_MEMORY) → is_desking n ≡ true
early_known n (inl seven) = ap is_desking seven
early_known n (inr (inl three)) = ap is_desking three
early_known n (inr (inr ten)) = ap is_desking ten

early_numbers : (end : Result (Unit {0}) StopReason) → IsEarly end → NumbersLine 0 end
early_numbers end (inl disk) = subst (NumbersLine 0) (sym disk) tt
early_numbers end (inr (inl gone)) = subst (NumbersLine 0) (sym gone) tt
early_numbers end (inr (inr none)) = subst (NumbersLine 0) (sym none) tt

-- how far a call came that did nothing
early_far : (status : ℕ) (others : List Event) (end : List ℕ)
    → (status ≡ DISK_FAILED) ⊎ (status ≡ NO_FILE) ⊎ (status ≡ NO_MEMORY)
    → HowFar status 0 others end act.nothing
early_far status others end is = record {
  known = early_known status is;
  done = λ zero. absurd (omega (arith, is, zero));
  whole = λ f. absurd f;
  line = λ two. absurd (omega (arith, is, two));
  begun = λ none. refl;
  disk = λ seven. inr refl;
  sink = λ nine. absurd (omega (arith, is, nine));
  idle = λ a b c. refl;
  few = omega arith;
  limit = (λ eleven. absurd (omega (arith, is, eleven)), λ all. absurd (omega (arith, all)));
}

-- how far a call came by the end of its desk
module _ (why : End) (n : ℕ) (next others : List Event) (more end : List ℕ) (was : LastAct) where
  far_line : why ≡ ends.Line → StopsAt why next more → IsScript more others end
      → (others ≡ []) × (end ≢ [])
  far_line is stops script =
      let s : StopsAt ends.Line next more = subst (λ (w : End). StopsAt w next more) is stops in
      let none = none_next others more end script s.2 in
      (none.0, λ e. s.1 (none.1 ∙ e))

  far_idle : (w : End) → ActsAt w was → w ≢ ends.End → w ≢ ends.Disk → w ≢ ends.Sink → was ≡ act.nothing
  far_idle ends.End by a b c = absurd (a refl)
  far_idle ends.Line by a b c = by
  far_idle ends.Disk by a b c = absurd (b refl)
  far_idle ends.Source by a b c = by
  far_idle ends.Sink by a b c = absurd (c refl)
  far_idle ends.Budget by a b c = by

  status_of_end : (status : ℕ) (w : End) → status ≡ status_at (end_of why n) → why ≡ w
      → status ≡ status_at (end_of w n)
  status_of_end status w is e = is ∙ ap (λ (x : End). status_at (end_of x n)) e

  desk_far : (status : ℕ) → status ≡ status_at (end_of why n) → ActsAt why was → StopsAt why next more
      → IsScript more others end → (IsFinishing was → (others ≡ []) × (end ≡ [])) → n ≤ budget
      → (why ≡ ends.Budget) ↔ (n ≡ budget) → HowFar status n others end was
  desk_far status is by stops script whole few limit =
      let s : EndStatus why status = subst (EndStatus why) (sym is) (status_for why n) in
      record {
        known = s.known;
        done = λ zero. subst (λ (w : End). ActsAt w was) (s.done zero) by;
        whole = whole;
        line = λ two. far_line (s.line two) stops script;
        begun = λ none. absurd (s.comes (elim none as (λ _. ComesToNone status)
            [ inl three ↦ inl three | inr ten ↦ inr (inr ten) ]));
        disk = λ seven. inl (subst (λ (w : End). ActsAt w was) (s.disk seven) by);
        sink = λ nine. subst (λ (w : End). ActsAt w was) (s.sink nine) by;
        idle = λ a b c. far_idle why by (λ e. a (status_of_end status ends.End is e))
            (λ e. b (status_of_end status ends.Disk is e)) (λ e. c (status_of_end status ends.Sink is e));
        few = few;
        limit = (λ eleven. limit.0 (s.limit.0 eleven), λ all. s.limit.1 (limit.1 all));
      }

-- ---- what the store was left as

-- no flush of the store is in hand where none of the desk it shows is
no_flush : (s : StoreValue) (session : ℕ) (file : List ℕ) (d : Desk) → ShowsStore s session file d
    → d.hand ≡ None → s.in_hand ≡ None
no_flush s session file d shown none = by s.in_hand refl
  where
    by : (o : Option FlushInHand) → s.in_hand ≡ o → s.in_hand ≡ None
    by None is = is
    by (Some h) is = absurd (let e : Some (shown.held h is).0 ≡ None = sym (shown.held h is).1 ∙ none in cc)

-- it is over its file then
over_of : (s : StoreValue) (z : State) → IsReadable CLASSES s z → s.in_hand ≡ None → s.is_broken ≡ false
    → IsTrue z.tells → IsOver CLASSES s z.file
over_of s z (inl over) none whole told = over.over whole told
over_of s z (inr half) none whole told = absurd (no_hand half.is none)

-- ---- the whole

module _ (t : choice.SlotTable) (m : Map) (b : Book) (old : State) (lawful : IsLawful old)
    (told : IsTrue old.tells) (o : OpensBy CLASSES SIZE_MAX t old.file m b) (z : State)
    (lawful_z : IsLawful z) (no_turn_back : old.turn ≤ z.turn)
    (from rest : SourceState) (input_told : IsTrue from.tells) (events : List Event) (behind : List ℕ)
    (script : IsScript from.left events behind)
    (out put after : SinkState) (end : Result (Unit {0}) StopReason)
    (line : IsTrue put.tells
    → PutsLast put.given after.given (line_at end) (Rose put.faults after.faults))
    (sink_told : put.tells ≡ out.tells) (sink_later : out.faults ≤ put.faults) where
  abbrev Holds : SuperBlock → Type 0
  Holds u = DeskHolds (found_with u t m b) events behind (status_at end) (devices old out) (devices z after)

  -- the line of the end
  last_line : IsTrue out.tells → PutsLast put.given after.given (line_at end) (Rose out.faults after.faults)
  last_line tells = later_rose out.faults put.faults after.faults sink_later (line (sink_told ∙ tells))

  -- what opens to a start opens to its checkpoint
  start_kept : (start : store.State) → Starts t m b start → (image : List ℕ) → OpensTo start image
      → images.OpensTo CLASSES (kept_of start) image
  start_kept start starts image is = opens_with image
      (ap (λ (y : store.State). y.kept) starts.state ∙ ap (λ (y : store.State). y.map) (sym starts.state))
      (ap (λ (y : store.State). y.kept_book) starts.state
      ∙ ap (λ (y : store.State). y.book) (sym starts.state)) is

  -- ---- nothing was done

  module _ (u : SuperBlock) (start : store.State) (leaves : LeavesStart t m b old z start)
      (is : IsEarly end) (nothing : put ≡ out) where
    early_crash : LeavesRoom t → RestsOnFound t old → z.turn < last
        → LeftOnly z old.turn (IsImageFrom start [] [] act.nothing)
    early_crash room rests below image since =
        inl (start_kept start leaves.starts image (leaves.left room rests below image since))

    early_safe : LeavesRoom t → RestsOnFound t old → z.turn < last → (image : List ℕ) → z.may_leave image
        → OpensAsLeft start [] act.nothing image
    early_safe room rests below image may = inl (start_kept start leaves.starts image
        (leaves.left room rests below image (lawful_z.counts_now old.turn image no_turn_back may)))

    early : Holds u
    early = record {
      start = start;
      starts = leaves.starts;
      n = 0;
      played = record {
        answered = [];
        others = events;
        split = refl;
        count = refl;
        answers = [];
        desks = [];
        plays = tt;
      };
      was = act.nothing;
      at = tt;
      far = early_far (status_at end) events behind (early_status end is);
      order = in_order (limits_with u) start [] [] [] tt;
      output = λ tells. record {
        between = put.given;
        end = end;
        put = record {
          partial = [];
          put = ap (λ (x : SinkState). x.given) nothing ∙ sym (append-nil out.given)
              ∙ sym (append-nil (out.given ++ []));
          part = record { rest = []; front = refl; whole = λ done. refl; cut = λ failed none. refl };
        };
        same_status = refl;
        numbered = early_numbers end is;
        line = last_line tells;
      };
      reach = start_low t u.k start.sequence leaves.starts.sequence;
      crash = λ room rests below. record {
        crash = early_crash room rests below;
        safe = λ other. early_safe room rests below;
      };
      next_start = λ calm none. leaves.next_start calm;
    }

  -- ---- a desk went

  module _ {mid : State} {s : StoreValue} (op : Opened t m b old mid s) where
    abbrev u : SuperBlock
    u = s.in_use.block

    abbrev start : store.State
    start = state_of s mid.file

    starts : Starts t m b start
    starts = starts_so t m b old lawful told o op

    module _ (x : HasDesked from rest s (devices mid out) (devices z put) end) where
      went : DeskWent s x.new x.events x.next (devices mid out) (devices z put) x.why
      went = x.went op.told

      same_status : status_at end ≡ status_at (end_of x.why x.n)
      same_status = ap (λ (e : Result (Unit {0}) StopReason). status_at e) x.ended

      split : Splits events x.events x.more behind
      split = splits x.events events from.left x.more behind x.each script (x.whole input_told)

      over : IsAct (limits_with u) (last_from start went.desks) split.others went.was
          × (IsFinishing went.was → (split.others ≡ []) × (behind ≡ []))
      over = act_over (limits_with u) (last_from start went.desks) x.next split.others x.more behind
          split.script x.why went.was went.by (x.stops input_told) went.at

      -- the disk didn't fail
      other : status_at end ≢ DISK_FAILED → x.why ≢ ends.Disk
      other not is = not (same_status ∙ ap (λ (w : End). status_at (end_of w x.n)) is)

      calm_other : IsCalm old.faults z.faults → x.why ≢ ends.Disk
      calm_other calm is =
          let rose : Rose mid.faults z.faults =
          x.causes.rose (x.ended ∙ ap (λ (w : End). end_of w x.n) is) in
          omega (arith, rose, op.faults, calm.same, calm.below)

      crash : LeavesRoom t → RestsOnFound t old → z.turn < last
          → LeftOnly z old.turn (IsImageFrom start went.answers went.desks went.was)
      crash room rests below =
          let left = went.left (op.rests rests) in
          LeftOnly-after old.turn (IsImageFrom start went.answers went.desks went.was) op.later
          (λ image since. inl (start_kept start starts image
          (left_mid t m b old lawful told o op room rests (omega (arith, left.later, below)) image since).0))
          left

      next_start : IsCalm old.faults z.faults → (left_from start went.desks went.was).hand ≡ None
          → IsNextStart t (left_from start went.desks went.was).state
          (left_from start went.desks went.was).state.sequence old z
      next_start calm none =
          let apart = calm_other calm in
          let shown = went.shown apart in
          let l = left_from start went.desks went.was in
          let idle : x.new.in_hand ≡ None = no_flush x.new shown.0 z.file l shown.1 none in
          let whole = x.unbroken apart in
          let state : l.state ≡ state_of x.new z.file = (shown.1.idle idle).1 in
          subst (λ (y : store.State). IsNextStart t y y.sequence old z) (sym state)
          (next_over t x.new old z x.new.in_use.sequence (x.sound whole idle)
          (over_of x.new z x.readable idle whole (x.frame.stays.told ∙ op.told)) (x.block apart ∙ op.block)
          (omega arith) (λ rests. went.rests apart (op.rests rests) idle))

      desked : Holds u
      desked = record {
        start = start;
        starts = starts;
        n = x.n;
        played = record {
          answered = x.events;
          others = split.others;
          split = split.split;
          count = x.count;
          answers = went.answers;
          desks = went.desks;
          plays = went.plays;
        };
        was = went.was;
        at = over.0;
        far = desk_far x.why x.n x.next split.others x.more behind went.was (status_at end) same_status
            went.by (x.stops input_told) split.script over.1 x.few x.limit;
        order = in_order (limits_with u) start x.events went.answers went.desks went.plays;
        output = λ tells. record {
          between = put.given;
          end = end;
          put = subst (λ (k : ℕ). HasPut k went.answers (text_of (last_from start went.desks) went.was)
              out.given put.given) (status_zero x.why x.n ∙ sym same_status) (went.puts tells);
          same_status = refl;
          numbered = subst (NumbersLine x.n) (sym x.ended) (numbers x.why x.n x.few);
          line = last_line tells;
        };
        reach = left_low (limits_with u) (most_found t) (new_desk start) x.events split.others went.answers
            went.desks went.was refl (start_low t u.k start.sequence starts.sequence) went.plays over.0;
        crash = λ room rests below. record {
          crash = crash room rests below;
          safe = λ not. went.opens (other not) (op.rests rests);
        };
        next_start = next_start;
      }

    begun : IsDesking from rest s (devices mid out) (devices z put) end → Holds u
    begun (inl is) = early u start (leaves_opened t m b old lawful told o op is.frame)
        (inr (inr is.ended)) is.nothing
    begun (inr x) = desked x

  -- ---- all of them

  pub desk_holds : {D : Type 0} (disk_of : D → State) (file : List ℕ)
      → FileSteps disk_of file (IsDesking from rest) (devices old out) (devices z put) end
      → Holds t.chosen.block
  desk_holds disk_of file steps =
      elim (begun_or_not t m b old lawful told o disk_of file (IsDesking from rest) z out put end steps)
      as (λ _. Holds t.chosen.block) [
        | inl is ↦ early t.chosen.block (found_start t m b) is.leaves is.early is.nothing
        | inr is ↦ subst Holds is.op.block (begun is.op is.done)
      ]
