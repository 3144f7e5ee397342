-- A session so far: which requests were answered, what was left, and how long the file was.
use Rattle.std.specs.Prelude.{◌≡◌, ◌⊎◌, ℕ, ◌-◌, ◌<◌, ◌≤◌, List, ◌++◌, length, IsTrue}
use Rattle.std.proofs.Common.{arith, ap, sym, ◌∙◌, subst, inl, inr}
use Rattle.disk_face.specs.Counts.{counted, last}
use Rattle.disk_face.specs.States.{IsLawful, State}
use Rattle.disk_face.specs.Moments.{LeftOnly}
use Rattle.disk_face.specs.Streams.{SinkState, SourceState}
use Rattle.disk_face.proofs.MomentLaws.{Leaves-weaken, LeftOnly-after}
use Rattle.size_class.specs.declared.TheConstants.{CLASSES, SIZE_MAX}
use Rattle.slot_codec.specs.Choice as choice
use Rattle.slot_codec.specs.declared.codec.SuperBlock.{SuperBlock}
use Rattle.slot_codec.specs.declared.codec.Kind.TheVariants as kind
use Rattle.map_model.specs.Maps.{Map}
use Rattle.map_model.specs.Requests.{Request}
use Rattle.segment_layout.specs.Books.{Book}
use Rattle.segment_layout.specs.Bounds.{Loose}
use Rattle.table_rules.specs.Opening.{Opens, OpensBy}
use Rattle.table_rules.specs.Sequences.{HasSequenceUpTo}
use Rattle.table_rules.proofs.SequenceLaws.{sequence_wider}
use Rattle.store_model.specs.Connection.{IsOver, StoreValue, base_of, state_of}
use Rattle.store_model.specs.States as store
use Rattle.store_model.specs.States.{Limits, Served, Step, served}
use Rattle.store_model.specs.Opened.{IsFoundImage, LeavesRoom, RestsOnFound}
use Rattle.store_model.proofs.OverLaws.{kept_image}
use Rattle.ask_text.specs.Inputs.{Asks}
use Rattle.ask_session.specs.Outside.{outside}
use Rattle.ask_session.specs.Sittings.{Sitting, new_sitting, unread}
use Rattle.ask_session.specs.Runs as run
use Rattle.ask_session.specs.Runs.{HasRun, IsRunImage, IsStepImage, budget, calls_since, last_kept, last_state, most_sequence}
use Rattle.ask_session.proofs.RunLaws.{opens_with}
use Rattle.served_file.specs.Served.{OpensTo, OpensToKept, Ran, Starts, limits_with, most_left, state_after, turn_opened}
use Rattle.run_command.specs.Headline.{IsLong, IsTold, IsWithinBounds}
use Rattle.served_file.proofs.ShownLaws.{first_kept, some_weaker}
use Rattle.run_command.proofs.RunLists.{LastIs, Splits, last_is, splits}
use Rattle.served_file.proofs.OpeningLaws.{Opened, found_numbered, requests_low}

-- A session that has run so far over a file that opens: from the states `old` and `a`, before the call and
-- once the file was opened, to `c`; from the source `from` and the sink `out` to `i1` and `o1`.
pub record SoFar : Type 1 where
  pub t : choice.SlotTable
  pub m : Map
  pub b : Book
  pub requests : List Request
  pub end : List ℕ
  pub old : State
  pub a : State
  pub s : StoreValue
  pub op : Opened t m b old a s
  pub lawful_a : IsLawful a
  pub left_before : old.turn < last → RestsOnFound t old
      → LeftOnly old old.turn (IsFoundImage CLASSES t m b (length old.file))
  pub from : SourceState
  pub i1 : SourceState
  pub out : SinkState
  pub o1 : SinkState
  pub s1 : Sitting
  pub c : State
  pub n : ℕ
  pub asks : Asks from.left requests end
  pub told_source : IsTrue from.tells
  pub ran : HasRun CLASSES (new_sitting s a.turn) s1 (outside a from out) (outside c i1 o1) n
  pub few : n ≤ budget

-- The same, in the words of the headline: the superblock, the limits, the state at the start, the states
-- after the requests and the last of them, and which requests were answered.
pub record View (h : SoFar) : Type 0 where
  pub u : SuperBlock
  pub limits : Limits
  pub start : store.State
  pub states : List store.State
  pub last_one : store.State
  pub split : Splits h.requests h.ran.requests (unread h.s1 h.i1) h.end

abbrev pub view : (h : SoFar) → View h
view h = record {
  u = h.s.in_use.block;
  limits = limits_with h.s.in_use.block;
  start = state_of h.s h.a.file;
  states = h.ran.states;
  last_one = last_state (state_of h.s h.a.file) h.ran.states;
  split = splits h.ran.requests h.requests h.from.left (unread h.s1 h.i1) h.end h.ran.texts h.asks
      (h.ran.whole h.told_source);
}

module _ (h : SoFar) where
  open h use {t, m, b, requests, old, a, s, op, lawful_a, left_before, s1, c, n, ran, few}

  abbrev v : View h
  v = view h

  open v use {u, limits, start, states, last_one, split}

  pub newest : state_of s1.store c.file ≡ last_one
  newest = ran.newest op.told

  pub starts : Starts t m b start
  starts = record { state = op.state; sequence = op.sequence }

  pub done_is : s1.done ≡ n
  done_is = omega (arith, ran.done, few)

  pub few_done : s1.done ≤ budget
  few_done = omega (arith, done_is, few)

  abbrev pub ran_of : (d : ℕ) (others : List Request) → split.others ≡ others → d ≡ s1.done
      → Ran limits start requests d
  ran_of d others is same = record {
    answered = ran.requests;
    others = others;
    split = split.split ∙ ap (λ (rs : List Request). ran.requests ++ rs) is;
    count = omega (arith, ran.count, done_is, same);
    replies = ran.replies;
    states = states;
    chain = ran.chain op.told;
  }

  -- ---- images

  pub found_start : (image : List ℕ) → Opens CLASSES SIZE_MAX image m b → OpensTo start image
  found_start image is = opens_with image (ap (λ (y : store.State). y.map) op.state)
      (ap (λ (y : store.State). y.book) op.state) is

  kept_start : (image : List ℕ) → run.OpensToKept CLASSES start image → OpensTo start image
  kept_start image is = opens_with image
      (ap (λ (y : store.State). y.map) op.state ∙ ap (λ (y : store.State). y.kept) (sym op.state))
      (ap (λ (y : store.State). y.book) op.state ∙ ap (λ (y : store.State). y.kept_book) (sym op.state)) is

  run_shows : (image : List ℕ) → IsRunImage CLASSES u.k (base_of s) start states image
      → OpensToKept start ran.replies states image
  run_shows image is = elim (first_kept image limits start ran.requests ran.replies states (ran.chain op.told)
      (some_weaker (IsStepImage CLASSES u.k (base_of s) image)
      (λ x y. run.OpensToKept CLASSES x image ⊎ run.OpensToKept CLASSES y image) start states
      (λ x y is. is.opens) is))
      as (λ _. OpensToKept start ran.replies states image) [
        | inl kept ↦ inl (kept_start image kept)
        | inr one ↦ inr one
      ]

  last_at : LastIs 0 0 start ran.replies states
  last_at = last_is limits 0 0 start ran.requests ran.replies states (ran.chain op.told)
      (omega (arith, ran.count, few))

  pub number : s1.kept_done ≡ last_kept 0 0 ran.replies
  number = ran.kept_done op.told

  -- the last checkpoint is that of the last acknowledged request
  pub last_shows : (image : List ℕ) → run.OpensToKept CLASSES last_one image
      → OpensTo (state_after start states s1.kept_done) image
  last_shows image is = elim last_at as (λ _. OpensTo (state_after start states s1.kept_done) image) [
    | inl none ↦ subst (λ (k : ℕ). OpensTo (state_after start states k) image) (sym (number ∙ none.0))
        (kept_start image (opens_with image (sym none.1) (sym none.2) is))
    | inr one ↦ subst (λ (k : ℕ). OpensTo (state_after start states k) image) (omega (arith, number, one.2))
        (opens_with image (sym one.3) (sym one.4) is)
  ]

  pub last_kept_shows : (image : List ℕ) → run.OpensToKept CLASSES last_one image
      → OpensToKept start ran.replies states image
  last_kept_shows image is = elim last_at as (λ _. OpensToKept start ran.replies states image) [
    | inl none ↦ inl (kept_start image (opens_with image (sym none.1) (sym none.2) is))
    | inr one ↦ inr (one.0, one.1, opens_with image (sym one.3) (sym one.4) is)
  ]

  pub turn_c : a.turn ≤ c.turn
  turn_c = ran.frame.no_turn_back

  pub crash_c : LeavesRoom t → RestsOnFound t old → c.turn < last
      → LeftOnly c old.turn (OpensToKept start ran.replies states)
  crash_c room rests below =
      let P = OpensToKept start ran.replies states in
      LeftOnly-after old.turn P op.later
      (LeftOnly-after old.turn P (omega arith)
      (λ image since. inl (found_start image (left_before (omega (arith, below, turn_c, op.later)) rests image
      since).opens))
      (Leaves-weaken P (λ image is. inl (found_start image is.opens)) (op.left room rests)))
      (Leaves-weaken P run_shows (ran.left op.told (op.rests rests)))

  pub numbered_c : LeavesRoom t → RestsOnFound t old → c.turn < last
      → LeftOnly c old.turn (HasSequenceUpTo (most_left u.k t))
  numbered_c room rests below =
      let P = HasSequenceUpTo (most_left u.k t) in
      LeftOnly-after old.turn P op.later
      (LeftOnly-after old.turn P (omega arith)
      (λ image since. found_numbered t m b (length old.file) u.k image
      (left_before (omega (arith, below, turn_c, op.later)) rests image since))
      (Leaves-weaken P (found_numbered t m b (length old.file) u.k) (op.left room rests)))
      (Leaves-weaken P (λ image. sequence_wider (most_sequence u.k s.in_use.sequence) (most_left u.k t) image
      (requests_low t u.k s.in_use.sequence op.most)) (ran.numbered op.told (op.rests rests)))

  -- the last state's sequence is as low
  pub reach_c : last_one.sequence ≤ most_left u.k t
  reach_c = omega (
    arith,
    ran.reach op.told,
    ap (λ (y : store.State). y.sequence) newest,
    requests_low t u.k s.in_use.sequence op.most,
  )

  pub rests_a : RestsOnFound t old → (image : List ℕ) → a.may_leave image
      → run.OpensToKept CLASSES start image
  rests_a rests image left = (kept_image s op.sound a.file op.over image (op.rests rests image left)).opens

  pub since_c : RestsOnFound t old → c.turn < last
      → LeftOnly c s1.kept_turn (λ image. OpensTo (state_after start states s1.kept_done) image)
  since_c rests below = λ image since. last_shows image
      (subst (λ (y : store.State). run.OpensToKept CLASSES y image)
      newest (ran.since op.told (op.rests rests) below (omega arith) (λ before was. rests_a rests before
      (lawful_a.only_now before (omega (arith, below, turn_c)) was)) image since))

  -- ---- lengths

  pub loose_run : (image : List ℕ) → IsRunImage CLASSES u.k (base_of s) start states image
      → IsWithinBounds u.k (base_of s) start states image
  loose_run image is = inr (some_weaker (IsStepImage CLASSES u.k (base_of s) image)
      (λ x y. Loose u.k (length image - base_of s) x.map y.map) start states (λ x y is. is.loose) is)

  pub long_c : LeavesRoom t → RestsOnFound t old → c.turn < last
      → IsLong u.k (base_of s) t (turn_opened t b old) start states old c
  long_c room rests below = record {
    settled = λ settled later.
        let at = op.turn settled in
        subst (λ (k : ℕ). LeftOnly c k (IsWithinBounds u.k (base_of s) start states)) at
        (LeftOnly-after a.turn (IsWithinBounds u.k (base_of s) start states) (omega arith)
        (λ image since. inl ((op.rests rests image
        (lawful_a.only_now image (omega (arith, below, turn_c)) since)).same_length ∙ op.over.same_length))
        (Leaves-weaken (IsWithinBounds u.k (base_of s) start states) loose_run
        (ran.left op.told (op.rests rests))));
    moving = λ moving.
        let P = λ (image : List ℕ). (length image ≤ length old.file)
        ⊎ IsWithinBounds u.k (base_of s) start states image in
        LeftOnly-after old.turn P op.later
        (LeftOnly-after old.turn P (omega arith)
        (λ image since. inl (left_before
        (omega (arith, below, turn_c, op.later)) rests image since).no_longer)
        (Leaves-weaken P (λ image is. inl is.no_longer) (op.left room rests)))
        (Leaves-weaken P (λ image is. inr (loose_run image is)) (ran.left op.told (op.rests rests)));
  }

  -- ---- what is told

  pub told_c : t.chosen.header.kind ≡ kind.Settled → IsTold (turn_opened t b old) s1.kept_done s1.kept_turn
  told_c settled = record {
    low = omega (arith, op.turn settled, ran.turn_rises (omega arith));
    first = λ none. elim ran.unkept as (λ _. s1.kept_turn ≡ turn_opened t b old) [
      | inl same ↦ same ∙ op.turn settled
      | inr some ↦ absurd (omega (arith, none, some))
    ];
  }

  pub calls_c : c.turn ≡ counted s1.kept_turn (calls_since limits 0 start states ran.requests ran.replies)
  calls_c = ran.calls op.told 0 (omega (arith, lawful_a.turn_fits))

  pub told_now : IsTrue c.tells
  told_now = ran.frame.stays.told ∙ op.told

  pub over_c : IsOver CLASSES s1.store c.file
  over_c = ran.over.over ran.unbroken told_now
