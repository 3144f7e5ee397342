-- One more request of a run.
use Rattle.std.specs.Prelude.{◌≡◌, ◌⊎◌, ℕ, ◌+◌, ◌-◌, ◌*◌, ◌^◌, ◌<◌, ◌≤◌, Bool, true, false, if◌then◌else◌, List, [], ◌∷◌, ◌++◌, length, flat_map, IsTrue, refl}
use Rattle.std.proofs.Common.{arith, ap, sym, ◌∙◌, subst, inl, inr, append_assoc, append-nil, length-append}
use Rattle.std.proofs.Math.Nat.{le-max_left}
use Rattle.std.proofs.lemmas.Grind.{flat_map-append}
use Rattle.disk_face.specs.Counts.{counted, last}
use Rattle.disk_face.specs.States as disk
use Rattle.disk_face.specs.States.{IsLawful}
use Rattle.disk_face.specs.Moments.{Leaves, LeftOnly}
use Rattle.disk_face.proofs.FrameLaws.{Stays-trans}
use Rattle.disk_face.proofs.MomentLaws.{Leaves-none, Leaves-trans, Leaves-weaken, LeftOnly-after}
use Rattle.size_class.specs.declared.TheConstants.{SIZE_MAX}
use Rattle.slot_codec.specs.declared.codec.SuperBlock.{SuperBlock}
use Rattle.slot_codec.specs.Spelling.{head_len}
use Rattle.map_model.specs.Requests.{Reply, Request}
use Rattle.map_model.specs.Maps.{Map}
use Rattle.segment_layout.specs.Books.{Book}
use Rattle.segment_layout.specs.Bounds.{Loose}
use Rattle.table_rules.specs.Opening.{Opens}
use Rattle.table_rules.specs.Sequences.{HasSequenceUpTo}
use Rattle.table_rules.proofs.SequenceLaws.{sequence_wider}
use Rattle.store_model.specs.Connection.{RestsOnTable, base_of, limits_of, state_of}
use Rattle.store_model.specs.States.{Limits, State, Step}
use Rattle.store_model.specs.Stores.{IsStore}
use Rattle.store_model.proofs.OverLaws.{kept_image}
use Rattle.ask_text.specs.Inputs.{request_text}
use Rattle.ask_text.specs.Replies.{reply_text}
use Rattle.ask_session.specs.Outside.{Outside}
use Rattle.ask_session.specs.Ready.{MayGoOn}
use Rattle.ask_session.specs.Serving.{IsServingImage, acknowledges, calls_of, is_changing, reply_at, served_at}
use Rattle.ask_session.specs.Sittings.{Sitting, unread}
use Rattle.ask_session.specs.Turns.{IsAnswered, IsTurn}
use Rattle.ask_text.specs.declared.ends.End.{End}
use Rattle.ask_text.specs.declared.ends.End.TheVariants as ends
use Rattle.ask_text.specs.declared.ends.Turn.TheVariants as turn
use Rattle.ask_text.specs.Ends.{is_budget}
use Rattle.ask_session.specs.Runs.{HasRun, IsLastTurn, IsRunImage, IsStepImage, OpensToKept, calls_since, last_kept, most_sequence}
use Rattle.ask_session.proofs.GrowingLaws.{and_none, last_more, texts_more, chain_more, some_more, some_last, kept_more, calls_more, chain_long, saves_within}
use Rattle.ask_session.proofs.MakesLaws.{MakesOne, MakesNone, makes}

-- ---- one more request

pub opens_with : {classes : ℕ} (image : List ℕ) {m m' : Map} {b b' : Book} → m' ≡ m → b' ≡ b
    → Opens classes SIZE_MAX image m b → Opens classes SIZE_MAX image m' b'
opens_with {classes} image {m} {m'} {b} {b'} maps books is =
    subst (λ (x : Map). Opens classes SIZE_MAX image x b') (sym maps)
    (subst (λ (y : Book). Opens classes SIZE_MAX image m y) (sym books) is)

-- a run, and one more request that was answered
module _ {classes : ℕ} {old mid : Sitting} {start_side mid_side : Outside} {n : ℕ} (new : Sitting)
    (new_side : Outside)
    (ran : HasRun classes old mid start_side mid_side n) (x : IsAnswered classes mid new mid_side new_side)
    (told_source : new_side.source.tells ≡ mid_side.source.tells)
    (calm_source : new_side.source.faults ≡ mid_side.source.faults)
    (lawful : IsLawful new_side.disk) (sound : new.store.is_broken ≡ false → IsStore classes new.store) where
  -- the disk before the run, before the request, and after it
  abbrev a : disk.State
  a = start_side.disk

  abbrev b : disk.State
  b = mid_side.disk

  abbrev d : disk.State
  d = new_side.disk

  abbrev r : Request
  r = x.served.request

  abbrev limits : Limits
  limits = limits_of old.store

  -- the states of the start, before the request, and after it
  abbrev start : State
  start = state_of old.store a.file

  abbrev s : State
  s = state_of mid.store b.file

  abbrev t : State
  t = state_of new.store d.file

  abbrev reply : Reply
  reply = reply_at mid.store b.file r

  told_b : IsTrue a.tells → IsTrue b.tells
  told_b told = subst IsTrue (sym ran.frame.stays.told) told

  told_o : IsTrue start_side.sink.tells → IsTrue mid_side.sink.tells
  told_o told = subst IsTrue (sym ran.sink_told) told

  same_limits : limits_of mid.store ≡ limits
  same_limits = ap (λ (u : SuperBlock). record { k = u.k; names = u.names; size_max = SIZE_MAX }) ran.block

  step : IsTrue a.tells → Step limits s r reply t
  step told = subst (λ (l : Limits). Step l s r reply t) same_limits
      (x.served.replies.serves.step (told_b told) refl)

  made : MakesOne (served_at mid.store b.file r) ⊎ MakesNone s (served_at mid.store b.file r)
  made = makes (limits_of mid.store) s r

  -- the new state is the one that is served
  new_kept : IsTrue a.tells → t.kept ≡ (served_at mid.store b.file r).state.kept
  new_kept told = ap (λ (y : State). y.kept) (x.served.replies.serves.step (told_b told) refl).state

  new_kept_book : IsTrue a.tells → t.kept_book ≡ (served_at mid.store b.file r).state.kept_book
  new_kept_book told = ap (λ (y : State). y.kept_book) (x.served.replies.serves.step (told_b told) refl).state

  new_map : IsTrue a.tells → t.map ≡ (served_at mid.store b.file r).state.map
  new_map told = ap (λ (y : State). y.map) (x.served.replies.serves.step (told_b told) refl).state

  -- the answer says whether a checkpoint was acknowledged
  kept_is : IsTrue a.tells → x.kept ≡ acknowledges reply
  kept_is told = x.served.replies.kept (told_b told)

  -- what is left in this step
  step_image : IsTrue a.tells → (image : List ℕ) → IsServingImage classes mid.store r b.file image
      → IsStepImage classes old.store.in_use.block.k (base_of old.store) image s t
  step_image told image is = record {
    opens = elim is.opens as (λ _. _) [
      | inl kept ↦ inl kept
      | inr now ↦ elim made as (λ _. OpensToKept classes s image ⊎ OpensToKept classes t image) [
        | inl one ↦ inr (opens_with image (new_kept told ∙ one.kept) (new_kept_book told ∙ one.book) now.1)
        | inr none ↦ absurd (omega (arith, now.0, none.least))
      ]
    ];
    loose = subst (λ (m : Map). Loose old.store.in_use.block.k (length image - base_of old.store) s.map m)
        (sym (new_map told))
        (subst (λ (u : SuperBlock). Loose u.k (length image - head_len u.names) s.map
        (served_at mid.store b.file r).state.map) ran.block is.loose);
  }

  -- where no checkpoint is made, what is left opens to the one before, which is the one after
  quiet_image : IsTrue a.tells → acknowledges reply ≡ false → (image : List ℕ)
      → IsServingImage classes mid.store r b.file image → OpensToKept classes t image
  quiet_image told plain image is = elim made as (λ _. OpensToKept classes t image) [
    | inl one ↦ absurd (let e : true ≡ false = sym one.acknowledged ∙ plain in cc)
    | inr none ↦ elim is.opens as (λ _. OpensToKept classes t image) [
      | inl kept ↦ opens_with image (new_kept told ∙ none.kept) (new_kept_book told ∙ none.book) kept
      | inr now ↦ absurd (omega (arith, now.0, none.least))
    ]
  ]

  still_kept : IsTrue a.tells → acknowledges reply ≡ false → (image : List ℕ) → OpensToKept classes s image
      → OpensToKept classes t image
  still_kept told plain image is = elim made as (λ _. OpensToKept classes t image) [
    | inl one ↦ absurd (let e : true ≡ false = sym one.acknowledged ∙ plain in cc)
    | inr none ↦ opens_with image (new_kept told ∙ none.kept) (new_kept_book told ∙ none.book) is
  ]

  -- the sequence of the state after it, and of what was left meanwhile
  abbrev most : ℕ
  most = most_sequence old.store.in_use.block.k old.store.in_use.sequence

  saves_low : IsTrue a.tells → s.sequence + (served_at mid.store b.file r).saves.most ≤ most
  saves_low told = saves_within (limits_of mid.store) s r old.store.in_use.block.k old.store.in_use.sequence
      (ap (λ (u : SuperBlock). u.k) ran.block) (ran.reach told)

  reach_now : IsTrue a.tells → new.store.in_use.sequence ≤ most
  reach_now told = omega (
    arith,
    saves_low told,
    (x.served.replies.serves.step (told_b told) refl).high,
  )

  numbered_now : IsTrue a.tells → RestsOnTable (base_of old.store) old.store.kept a
      → Leaves b d (HasSequenceUpTo most)
  numbered_now told rests = Leaves-weaken (HasSequenceUpTo most)
      (λ image is. sequence_wider (s.sequence + (served_at mid.store b.file r).saves.most) most image
      (saves_low told) is.sequence)
      (x.served.replies.serves.left (told_b told) (ran.rests told rests))

  unbroken : new.store.is_broken ≡ false
  unbroken = x.served.replies.serves.broken ∙ and_none (is_changing r)

  rests_now : IsTrue a.tells → RestsOnTable (base_of old.store) old.store.kept a
      → RestsOnTable (base_of new.store) new.store.kept d
  rests_now told rests = x.served.replies.serves.rests (told_b told) unbroken (ran.rests told rests)

  -- what may be left after a checkpoint opens to it
  opens_now : IsTrue a.tells → RestsOnTable (base_of old.store) old.store.kept a → (image : List ℕ)
      → d.may_leave image
      → OpensToKept classes t image
  opens_now told rests image may =
      let told_d : IsTrue d.tells = subst IsTrue (sym x.served.replies.serves.frame.stays.told)
      (told_b told) in
      (kept_image new.store (sound unbroken) d.file (x.served.replies.serves.over.over unbroken told_d) image
      (rests_now told rests image may)).opens

  since_now : (kept : Bool) → IsTrue a.tells → RestsOnTable (base_of old.store) old.store.kept a
      → d.turn < last
      → old.kept_turn ≤ a.turn → LeftOnly a old.kept_turn (OpensToKept classes start)
      → kept ≡ acknowledges reply
      → LeftOnly d (if kept then d.turn else mid.kept_turn) (OpensToKept classes t)
  since_now true told rests below low was is = λ image since.
      opens_now told rests image (lawful.only_now image below since)
  since_now false told rests below low was is =
      let before : LeftOnly b mid.kept_turn (OpensToKept classes s) =
      ran.since told rests (omega (arith, below, x.served.replies.serves.frame.no_turn_back)) low was in
      LeftOnly-after mid.kept_turn (OpensToKept classes t) (ran.kept_turn low)
      (λ image since. still_kept told (sym is) image (before image since))
      (Leaves-weaken (OpensToKept classes t) (λ image left. quiet_image told (sym is) image left)
      (x.served.replies.serves.left (told_b told) (ran.rests told rests)))

  turn_low : (kept : Bool) → old.kept_turn ≤ a.turn → (if kept then d.turn else mid.kept_turn) ≤ d.turn
  turn_low true low = omega arith
  turn_low false low = omega (arith, ran.kept_turn low, x.served.replies.serves.frame.no_turn_back)

  turn_up : (kept : Bool) → old.kept_turn ≤ a.turn → old.kept_turn ≤ (if kept then d.turn else mid.kept_turn)
  turn_up true low = omega (arith, low, ran.frame.no_turn_back, x.served.replies.serves.frame.no_turn_back)
  turn_up false low = ran.turn_rises low

  unkept_now : (kept : Bool) → new.kept_done ≡ (if kept then new.done else mid.kept_done)
      → new.kept_turn ≡ (if kept then d.turn else mid.kept_turn)
      → (new.kept_turn ≡ old.kept_turn) ⊎ (0 < new.kept_done)
  unkept_now true number turn = inr (omega (arith, number, x.done))
  unkept_now false number turn = elim ran.unkept as (λ _. (new.kept_turn ≡ old.kept_turn)
      ⊎ (0 < new.kept_done)) [
        | inl same ↦ inl (turn ∙ same)
        | inr some ↦ inr (omega (arith, number, some))
      ]

  calls_now : (kept : Bool) (m c : ℕ) → IsTrue a.tells → kept ≡ acknowledges reply
      → b.turn ≡ counted mid.kept_turn m
      → c ≡ (if acknowledges reply then 0 else m + calls_of limits s r)
      → d.turn ≡ counted (if kept then d.turn else mid.kept_turn) c
  calls_now true m c told is turn sum =
      let none : c ≡ 0 = sum ∙ ap (λ (k : Bool). if k then 0 else m + calls_of limits s r) (sym is) in
      omega (arith, none, lawful.turn_fits)
  calls_now false m c told is turn sum =
      let more : c ≡ m + calls_of limits s r = sum
      ∙ ap (λ (k : Bool). if k then 0 else m + calls_of limits s r) (sym is) in
      let least : (served_at mid.store b.file r).saves.least
      ≡ 0 = elim made as (λ _. (served_at mid.store b.file r).saves.least ≡ 0) [
        | inl one ↦ absurd (let e : true ≡ false = sym one.acknowledged ∙ sym is in cc)
        | inr none ↦ none.least
      ] in
      let made_calls : d.turn ≡ counted b.turn (calls_of limits s r) = subst (λ (l : Limits). d.turn
      ≡ counted b.turn (calls_of l s r))
      same_limits (x.served.replies.serves.calls (told_b told) refl least) in
      omega (arith, more, made_calls, turn)

  kept_now : (kept : Bool) → IsTrue a.tells → kept ≡ acknowledges reply
      → (if kept then new.done else mid.kept_done) ≡ last_kept old.done old.kept_done (ran.replies
      ++ reply ∷ [])
  kept_now true told is =
      let long : length ran.replies
      ≡ n = chain_long limits start ran.requests ran.replies ran.states (ran.chain told)
      ∙ ran.count in
      omega (arith, x.done, ran.done, long) ∙ sym (kept_more old.done old.kept_done ran.replies reply
      ∙ ap (λ (k : Bool). if k then counted old.done
      (length ran.replies + 1) else last_kept old.done old.kept_done ran.replies)
      (sym is))
  kept_now false told is = ran.kept_done told ∙ sym (kept_more old.done old.kept_done ran.replies reply
      ∙ ap (λ (k : Bool). if k then counted old.done
      (length ran.replies + 1) else last_kept old.done old.kept_done ran.replies)
      (sym is))

  pub has_run_more : HasRun classes old new start_side new_side (n + 1)
  has_run_more = record {
    requests = ran.requests ++ r ∷ [];
    replies = ran.replies ++ reply ∷ [];
    states = ran.states ++ t ∷ [];
    count = omega (arith, length-append ran.requests (r ∷ []), ran.count);
    texts = texts_more ran.requests r ran.texts x.served.text;
    whole = λ told.
        let first = ran.whole told in
        let second = x.served.whole (subst IsTrue (sym ran.source_told) told) in
        first ∙ ap (λ (xs : List ℕ). flat_map request_text ran.requests ++ xs) second
        ∙ sym (append_assoc (flat_map request_text ran.requests) (request_text r)
        (unread new new_side.source))
        ∙ ap (λ (xs : List ℕ). xs
        ++ unread new new_side.source) (sym (flat_map-append request_text ran.requests (r ∷ [])
        ∙ ap (λ (xs : List ℕ). flat_map request_text ran.requests ++ xs) (append-nil (request_text r))));
    chain = λ told. chain_more limits start t ran.requests ran.replies ran.states r reply (ran.chain told)
        (subst (λ (y : State). Step limits y r reply t) (ran.newest told) (step told));
    newest = λ told. sym (last_more start t ran.states);
    puts = λ told sink.
        let first = ran.puts told sink in
        let second = (x.served.replies.puts (told_b told) (told_o sink)).all in
        second ∙ ap (λ (xs : List ℕ). xs ++ reply_text reply) first
        ∙ append_assoc start_side.sink.given (flat_map reply_text ran.replies) (reply_text reply)
        ∙ ap (λ (xs : List ℕ). start_side.sink.given ++ xs)
        (sym (flat_map-append reply_text ran.replies (reply ∷ [])
        ∙ ap (λ (xs : List ℕ). flat_map reply_text ran.replies ++ xs) (append-nil (reply_text reply))));
    done = omega (arith, x.done, ran.done);
    kept_done = λ told. x.kept_done ∙ kept_now x.kept told (kept_is told);
    block = x.served.replies.serves.block refl ∙ ran.block;
    unbroken = unbroken;
    over = x.served.replies.serves.over;
    rests = rests_now;
    left = λ told rests. Leaves-trans
        (Leaves-weaken (IsRunImage classes old.store.in_use.block.k (base_of old.store) start (ran.states
        ++ t ∷ []))
        (λ image is. some_more (IsStepImage classes old.store.in_use.block.k
        (base_of old.store) image) start t ran.states is)
        (ran.left told rests))
        (Leaves-weaken (IsRunImage classes old.store.in_use.block.k (base_of old.store) start (ran.states
        ++ t ∷ []))
        (λ image is. some_last (IsStepImage classes old.store.in_use.block.k
        (base_of old.store) image) start t ran.states
        (subst (λ (y : State). IsStepImage classes old.store.in_use.block.k (base_of old.store) image y t)
        (ran.newest told)
        (step_image told image is)))
        (x.served.replies.serves.left (told_b told) (ran.rests told rests)));
    reach = reach_now;
    numbered = λ told rests. Leaves-trans (ran.numbered told rests) (numbered_now told rests);
    since = λ told rests below low was. subst (λ (n : ℕ). LeftOnly d n (OpensToKept classes t))
        (sym x.kept_turn)
        (since_now x.kept told rests below low was (kept_is told));
    kept_turn = λ low. subst (λ (n : ℕ). n ≤ d.turn) (sym x.kept_turn) (turn_low x.kept low);
    turn_rises = λ low. subst (λ (n : ℕ). old.kept_turn ≤ n) (sym x.kept_turn) (turn_up x.kept low);
    unkept = unkept_now x.kept x.kept_done x.kept_turn;
    calls = λ told m turn. subst (λ (k : ℕ). d.turn ≡ counted k (calls_since limits m start (ran.states
        ++ t ∷ [])
        (ran.requests ++ r ∷ []) (ran.replies ++ reply ∷ []))) (sym x.kept_turn)
        (calls_now x.kept (calls_since limits m start ran.states ran.requests ran.replies) _ told
        (kept_is told)
        (ran.calls told m turn)
        (calls_more limits m start t ran.states ran.requests ran.replies r reply (ran.chain told)
        ∙ ap (λ (y : State). if acknowledges reply then 0
        else calls_since limits m start ran.states ran.requests ran.replies + calls_of limits y r) (sym
        (ran.newest told))));
    frame = record {
      no_turn_back = omega (arith, ran.frame.no_turn_back, x.served.replies.serves.frame.no_turn_back);
      stays = Stays-trans ran.frame.stays x.served.replies.serves.frame.stays;
    };
    source_told = told_source ∙ ran.source_told;
    source_calm = calm_source ∙ ran.source_calm;
    sink_told = x.served.replies.sink_cause.told ∙ ran.sink_told;
    sink_calm = x.served.replies.sink_cause.calm (λ is. absurd (cc)) ∙ ran.sink_calm;
    disk_later = omega (arith, ran.disk_later, x.served.replies.disk_cause.later);
  }

-- no request was answered yet
pub has_run_none : {classes : ℕ} (s : Sitting) (o : Outside) → MayGoOn classes s o.disk → s.done ≤ last
    → HasRun classes s s o o 0
has_run_none {classes} s o may fits = record {
  requests = [];
  replies = [];
  states = [];
  count = refl;
  texts = tt;
  whole = λ told. refl;
  chain = λ told. tt;
  newest = λ told. refl;
  puts = λ told sink. sym (append-nil o.sink.given);
  done = omega (arith, fits);
  kept_done = λ told. refl;
  block = refl;
  unbroken = may.whole;
  over = may.over;
  rests = λ told rests. rests;
  left = λ told rests. Leaves-none o.disk (IsRunImage classes s.store.in_use.block.k (base_of s.store)
      (state_of s.store o.disk.file) []);
  reach = λ told. le-max_left s.store.in_use.sequence (2 ^ 61 + 2 * s.store.in_use.block.k);
  numbered = λ told rests. Leaves-none o.disk (HasSequenceUpTo (most_sequence s.store.in_use.block.k
      s.store.in_use.sequence));
  since = λ told rests below low was. was;
  kept_turn = λ low. low;
  turn_rises = λ low. omega arith;
  unkept = inl refl;
  calls = λ told m turn. turn;
  frame = record {
    no_turn_back = omega arith;
    stays = record { ready = may.ready; told = refl; images_told = refl; same_mount = refl };
  };
  source_told = refl;
  source_calm = refl;
  sink_told = refl;
  sink_calm = refl;
  disk_later = omega arith;
}

-- ---- the end

-- the last turn is no answer
pub last_turn_of : (classes n : ℕ) (s new : Sitting) (before now : Outside) (end : End)
    → IsTurn classes s new before now (turn.Ended end) → IsLastTurn classes n s new before now end
last_turn_of classes n s new before now ends.End is = is
last_turn_of classes n s new before now ends.Line is = is
last_turn_of classes n s new before now ends.Disk is = is
last_turn_of classes n s new before now ends.Source is = is
last_turn_of classes n s new before now ends.Sink is = is
last_turn_of classes n s new before now ends.Budget is = absurd (is)

pub not_budget : (classes : ℕ) (s new : Sitting) (before now : Outside) (end : End)
    → IsTurn classes s new before now (turn.Ended end) → true ≡ (if is_budget end then false else true)
not_budget classes s new before now ends.End is = refl
not_budget classes s new before now ends.Line is = refl
not_budget classes s new before now ends.Disk is = refl
not_budget classes s new before now ends.Source is = refl
not_budget classes s new before now ends.Sink is = refl
not_budget classes s new before now ends.Budget is = absurd (is)
