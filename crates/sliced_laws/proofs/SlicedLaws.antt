-- A flush by steps comes to what one call does.
use Rattle.std.specs.Prelude.{◌≡◌, ℕ, ◌+◌, ◌-◌, ◌*◌, ◌≤◌, Bool, true, false, ◌||◌, List, slice_index, Option, Some, None, Result, Ok, Err, IsNone, IsSome, IsTrue, refl}
use Rattle.std.proofs.Common.{arith, ap, sym, ◌∙◌, subst, inl, inr}
use Rattle.disk_face.specs.States as disk
use Rattle.size_class.specs.declared.TheConstants.{SIZE_MAX}
use Rattle.slot_codec.specs.Choice as choice
use Rattle.slot_codec.specs.Spelling.{head_len}
use Rattle.map_model.specs.Maps.{Map}
use Rattle.map_model.specs.Requests as ask
use Rattle.map_model.specs.Requests.{Change}
use Rattle.segment_layout.specs.Books.{Book, is_quiet, with_digests}
use Rattle.table_rules.specs.Opening.{Opens, placed_table}
use Rattle.table_rules.specs.Tables.{book_of, map_of}
use Rattle.extent_table.specs.Extents.{Spots}
use Rattle.placement_model.specs.Reads.{read_at}
use Rattle.flush_run.specs.Calls.{CallsSoFar, piece_calls}
use Rattle.flush_run.proofs.CallLaws.{calls_none, calls_wider}
use Rattle.store_model.specs.declared.answers.Begun.{Begun}
use Rattle.store_model.specs.declared.answers.Begun.TheVariants as begun
use Rattle.store_model.specs.declared.answers.Done.{Done}
use Rattle.store_model.specs.declared.answers.Progress.{Progress}
use Rattle.store_model.specs.declared.answers.Progress.TheVariants as progress
use Rattle.store_model.specs.declared.answers.Refusal.{Refusal}
use Rattle.store_model.specs.declared.answers.Refusal.TheVariants as why
use Rattle.store_model.specs.Answers.{AnswersChange, is_disk_fault, refused_by}
use Rattle.store_model.specs.Begins.{AnswersBegin, BeginsChange, BeginsFlush, HoldsFlush}
use Rattle.store_model.specs.Changing.{IsChange}
use Rattle.store_model.specs.Flushes.{IsFlush, book_after, map_after, names_after}
use Rattle.store_model.specs.Steps.{AfterStep, AnswersStep, IsStep}
use Rattle.store_model.proofs.BegunServeLaws.{quiet_done, quiet_failed}
use Rattle.store_model.proofs.FlushChangeLaws.{IsServed, is_served}
use Rattle.store_model.proofs.FlushLaws.{flush_step}
use Rattle.store_model.proofs.QuietLaws.{quiet_by_book}
use Rattle.store_model.proofs.StepLaws.{facts_same}
use Rattle.store_model.specs.Connection.{FlushInHand, IsConnected, StoreValue, base_of, kept_map, limits_of, state_of}
use Rattle.store_model.specs.Quiet.{charges_of}
use Rattle.store_model.specs.States.{Facts, Step, refusal}
use Rattle.store_model.specs.Stores.{IsStore}
use Rattle.sliced_laws.specs.Sliced.{IsSliced, as_one_call, is_last, moves}
use Rattle.sliced_laws.proofs.GoingLaws.{Reaches, all_passes, begin_going}
use Rattle.sliced_laws.proofs.EndedLaws.{settled_flush, stopped_flush}

-- ---- a file opens to one map and one book

pub opens_once : (classes most : ℕ) (file : List ℕ) (m m' : Map) (b b' : Book) → Opens classes most file m b
    → Opens classes most file m' b' → (m ≡ m') × (b ≡ b')
opens_once classes most file m m' b b' one two =
    let x = one.opens in
    let y = two.opens in
    let found : Ok one.table ≡ Ok two.table = sym x.read ∙ y.read in
    let same : one.table ≡ two.table = (cc) in (
      x.same_map ∙ ap (λ (t : choice.SlotTable). map_of (head_len t.chosen.block.names) file t.records) same
          ∙ sym y.same_map,
      x.same_book ∙ ap (λ (t : choice.SlotTable). with_digests t.digests
          (book_of (placed_table classes most file t))) same ∙ sym y.same_book,
    )

-- ---- what a begin answered

pub in_hand_means : (quiet : Bool) (o : Option Refusal) → AnswersBegin quiet o (Ok begun.InHand)
    → (o ≡ None) × (quiet ≡ false)
in_hand_means true None (inl e) = absurd (cc)
in_hand_means true None (inr e) = absurd (cc)
in_hand_means false None e = (refl, refl)
in_hand_means quiet (Some refused) e = absurd (cc)

pub done_means : (quiet : Bool) (o : Option Refusal) → AnswersBegin quiet o (Ok begun.Done)
    → (o ≡ None) × (quiet ≡ true)
done_means true None e = (refl, refl)
done_means false None (inl e) = absurd (cc)
done_means false None (inr e) = absurd (cc)
done_means quiet (Some refused) e = absurd (cc)

pub failed_means : (quiet : Bool) (o : Option Refusal) (w : Refusal) → AnswersBegin quiet o (Err w)
    → AnswersChange quiet o (Err w)
failed_means quiet None w (inl e) = absurd (cc)
failed_means quiet None w (inr e) = inr (let same : w ≡ why.Disk = (cc) in ap (λ (r : Refusal). Err r) same)
failed_means quiet (Some refused) w e = let same : w ≡ refused = (cc) in ap (λ (r : Refusal). Err r) same

-- ---- a flush that a fault stopped before its first step

module _ {C : ℕ} (c : Change) (a t : StoreValue) (d0 d : disk.State) (w : Refusal)
    (x : BeginsFlush C c a t d0 d (Err w)) where
  begin_stopped : IsFlush C c a t d0 d (Err w)
  begin_stopped = record {
    value = tt;
    opened = λ told. tt;
    content = x.content;
    left = x.left;
    rests = λ told. tt;
    on_table = λ told. tt;
    few_saves = omega (arith, ap (λ (u : choice.InUse). u.sequence) x.pair);
    calls = tt;
    most = subst (λ r. CallsSoFar d0.turn d.turn a.moved r (piece_calls + 4)
        (t.in_use.sequence - a.in_use.sequence + 1) (names_after a c)) (sym x.moved)
        (calls_wider d0.turn d0.turn d.turn a.moved a.moved 0 (piece_calls + 4) 0
        (t.in_use.sequence - a.in_use.sequence + 1) (names_after a c)
        (calls_none d0.turn a.moved (names_after a c)) (omega arith) (omega (arith, x.calls)));
    lower = λ q low. ap (λ (r : List ℕ). slice_index r q) x.moved;
    few = λ told q. omega (arith, ap (λ (r : List ℕ). slice_index r q) x.moved);
    few_by_size = λ m sized q. omega (arith, ap (λ (r : List ℕ). slice_index r q) x.moved);
    frame = x.frame;
    cause = record { later = x.cause.later; rose = x.cause.rose; calm = tt };
  }

pub begun_done : {C : ℕ} (c : Change) (a t : StoreValue) (d0 d : disk.State)
    → BeginsChange C c a t d0 d (Ok begun.Done) → IsChange C c a t d0 d (Ok (record { kept = false }))
begun_done c a t d0 d x =
    let means = done_means (is_quiet (charges_of a c)) (refused_by a (ask.change c)) x.answer in
    record {
      answer = subst (λ o. AnswersChange (is_quiet (charges_of a c)) o (Ok (record { kept = false })))
          (sym means.0)
          (subst (λ b. AnswersChange b None (Ok (record { kept = false }))) (sym means.1) (inl refl));
      refused = x.refused;
      quiet = λ served quiet. quiet_done {other = record { kept = false }} (x.quiet served quiet);
      flush = λ served loud. absurd (let e : true ≡ false = sym means.1 ∙ loud in cc);
      over = x.over;
      broken = x.broken;
    }

pub begun_failed : {C : ℕ} (c : Change) (a t : StoreValue) (d0 d : disk.State) (w : Refusal)
    → BeginsChange C c a t d0 d (Err w) → IsChange C c a t d0 d (Err w)
begun_failed c a t d0 d w x = record {
  answer = failed_means (is_quiet (charges_of a c)) (refused_by a (ask.change c)) w x.answer;
  refused = x.refused;
  quiet = λ served quiet. quiet_failed (x.quiet served quiet);
  flush = λ served loud. begin_stopped c a t d0 d w (x.flush served loud);
  over = x.over;
  broken = x.broken;
}

-- ---- a flush by steps

none_is : (o : Option Refusal) → o ≡ None → IsNone o
none_is o is = subst IsNone (sym is) refl

module _ {D : Type 0} (state : D → disk.State) {C : ℕ} (c : Change) (a t : StoreValue) (old now : D)
    (result : Result Progress Refusal) (x : IsSliced state C c a t old now result) where
  abbrev d0 : disk.State
  d0 = state old

  abbrev e : disk.State
  e = state now

  means : (refused_by a (ask.change c) ≡ None) × (is_quiet (charges_of a c) ≡ false)
  means = in_hand_means (is_quiet (charges_of a c)) (refused_by a (ask.change c)) x.begins.answer

  served : IsServed a c
  served = is_served a c means.0

  store : IsStore C a
  store = x.sound served.whole

  abbrev begins : BeginsFlush C c a x.first.store d0 (state x.first.disk) (Ok begun.InHand)
  begins = x.begins.flush (none_is (refused_by a (ask.change c)) means.0) means.1

  abbrev hand : FlushInHand
  hand = begins.holds.0

  held : HoldsFlush c a x.first.store hand
  held = begins.holds.1

  reaches : Reaches c a d0 x.over store served.whole x.first.store hand held state
      (moves x.passes) hand.left x.last
  reaches = all_passes c a d0 x.over store served.whole x.first.store hand held state
      x.passes x.first x.last hand.left (begin_going c a d0 x.over store served.whole x.first.store hand held
      (state x.first.disk) begins held.is) x.goes

  -- at most twice as many steps as there are names, and one
  pub few_steps : moves x.passes + 1 ≤ 2 * names_after a c + 1
  few_steps = omega (arith, reaches.fewer, x.ends.more _ reaches.going.is, held.steps)

  flush_is : (r : Result Progress Refusal) → IsStep C x.last.store t (state x.last.disk) e r
      → IsTrue (is_last r) → IsFlush C c a t d0 e (as_one_call r)
  flush_is (Ok progress.Moved) st end = absurd (cc)
  flush_is (Ok progress.Settled) st end = settled_flush c a d0 x.over store served.whole x.first.store hand
      held reaches.left x.last.store (state x.last.disk) reaches.going t e st
  flush_is (Err fault) st end = stopped_flush c a d0 x.over store served.whole x.first.store hand held
      reaches.left x.last.store (state x.last.disk) reaches.going t e fault st

  answer_is : (r : Result Progress Refusal) → AnswersStep r → IsTrue (is_last r)
      → AnswersChange false None (as_one_call r)
  answer_is (Ok progress.Moved) is end = absurd (cc)
  answer_is (Ok progress.Settled) is end = inl refl
  answer_is (Err fault) (inl is) end = absurd (cc)
  answer_is (Err fault) (inr (inl is)) end = absurd (cc)
  answer_is (Err fault) (inr (inr is)) end =
      inr (let same : fault ≡ why.Disk = (cc) in ap (λ (r : Refusal). Err r) same)

  over_is : (r : Result Progress Refusal) → AfterStep C t e r → IsTrue (is_last r) → IsConnected C t e
  over_is (Ok progress.Moved) after end = absurd (cc)
  over_is (Ok progress.Settled) after end = after
  over_is (Err fault) after end = after

  fault_is : (r : Result Progress Refusal) → is_disk_fault r ≡ is_disk_fault (as_one_call r)
  fault_is (Ok p) = refl
  fault_is (Err fault) = refl

  pub sliced_change : IsChange C c a t d0 e (as_one_call result)
  sliced_change = record {
    answer = subst (λ o. AnswersChange (is_quiet (charges_of a c)) o (as_one_call result)) (sym means.0)
        (subst (λ b. AnswersChange b None (as_one_call result)) (sym means.1)
        (answer_is result x.ends.answer x.is_end));
    refused = λ some. absurd (let bad = subst IsSome means.0 some in cc);
    quiet = λ none quiet. absurd (let bad : true ≡ false = sym quiet ∙ means.1 in cc);
    flush = λ none loud. flush_is result x.ends x.is_end;
    over = over_is result x.ends.over x.is_end;
    broken = x.ends.broken ∙ fault_is result
        ∙ ap (λ b. b || is_disk_fault (as_one_call result)) (sym served.whole);
  }

-- ---- the step of the state

module _ {D : Type 0} (state : D → disk.State) {C : ℕ} (c : Change) (a t : StoreValue) (old now : D)
    (x : IsSliced state C c a t old now (Ok progress.Settled)) (told : IsTrue (state old).tells) where
  abbrev first : disk.State
  first = state old

  abbrev after : disk.State
  after = state now

  abbrev r : Result Progress Refusal
  r = Ok progress.Settled

  can : IsServed a c
  can = served state c a t old now r x

  sound : IsStore C a
  sound = store state c a t old now r x

  done : IsFlush C c a t first after (Ok (record { kept = true }))
  done = flush_is state c a t old now r x r x.ends x.is_end

  told_last : IsTrue after.tells
  told_last = subst IsTrue (sym done.frame.stays.told) told

  opened : Opens C SIZE_MAX after.file (kept_map t after.file) t.kept_book
  opened =
      let over = x.ends.over.over x.ends.broken told_last in
      record { table = over.table; opens = over.checkpoint.opens }

  once : (kept_map t after.file ≡ map_after a c first.file) × (t.kept_book ≡ book_after a c first.file)
  once = opens_once C SIZE_MAX after.file (kept_map t after.file) (map_after a c first.file) t.kept_book
      (book_after a c first.file) opened (done.opened told)

  kept_now : read_at (base_of t) after.file t.now ≡ kept_map t after.file
  kept_now = ap (λ (m : Spots). read_at (base_of t) after.file m) (sym done.value.kept)

  pub sliced_step : Step (limits_of a) (state_of a first.file) (ask.change c) ask.kept (state_of t after.file)
  sliced_step = flush_step (limits_of a) (state_of a first.file) (state_of t after.file) c
      (ap (λ (y : Facts). refusal (limits_of a) y (ask.change c))
      (facts_same a first.file (ask.change c) sound.now.named sound.kept.named) ∙ can.calm)
      (quiet_by_book C a first.file c sound (x.over.over can.whole told) ∙ (means state c a t old now r x).1)
      (kept_now ∙ once.0) once.0 (sym done.value.kept_book ∙ once.1) once.1
      (omega (arith, done.value.saved)) (omega (arith, done.few_saves))
