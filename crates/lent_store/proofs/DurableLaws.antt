-- What is durable in a store over a file in memory.
use Rattle.std.proofs.Common.{◌≡◌, ◌∙◌, ap, arith, refl, subst, sym, inl, inr, Bool, true, false, ℕ, List}
use Rattle.std.proofs.lemmas.Bool.{false≢true}
use Rattle.std.specs.Prelude.{◌⊎◌, ◌<◌, ◌-◌, ◌^◌, ◌++◌, ◌||◌, Option, Some, None, IsNone, IsTrue, Ok, Err, Result, option_map}
use Rattle.disk_history.specs.Histories.{MayLeave, fresh}
use Rattle.disk_history.specs.Lawful.{only_now_law}
use Rattle.size_class.specs.declared.TheConstants.{CLASSES, SIZE_MAX}
use Rattle.slot_codec.specs.Choice as choice
use Rattle.slot_codec.specs.Spelling.{head_len}
use Rattle.lent_disk.specs.Notings.{Noting}
use Rattle.lent_disk.proofs.StopLaws.{spelled_made}
use Rattle.map_model.specs.Maps.{Map}
use Rattle.map_model.specs.Requests as ask
use Rattle.map_model.specs.Requests.{Change, Request}
use Rattle.segment_layout.specs.Books.{Book, is_quiet, with_digests}
use Rattle.table_rules.specs.Opening.{placed_table}
use Rattle.table_rules.specs.Tables.{book_of, map_of}
use Rattle.store_model.specs.declared.answers.Begun.{Begun}
use Rattle.store_model.specs.declared.answers.Begun.TheVariants as begun
use Rattle.store_model.specs.declared.answers.Done.{Done}
use Rattle.store_model.specs.declared.answers.Progress.{Progress}
use Rattle.store_model.specs.declared.answers.Progress.TheVariants as progress
use Rattle.store_model.specs.declared.answers.Refusal.{Refusal}
use Rattle.store_model.specs.Answers.{AnswersChange, facts_at, refusal_for, refused_by}
use Rattle.store_model.specs.Begins.{AnswersBegin, BeginsChange}
use Rattle.store_model.specs.Changes.{IsQuietChange, NothingChanged}
use Rattle.store_model.specs.Changing.{IsChange}
use Rattle.store_model.specs.Flushes.{book_after, map_after}
use Rattle.store_model.specs.Keeps.{AnswersKeep, IsKeep, OpensToKeptOrNow, now_map}
use Rattle.store_model.specs.Steps.{IsStep}
use Rattle.store_model.proofs.ReadingLaws.{whole_if_served}
use Rattle.store_model.specs.Connection.{FlushInHand, IsOver, RestsOnTable, SameOnTable, StoreValue, base_of, kept_map, limits_of}
use Rattle.store_model.specs.Halves.{HalfAgrees, IsHalfImage, Origin}
use Rattle.store_model.specs.Opened.{IsFresh}
use Rattle.store_model.specs.Quiet.{charges_of}
use Rattle.store_model.specs.States.{refusal}
use Rattle.store_model.proofs.OverLaws.{kept_image}
use Rattle.batch_core.specs.declared.fault.BatchFault.{BatchFault}
use Rattle.batch_core.specs.Answers.{Applies, Finishes, IsBegun, kept_text, requests_of}
use Rattle.batch_core.specs.Doing.{Batch, last_requests, requests_for}
use Rattle.batch_model.specs.Batches.{IsBatch, applied}
use Rattle.batch_model.specs.Views.{unbatched}
use Rattle.lent_store.specs.Batched.{IsBatchImage, batch_for, batch_kept, begun_on, ended_on}
use Rattle.lent_store.specs.Durable.{IsDurable, OnceMade, OpensTo, OpensWithin, WhereverStopped}
use Rattle.lent_store.specs.Embedded.{Embedded, IsEmbedded, disk_before, disk_of, file_in}
use Rattle.lent_store.specs.Noted.{IsChangeImage, IsNoted, IsNotedOf, RestsOnKept, StopsAt}
use Rattle.lent_store.proofs.BatchLaws.{stopped_apply, stopped_finish}
use Rattle.lent_store.proofs.StopLaws.{stopped_begin, stopped_change, stopped_keep, stopped_step}

-- ---- what a call answered

-- whether an answer says that a checkpoint was saved
abbrev says_kept : Result Done Refusal → Bool
says_kept (Ok done) = done.kept
says_kept (Err why) = true

kept_means : (quiet : Bool) (o : Option Refusal) → AnswersChange quiet o (Ok (record { kept = true }))
    → (o ≡ None) × (quiet ≡ false)
kept_means true None (inl e) = absurd (false≢true (sym (ap says_kept e)))
kept_means true None (inr e) = absurd (cc)
kept_means false None e = (refl, refl)
kept_means quiet (Some refused) e = absurd (cc)

quiet_means : (quiet : Bool) (o : Option Refusal) → AnswersChange quiet o (Ok (record { kept = false }))
    → (o ≡ None) × (quiet ≡ true)
quiet_means true None e = (refl, refl)
quiet_means false None (inl e) = absurd (false≢true (ap says_kept e))
quiet_means false None (inr e) = absurd (cc)
quiet_means quiet (Some refused) e = absurd (cc)

done_means : (quiet : Bool) (o : Option Refusal) → AnswersBegin quiet o (Ok begun.Done)
    → (o ≡ None) × (quiet ≡ true)
done_means true None e = (refl, refl)
done_means false None (inl e) = absurd (cc)
done_means false None (inr e) = absurd (cc)
done_means quiet (Some refused) e = absurd (cc)

none_is : (o : Option Refusal) → o ≡ None → IsNone o
none_is o is = subst IsNone (sym is) refl

keep_means : (o : Option Refusal) → AnswersKeep o (Ok (record { kept = true })) → o ≡ None
keep_means None e = refl
keep_means (Some refused) e = absurd (cc)

-- what isn't refused is asked of a store that isn't broken
whole_by : (s : StoreValue) (r : Request) → refused_by s r ≡ None → s.is_broken ≡ false
whole_by s r none = whole_if_served s.is_broken
    (option_map refusal_for (refusal (limits_of s) (facts_at s r) r)) none

-- a store that isn't broken and has no flush in hand is over its file
over_idle : (e : Embedded) → e.store.in_hand ≡ None → e.store.is_broken ≡ false → IsEmbedded e
    → IsOver CLASSES e.store (file_in e)
over_idle e idle whole (inl c) = c.over whole refl
over_idle e idle whole (inr h) = absurd (let both = sym idle ∙ h.is in cc)

-- ---- a file opens to one map and one book

module _ (file : List ℕ) {m n : Map} {b c : Book} (one : OpensTo m b file) (two : OpensTo n c file) where
  same_table : one.table ≡ two.table
  same_table = let found : Ok one.table ≡ Ok two.table = sym one.opens.read ∙ two.opens.read in cc

  same_map : m ≡ n
  same_map = one.opens.same_map
      ∙ ap (λ (t : choice.SlotTable). map_of (head_len t.chosen.block.names) file t.records) same_table
      ∙ sym two.opens.same_map

  same_book : b ≡ c
  same_book = one.opens.same_book
      ∙ ap (λ (t : choice.SlotTable). with_digests t.digests
      (book_of (placed_table CLASSES SIZE_MAX file t))) same_table
      ∙ sym two.opens.same_book

-- ---- what was kept

-- a store over a file that opens to a map, which is all that a crash leaves
durable_by : (m : Map) (b : Book) (e : Embedded) → IsOver CLASSES e.store (file_in e)
    → OpensTo m b (file_in e) → RestsOnKept e
    → ((image : List ℕ) → MayLeave e.noting.history image → OpensTo m b image) → IsDurable m b e
durable_by m b e over opens rests images =
    let kept : OpensTo (kept_map e.store (file_in e)) e.store.kept_book (file_in e) =
    record { table = over.table; opens = over.checkpoint.opens } in record {
      checkpoint = same_map (file_in e) kept opens;
      accounts = same_book (file_in e) kept opens;
      rests = rests;
      images = images;
    }

durable_at_rest : (m : Map) (b : Book) (e : Embedded) → IsOver CLASSES e.store (file_in e)
    → OpensTo m b (file_in e) → RestsOnKept e
    → ((image : List ℕ) → MayLeave e.noting.history image → image ≡ file_in e) → IsDurable m b e
durable_at_rest m b e over opens rests only = durable_by m b e over opens rests
    (λ image may. subst (OpensTo m b) (sym (only image may)) opens)

module _ (old new : Embedded) where
  pub kept_change : (c : Change) → IsChange CLASSES c old.store new.store (disk_before old) (disk_of new)
      (Ok (record { kept = true }))
      → IsDurable (map_after old.store c (file_in old)) (book_after old.store c (file_in old)) new
  kept_change c is =
      let means = kept_means (is_quiet (charges_of old.store c)) (refused_by old.store (ask.change c))
      is.answer in
      let flush = is.flush (none_is (refused_by old.store (ask.change c)) means.0) means.1 in
      let whole : new.store.is_broken ≡ false = is.broken ∙ ap (λ (x : Bool). x || false)
      (whole_by old.store (ask.change c) means.0) in
      durable_at_rest _ _ new (is.over.over whole refl) (flush.opened refl) (flush.on_table refl)
      (flush.rests refl)

  pub kept_keep : IsKeep CLASSES old.store new.store (disk_before old) (disk_of new)
      (Ok (record { kept = true })) → old.store.in_hand ≡ None → IsEmbedded new
      → IsDurable (now_map old.store (file_in old)) old.store.book new
  kept_keep is idle inside =
      let none = keep_means (refused_by old.store ask.keep) is.answer in
      let kept = is.kept (none_is (refused_by old.store ask.keep) none) in
      let whole : new.store.is_broken ≡ false = ap (λ (s : StoreValue). s.is_broken) kept.value
      ∙ whole_by old.store ask.keep none in
      let still : new.store.in_hand ≡ None = ap (λ (s : StoreValue). s.in_hand) kept.value ∙ idle in
      durable_at_rest _ _ new (over_idle new still whole inside) (kept.saved refl) (kept.on_table refl)
      (kept.rests refl)

  pub kept_step : (h : FlushInHand) (o : Origin) → IsStep CLASSES old.store new.store (disk_before old)
      (disk_of new) (Ok progress.Settled) → old.store.in_hand ≡ Some h
      → HalfAgrees CLASSES old.store h o (disk_of old) → IsDurable o.after h.book_after new
  kept_step h o is hand half =
      let steps = is.half refl h o hand (record { flies = half.flies; loose = half.loose }) in
      let same : steps.hand ≡ h = (let e : Some steps.hand ≡ Some h = sym steps.is ∙ hand in cc) in
      subst (λ (x : FlushInHand). IsDurable o.after x.book_after new) same
      (durable_at_rest o.after steps.hand.book_after new (is.over.over is.broken refl) steps.on.0 steps.on.2
      steps.on.1)

  -- a batch that was done
  kept_batch : (batch : Batch) (requests : List Request) (result : Result Bool BatchFault)
      → IsBegun CLASSES batch requests (begun_on old) (ended_on new) result → result ≡ Ok true
      → RestsOnKept old → IsDurable (applied batch.changes batch.map) new.store.kept_book new
  kept_batch batch requests result is ok rests =
      let done = is.done ok in record {
        checkpoint = done.kept;
        accounts = refl;
        rests = done.rests rests;
        images = λ image may. subst (λ (m : Map). OpensTo m new.store.kept_book image) done.kept
            (done.all rests image may);
      }

  pub kept_apply : (text : List ℕ) (changes : List Change)
      → Applies CLASSES text (begun_on old) (ended_on new) (Ok true) → IsBatch text changes → RestsOnKept old
      → IsDurable (applied changes (now_map old.store (file_in old))) new.store.kept_book new
  kept_apply text changes is batch rests = kept_batch (batch_for old text changes)
      (requests_of text changes) (Ok true) (is.begun refl refl changes batch) refl rests

  pub kept_finish : (changes : List Change) → Finishes CLASSES (begun_on old) (ended_on new) (Ok true)
      → IsBatch (kept_text (begun_on old)) changes → RestsOnKept old
      → IsDurable (applied changes (unbatched (now_map old.store (file_in old)))) new.store.kept_book new
  kept_finish changes is batch rests = kept_batch (batch_kept old changes)
      (requests_for changes ++ last_requests) (Ok true) (is.begun refl refl changes batch) refl rests

-- ---- what stays

-- what opens to the last checkpoint opens to what is durable
as_durable : {m : Map} {b : Book} (e : Embedded) → IsDurable m b e → (image : List ℕ)
    → OpensTo (kept_map e.store (file_in e)) e.store.kept_book image → OpensTo m b image
as_durable {m} {b} e d image opens =
    subst (λ (x : Map). OpensTo x b image) d.checkpoint
    (subst (λ (x : Book). OpensTo (kept_map e.store (file_in e)) x image) d.accounts opens)

module _ (old new : Embedded) {m : Map} {b : Book} (d : IsDurable m b old) where
  stays_quiet : {T : Type 0} (c : Change) (x : T) → IsQuietChange CLASSES c old.store new.store
      (disk_before old) (disk_of new) (Ok x) → IsOver CLASSES new.store (file_in new) → IsNoted old new
      → old.noting.history.turn < 2 ^ 64 - 1 → IsDurable m b new
  stays_quiet c x is over noted low =
      durable_by m b new over (as_durable old d (file_in new) (is.content refl))
      (subst (λ (s : StoreValue). RestsOnTable (base_of s) s.kept (disk_of new)) (sym is.value.rest)
      (is.rests refl d.rests))
      (λ image may. elim ((is.left refl d.rests).each old.noting.history.turn image (omega (arith, low))
      (noted.log.later, inl may)) as (λ _. OpensTo m b image) [
        | inl past ↦ d.images image (only_now_law old.noting.history image low past)
        | inr kept ↦ as_durable old d image kept.opens
      ])

  pub stays_changed : (c : Change) → IsChange CLASSES c old.store new.store (disk_before old) (disk_of new)
      (Ok (record { kept = false })) → IsNoted old new → old.noting.history.turn < 2 ^ 64 - 1
      → IsDurable m b new
  stays_changed c is noted low =
      let means = quiet_means (is_quiet (charges_of old.store c)) (refused_by old.store (ask.change c))
      is.answer in
      let whole : new.store.is_broken ≡ false = is.broken ∙ ap (λ (x : Bool). x || false)
      (whole_by old.store (ask.change c) means.0) in
      stays_quiet c _ (is.quiet (none_is (refused_by old.store (ask.change c)) means.0) means.1)
      (is.over.over whole refl) noted low

  pub stays_begun : (c : Change) → BeginsChange CLASSES c old.store new.store (disk_before old) (disk_of new)
      (Ok begun.Done) → IsNoted old new → old.noting.history.turn < 2 ^ 64 - 1 → IsDurable m b new
  stays_begun c is noted low =
      let means = done_means (is_quiet (charges_of old.store c)) (refused_by old.store (ask.change c))
      is.answer in
      let whole : new.store.is_broken ≡ false = is.broken ∙ ap (λ (x : Bool). x || false)
      (whole_by old.store (ask.change c) means.0) in
      stays_quiet c _ (is.quiet (none_is (refused_by old.store (ask.change c)) means.0) means.1)
      (is.over.over whole refl) noted low

  pub stays_refused : NothingChanged old.store new.store (disk_before old) (disk_of new) → IsDurable m b new
  stays_refused same =
      let file : file_in new ≡ file_in old = same.same_disk.same_file refl in record {
        checkpoint = ap (λ (s : StoreValue). kept_map s (file_in new)) same.same_store
            ∙ ap (kept_map old.store) file ∙ d.checkpoint;
        accounts = ap (λ (s : StoreValue). s.kept_book) same.same_store ∙ d.accounts;
        rests = subst (λ (s : StoreValue). RestsOnTable (base_of s) s.kept (disk_of new))
            (sym same.same_store)
            (λ image may. subst (λ (f : List ℕ). SameOnTable (base_of old.store) old.store.kept f image)
            (sym file) (d.rests image (same.same_disk.images image may)));
        images = λ image may. d.images image (same.same_disk.images image may);
      }

  pub stays_back : new.store ≡ record old.store { now = old.store.kept; book = old.store.kept_book }
      → new.noting ≡ old.noting → IsDurable m b new
  stays_back back same =
      subst (λ (s : StoreValue). IsDurable m b (record { store = s; noting = new.noting })) (sym back)
      (subst (λ (n : Noting). IsDurable m b (record {
        store = record old.store { now = old.store.kept; book = old.store.kept_book };
        noting = n;
      })) (sym same) (record {
        checkpoint = d.checkpoint;
        accounts = d.accounts;
        rests = d.rests;
        images = d.images;
      }))

pub durable_opened : (e : Embedded) → IsFresh CLASSES e.store → IsOver CLASSES e.store (file_in e)
    → RestsOnKept e → IsDurable (kept_map e.store (file_in e)) e.store.kept_book e
durable_opened e fresh over rests = record {
  checkpoint = refl;
  accounts = refl;
  rests = rests;
  images = λ image may. (kept_image e.store fresh.store (file_in e) over image (rests image may)).opens;
}

-- ---- what a crash leaves

pub leaves_made : (m : Map) (b : Book) (old new : Embedded) → IsNoted old new → IsDurable m b new
    → OnceMade old.noting.history new.noting.text (OpensTo m b)
leaves_made m b old new noted d calls image spells fits is =
    d.images image (spelled_made old.noting.history new.noting.history new.noting.text calls image noted.log
    spells fits is)

pub leaves_opened : (file : List ℕ) (m : Map) (b : Book) (e : Embedded) → IsNotedOf file e → IsDurable m b e
    → OnceMade (fresh file) e.noting.text (OpensTo m b)
leaves_opened file m b e noted d calls image spells fits is =
    d.images image (spelled_made (fresh file) e.noting.history e.noting.text calls image noted.log spells
    fits is)

leaves_in_hand : (h : FlushInHand) (o : Origin) (e : Embedded) (image : List ℕ)
    → HalfAgrees CLASSES e.store h o (disk_of e) → IsTrue o.is_at_rest → MayLeave e.noting.history image
    → OpensTo o.kept_map o.kept_book image ⊎ OpensTo o.after h.book_after image
leaves_in_hand h o e image half rest may =
    let either = half.flies.opens refl in
    let opens : OpensTo either.m either.b image =
    record { table = either.t; opens = (either.images rest image may).opens } in
    elim either.checkpoint.either as (λ _. OpensTo o.kept_map o.kept_book image
    ⊎ OpensTo o.after h.book_after image) [
      | inl before ↦ inl (subst (λ (x : Map). OpensTo x o.kept_book image) before.0
          (subst (λ (x : Book). OpensTo either.m x image) before.1 opens))
      | inr after ↦ inr (subst (λ (x : Map). OpensTo x h.book_after image) after.0
          (subst (λ (x : Book). OpensTo either.m x image) after.1 opens))
    ]

-- where the making of the calls stops
module _ (old new : Embedded) (noted : IsNoted old new) (low : old.noting.history.turn < 2 ^ 64 - 1) where
  stopped_or : (P Q : List ℕ → Type 0) → StopsAt old new P
      → ((image : List ℕ) → MayLeave old.noting.history image → Q image)
      → ((image : List ℕ) → P image → Q image) → WhereverStopped old.noting.history new.noting.text Q
  stopped_or P Q stops past now calls image spells fits is =
      elim (stops calls image spells fits is) as (λ _. Q image) [
        | inl may ↦ past image may
        | inr has ↦ now image has
      ]

  module _ {m : Map} {b : Book} (d : IsDurable m b old) where
    -- what is durable, or another map
    either : (n : Map) (a : Book) (image : List ℕ)
        → OpensTo (kept_map old.store (file_in old)) old.store.kept_book image ⊎ OpensTo n a image
        → OpensTo m b image ⊎ OpensTo n a image
    either n a image (inl kept) = inl (as_durable old d image kept)
    either n a image (inr after) = inr after

    changed_leaves : (c : Change) (image : List ℕ) → IsChangeImage c old image
        → OpensTo m b image
        ⊎ OpensTo (map_after old.store c (file_in old)) (book_after old.store c (file_in old)) image
    changed_leaves c image (inl kept) = inl (as_durable old d image kept.opens)
    changed_leaves c image (inr flush) = either _ _ image flush.opens

    pub change_stopped : (c : Change) (result : Result Done Refusal)
        → IsChange CLASSES c old.store new.store (disk_before old) (disk_of new) result
        → WhereverStopped old.noting.history new.noting.text (λ image. OpensTo m b image
        ⊎ OpensTo (map_after old.store c (file_in old)) (book_after old.store c (file_in old)) image)
    change_stopped c result is = stopped_or (IsChangeImage c old) _
        (stopped_change old new noted low c result is d.rests) (λ image may. inl (d.images image may))
        (changed_leaves c)

    pub begin_stopped : (c : Change) (result : Result Begun Refusal)
        → BeginsChange CLASSES c old.store new.store (disk_before old) (disk_of new) result
        → WhereverStopped old.noting.history new.noting.text (λ image. OpensTo m b image
        ⊎ OpensTo (map_after old.store c (file_in old)) (book_after old.store c (file_in old)) image)
    begin_stopped c result is = stopped_or (IsChangeImage c old) _
        (stopped_begin old new noted low c result is d.rests) (λ image may. inl (d.images image may))
        (changed_leaves c)

    pub keep_stopped : (result : Result Done Refusal)
        → IsKeep CLASSES old.store new.store (disk_before old) (disk_of new) result
        → WhereverStopped old.noting.history new.noting.text (λ image. OpensTo m b image
        ⊎ OpensTo (now_map old.store (file_in old)) old.store.book image)
    keep_stopped result is = stopped_or (OpensToKeptOrNow CLASSES old.store (file_in old)) _
        (stopped_keep old new noted low result is.refused is.kept d.rests)
        (λ image may. inl (d.images image may)) (λ image has. either _ _ image has.opens)

    batch_leaves : (batch : Batch) (image : List ℕ) → IsBatchImage batch old image
        → OpensTo m b image ⊎ OpensWithin batch old image
    batch_leaves batch image is = elim is.opens as (λ _. OpensTo m b image ⊎ OpensWithin batch old image) [
      | inl last ↦ inl (as_durable old d image last)
      | inr within ↦ inr within
    ]

    pub apply_stopped : (text : List ℕ) (changes : List Change) (result : Result Bool BatchFault)
        → Applies CLASSES text (begun_on old) (ended_on new) result → IsBatch text changes
        → WhereverStopped old.noting.history new.noting.text (λ image. OpensTo m b image
        ⊎ OpensWithin (batch_for old text changes) old image)
    apply_stopped text changes result is batch = stopped_or (IsBatchImage (batch_for old text changes) old) _
        (stopped_apply old new noted low text changes result is batch d.rests)
        (λ image may. inl (d.images image may)) (batch_leaves (batch_for old text changes))

    pub finish_stopped : (changes : List Change) (result : Result Bool BatchFault)
        → Finishes CLASSES (begun_on old) (ended_on new) result → IsBatch (kept_text (begun_on old)) changes
        → WhereverStopped old.noting.history new.noting.text (λ image. OpensTo m b image
        ⊎ OpensWithin (batch_kept old changes) old image)
    finish_stopped changes result is batch = stopped_or (IsBatchImage (batch_kept old changes) old) _
        (stopped_finish old new noted low changes result is batch d.rests)
        (λ image may. inl (d.images image may)) (batch_leaves (batch_kept old changes))

  pub step_stopped : (h : FlushInHand) (o : Origin) (result : Result Progress Refusal)
      → IsStep CLASSES old.store new.store (disk_before old) (disk_of new) result
      → old.store.in_hand ≡ Some h → HalfAgrees CLASSES old.store h o (disk_of old) → IsTrue o.is_at_rest
      → WhereverStopped old.noting.history new.noting.text (λ image. OpensTo o.kept_map o.kept_book image
      ⊎ OpensTo o.after h.book_after image)
  step_stopped h o result is hand half rest = stopped_or (IsHalfImage CLASSES old.store h o) _
      (stopped_step old new noted low h o result hand rest
      (is.half refl h o hand (record { flies = half.flies; loose = half.loose })))
      (λ image may. leaves_in_hand h o old image half rest may) (λ image has. has.opens)
