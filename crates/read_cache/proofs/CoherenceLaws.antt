-- What is listed stays what the store would answer.
use Rattle.std.specs.Prelude.{◌≡◌, ℕ, Bool, true, false, ◌||◌, ◌&&◌, if◌then◌else◌, nat_eq, nat_lt, List, [], ◌∷◌, length, is_some, Option, Some, None, option_map, Result, Ok, Err, is_ok, IfSome, IsNone, IsSome, IsTrue, refl}
use Rattle.std.proofs.Common.{ap, sym, ◌∙◌, subst, inl, inr}
use Rattle.std.proofs.lemmas.Bool.{cases_Bool, cond-false}
use Rattle.std.specs.FinMap as fin
use Rattle.std.specs.List.{AllByRecursion, IsDistinct}
use Rattle.std.specs.Cmp.Lexicographic.{pointwise}
use Rattle.std.specs.Map.{keys_of}
use Rattle.disk_face.specs.Devices.{devices}
use Rattle.disk_face.specs.Frames.{Unchanged}
use Rattle.disk_face.specs.States as disk
use Rattle.disk_face.specs.Streams.{SinkState}
use Rattle.map_model.specs.Requests as ask
use Rattle.map_model.specs.Requests.{Change, Reply}
use Rattle.map_model.specs.Weights.{same_name}
use Rattle.map_model.proofs.MapLaws.{name_order}
use Rattle.segment_layout.specs.Books.{is_quiet}
use Rattle.extent_table.specs.declared.spot.Spot.{Spot}
use Rattle.extent_table.specs.Extents.{Spots}
use Rattle.flush_run.specs.Parts.{size_in}
use Rattle.store_model.specs.Connection.{StoreValue, limits_of, state_of}
use Rattle.store_model.specs.Quiet.{charges_of}
use Rattle.store_model.specs.States.{Step, object_in, served}
use Rattle.store_model.specs.declared.answers.Refusal.{Refusal}
use Rattle.store_model.specs.declared.answers.Refusal.TheVariants as why
use Rattle.store_model.specs.declared.answers.Done.{Done}
use Rattle.store_model.specs.Answers.{AnswersChange, AnswersRead, done_reply, is_disk, is_disk_fault, refused_by, reply_of, size_at}
use Rattle.store_model.specs.Changes.{HasChanged, NothingChanged}
use Rattle.store_model.specs.Changing.{IsChange}
use Rattle.store_model.specs.Flushes.{size_after}
use Rattle.store_model.specs.Keeps.{AnswersKeep, KeepsNow}
use Rattle.store_model.specs.Readings.{IsRead}
use Rattle.read_cache.specs.Coherence.{IsCoherent, IsHeld}
use Rattle.read_cache.specs.Gets.{ListsGet, is_sink, size_got}
use Rattle.read_cache.specs.declared.got.Got.{Got}
use Rattle.read_cache.specs.Lists.{Listing, Pair, after_drop, after_get, after_hit, after_miss, is_name, listed, longest, without}
use Rattle.read_cache.proofs.AnswerLaws.{SameAt, change_same, get_alike, keep_same, other_name}
use Rattle.read_cache.proofs.ListLaws.{all_others, all_promoted, all_take}

-- ---- one pair

-- a pair is held still where its name's object has the same size, and on a disk that tells its content is
-- the same
pub held_still : (s new : StoreValue) (a d : disk.State) (e : Pair)
    → size_at (fin.get new.now e.0) ≡ size_at (fin.get s.now e.0)
    → (IsTrue d.tells → IsTrue a.tells × SameAt e.0 (state_of s a.file) (state_of new d.file))
    → IsHeld s a e → IsHeld new d e
held_still s new a d e size same h = record {
  long = h.long ∙ sym size;
  answered = λ told. get_alike (limits_of s) (limits_of new) (state_of s a.file) (state_of new d.file) e.0
      (same told).1 ∙ h.answered (same told).0;
}

-- the same store on a disk that wasn't changed
pub held_unchanged : (s : StoreValue) (a d : disk.State) (e : Pair) → Unchanged a d → IsHeld s a e
    → IsHeld s d e
held_unchanged s a d e same h = record {
  long = h.long;
  answered = λ told.
      let told_a : IsTrue a.tells = subst IsTrue same.stays.told told in
      subst (λ (file : List ℕ). (served (limits_of s) (state_of s file)
      (ask.get e.0)).reply ≡ ask.found e.1) (sym (same.same_file told_a)) (h.answered told_a);
}

pub all_stay : (P Q : Pair → Type 0) (es : List Pair) → ((e : Pair) → P e → Q e)
    → AllByRecursion P es → AllByRecursion Q es
all_stay P Q [] step all = tt
all_stay P Q (e ∷ es) step all = (step e all.0, all_stay P Q es step all.1)

-- ---- sizes

abbrev sized : Option ℕ → ℕ
sized None = 0
sized (Some n) = n

size_at-in : (spots : Spots) (name : List ℕ) → size_at (fin.get spots name) ≡ sized (size_in spots name)
size_at-in spots name = by (fin.get spots name)
  where
    by : (o : Option Spot) → size_at o ≡ sized (option_map (λ s. s.size) o)
    by None = refl
    by (Some x) = refl

module _ (s new : StoreValue) (c : Change) (q : List ℕ) (other : is_name c.name q ≡ false) where
  away : same_name q c.name ≡ false
  away = other_name c.name q other

  quiet_size : HasChanged c s new → size_at (fin.get new.now q) ≡ size_at (fin.get s.now q)
  quiet_size places = ap size_at (by c.object refl places)
    where
      by : (o : Option (List ℕ)) → c.object ≡ o → HasChanged (record { name = c.name; object = o }) s new
          → fin.get new.now q ≡ fin.get s.now q
      by None is removed = ap (λ (x : Spots). fin.get x q) removed
          ∙ fin.get-remove name_order s.now c.name q
          ∙ cond-false (same_name q c.name) None (fin.get s.now q) away
      by (Some object) is put = ap (λ (x : Spots). fin.get x q) put.2
          ∙ fin.get-insert name_order s.now c.name (record { place = put.0; size = length object }) q
          ∙ cond-false (same_name q c.name) (Some (record { place = put.0; size = length object }))
          (fin.get s.now q) away

  flush_size : size_in new.now q ≡ size_after s c q
      → size_at (fin.get new.now q) ≡ size_at (fin.get s.now q)
  flush_size sizes = size_at-in new.now q
      ∙ ap sized (sizes ∙ cond-false (same_name q c.name) (option_map length c.object) (size_in s.now q) away)
      ∙ sym (size_at-in s.now q)

-- ---- answers

left_false : (b c : Bool) → (b || c) ≡ false → b ≡ false
left_false true c is = absurd (cc)
left_false false c is = refl

right_false : (b c : Bool) → (b || c) ≡ false → c ≡ false
right_false true c is = absurd (cc)
right_false false c is = is

-- what a refusal leaves
refused_coherent : (old new : StoreValue) (pairs : List Pair) (a d : disk.State) → IsCoherent old pairs a
    → NothingChanged old new a d → IsCoherent new pairs d
refused_coherent old new pairs a d h same whole =
    subst (λ (s : StoreValue). AllByRecursion (IsHeld s d) pairs) (sym same.same_store)
    (all_stay (IsHeld old a) (IsHeld old d) pairs (λ e. held_unchanged old a d e same.same_disk)
    (h (ap (λ (s : StoreValue). s.is_broken) (sym same.same_store) ∙ whole)))

-- and a fault of the disk: the store is broken
fault_coherent : (old new : StoreValue) (pairs : List Pair) (d : disk.State) (x : Refusal) → x ≡ why.Disk
    → new.is_broken ≡ (old.is_broken || is_disk x) → IsCoherent new pairs d
fault_coherent old new pairs d x failed broken whole =
    absurd (let bad : true ≡ false = sym (ap is_disk failed) ∙ right_false old.is_broken (is_disk x)
    (sym broken ∙ whole) in cc)

module _ {classes : ℕ} (old new : StoreValue) (l : Listing) (c : Change) (a d : disk.State)
    (h : IsCoherent old l.pairs a) (distinct : IsDistinct (pointwise nat_eq) (keys_of l.pairs)) where
  pub change_coherent : (result : Result Done Refusal) → IsChange classes c old new a d result
      → (old.is_broken ≡ false → IsTrue a.tells → IfSome (reply_of done_reply result)
      (λ reply. Step (limits_of old) (state_of old a.file) (ask.change c) reply (state_of new d.file)))
      → IsCoherent new (if is_ok result then without c.name l else l).pairs d
  change_coherent (Ok done) x step whole = all_others (IsHeld old a) (IsHeld new d) c.name l.pairs distinct
      (h unbroken)
      (λ e other. held_still old new a d e (size e.0 other) (λ told.
      let told_a : IsTrue a.tells = subst IsTrue tells told in (
        told_a,
        change_same (limits_of old) (state_of old a.file) (state_of new d.file) (done_reply done) e.0 c
            other (step unbroken told_a),
      )))
    where
      unbroken : old.is_broken ≡ false
      unbroken = left_false old.is_broken false (sym x.broken ∙ whole)

      none : (o : Option Refusal) → AnswersChange (is_quiet (charges_of old c)) o (Ok done) → IsNone o
      none None answered = refl
      none (Some y) answered = absurd (cc)

      served : IsNone (refused_by old (ask.change c))
      served = none (refused_by old (ask.change c)) x.answer

      tells : d.tells ≡ a.tells
      tells = elim (cases_Bool (is_quiet (charges_of old c))) as (λ _. d.tells ≡ a.tells) [
        | inl soft ↦ (x.quiet served soft).frame.stays.told
        | inr loud ↦ (x.flush served loud).frame.stays.told
      ]

      size : (q : List ℕ) → is_name c.name q ≡ false
          → size_at (fin.get new.now q) ≡ size_at (fin.get old.now q)
      size q other = elim (cases_Bool (is_quiet (charges_of old c)))
          as (λ _. size_at (fin.get new.now q) ≡ size_at (fin.get old.now q)) [
            | inl soft ↦ quiet_size old new c q other (x.quiet served soft).value.places
            | inr loud ↦ flush_size old new c q other ((x.flush served loud).value.sizes q)
          ]
  change_coherent (Err y) x step whole = by (refused_by old (ask.change c)) refl x.answer whole
    where
      by : (o : Option Refusal) → refused_by old (ask.change c) ≡ o
          → AnswersChange (is_quiet (charges_of old c)) o (Err y) → IsCoherent new l.pairs d
      by None is (inl bad) = absurd (cc)
      by None is (inr failed) = fault_coherent old new l.pairs d y (let e : y ≡ why.Disk = cc in e) x.broken
      by (Some w) is answer = refused_coherent old new l.pairs a d h
          (x.refused (subst (λ (o : Option Refusal). IsSome o) (sym is) refl))

module _ {classes : ℕ} (old new : StoreValue) (pairs : List Pair) (a d : disk.State)
    (h : IsCoherent old pairs a) where
  pub keep_coherent : (result : Result Done Refusal) → AnswersKeep (refused_by old ask.keep) result
      → (IsSome (refused_by old ask.keep) → NothingChanged old new a d)
      → (IsNone (refused_by old ask.keep) → KeepsNow classes old new a d result)
      → (old.is_broken ≡ false → IsTrue a.tells → IfSome (reply_of done_reply result)
      (λ reply. Step (limits_of old) (state_of old a.file) ask.keep reply (state_of new d.file)))
      → new.is_broken ≡ (old.is_broken || is_disk_fault result) → IsCoherent new pairs d
  keep_coherent (Ok done) answer refused kept step broken whole =
      all_stay (IsHeld old a) (IsHeld new d) pairs (λ e. held_still old new a d e
      (ap (λ (s : StoreValue). size_at (fin.get s.now e.0)) served.value) (λ told.
      let told_a : IsTrue a.tells = subst IsTrue served.frame.stays.told told in (
        told_a,
        keep_same (limits_of old) (state_of old a.file) (state_of new d.file) (done_reply done) e.0
            (step unbroken told_a),
      ))) (h unbroken)
    where
      unbroken : old.is_broken ≡ false
      unbroken = left_false old.is_broken false (sym broken ∙ whole)

      none : (o : Option Refusal) → AnswersKeep o (Ok done) → IsNone o
      none None answered = refl
      none (Some y) answered = absurd (cc)

      served : KeepsNow classes old new a d (Ok done)
      served = kept (none (refused_by old ask.keep) answer)
  keep_coherent (Err y) answer refused kept step broken whole =
      by (refused_by old ask.keep) refl answer whole
    where
      by : (o : Option Refusal) → refused_by old ask.keep ≡ o → AnswersKeep o (Err y)
          → IsCoherent new pairs d
      by None is (inl bad) = absurd (cc)
      by None is (inr failed) = fault_coherent old new pairs d y (let e : y ≡ why.Disk = cc in e) broken
      by (Some w) is answered = refused_coherent old new pairs a d h
          (refused (subst (λ (o : Option Refusal). IsSome o) (sym is) refl))

-- ---- gets

-- what the list of a get has is held, where what was held before it is, and the bytes that it put
got_held : (P : Pair → Type 0) (name bytes : List ℕ) (dropped : Bool) (l : Listing)
    → AllByRecursion P l.pairs → P (name, bytes) → AllByRecursion P (after_get dropped name bytes l).pairs
got_held P name bytes dropped l all one = by (is_some (listed l name)) (nat_lt longest (length bytes)) dropped
  where
    by : (b c d : Bool) → AllByRecursion P (if b then after_hit name l else if c then l
        else if d then after_drop l else after_miss name bytes l).pairs
    by true c d = all_promoted P (is_name name) l.pairs all
    by false true d = all
    by false false true = all
    by false false false = (one, all_take P _ l.pairs all)

failed_held : (P : Pair → Type 0) (name : List ℕ) (b : Bool) (l : Listing) → AllByRecursion P l.pairs
    → AllByRecursion P (if b then after_hit name l else l).pairs
failed_held P name true l all = all_promoted P (is_name name) l.pairs all
failed_held P name false l all = all

size_is : (o : Option Refusal) (n m : ℕ) → AnswersRead o n (Ok m) → m ≡ n
size_is None n m (inl is) = cc
size_is None n m (inr (inl is)) = absurd (cc)
size_is None n m (inr (inr (inl is))) = absurd (cc)
size_is None n m (inr (inr (inr is))) = absurd (cc)
size_is (Some x) n m is = absurd (cc)

pub get_coherent : (s new : StoreValue) (old now : Listing) (name : List ℕ) (a d : disk.State)
    (out after : SinkState) (result : Result Got Refusal) → IsCoherent s old.pairs a
    → IsRead (ask.get name) [] s new (devices a out) (devices d after) (size_got result)
    → ListsGet (IsTrue a.tells) name (object_in (state_of s a.file).map name) old now result
    → IsCoherent new now.pairs d
get_coherent s new old now name a d out after result h read list whole =
    subst (λ (t : StoreValue). AllByRecursion (IsHeld t d) now.pairs) (sym read.store)
    (all_stay (IsHeld s a) (IsHeld s d) now.pairs (λ e. held_unchanged s a d e read.frame)
    (by result read list))
  where
    unbroken : s.is_broken ≡ false
    unbroken = ap (λ (t : StoreValue). t.is_broken) (sym read.store) ∙ whole

    by : (r : Result Got Refusal) → IsRead (ask.get name) [] s new (devices a out) (devices d after)
        (size_got r) → ListsGet (IsTrue a.tells) name (object_in (state_of s a.file).map name) old now r
        → AllByRecursion (IsHeld s a) now.pairs
    by (Ok got) x y = subst (λ (l : Listing). AllByRecursion (IsHeld s a) l.pairs) (sym y.list)
        (got_held (IsHeld s a) name y.bytes y.dropped old (h unbroken) (record {
          long = y.long ∙ size_is (refused_by s (ask.get name)) (size_at (fin.get s.now name)) got.size
              x.answer;
          answered = λ told. sym (x.step unbroken told).replied
              ∙ ap ask.found (sym (y.same told));
        }))
    by (Err w) x y = subst (λ (l : Listing). AllByRecursion (IsHeld s a) l.pairs) (sym y)
        (failed_held (IsHeld s a) name (is_sink w && is_some (listed old name)) old (h unbroken))
