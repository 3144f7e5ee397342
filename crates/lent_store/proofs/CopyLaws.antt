-- What a read of a view of a file answers, and what it copies.
use Rattle.std.proofs.Common.{◌≡◌, ◌∙◌, ap, arith, inl, inr, refl, subst, sym, ℕ, List, Bool, true, false, length, take}
use Rattle.std.specs.Prelude.{◌≤◌, ◌+◌, if◌then◌else◌, Option, Some, None, Result, Ok, Err, IfOk, IsSome, IsTrue, nat_lt, option_map}
use Rattle.std.proofs.lemmas.Bool.{cond-false, cond-true, le-ltb}
use Rattle.std.specs.FinMap as fin
use Rattle.byte_ranges.specs.Ranges.{bytes_at}
use Rattle.size_class.specs.declared.TheConstants.{CLASSES}
use Rattle.disk_face.specs.Frames.{Unchanged}
use Rattle.disk_face.specs.States as disk
use Rattle.lent_disk.specs.Views.{view_state}
use Rattle.slot_codec.specs.Names.{is_name}
use Rattle.slot_pair.specs.Finding.{HasDiskCause}
use Rattle.map_model.specs.Requests as ask
use Rattle.map_model.specs.Requests.{Reply, Request}
use Rattle.segment_layout.specs.Books.{differs}
use Rattle.extent_table.specs.declared.spot.Spot.{Spot}
use Rattle.store_model.specs.declared.answers.Moment.{Moment}
use Rattle.store_model.specs.declared.answers.Moment.TheVariants as moment
use Rattle.store_model.specs.declared.answers.Refusal.{Refusal}
use Rattle.store_model.specs.declared.answers.Refusal.TheVariants as why
use Rattle.store_model.specs.Answers.{AnswersFetch, AnswersNumber, facts_at, place_at, refusal_for, refused_by, size_at}
use Rattle.store_model.specs.Readings.{asks_for, digest_read, is_damaged_read, object_read, position_of, spot_read}
use Rattle.store_model.specs.Reads.{IsJudged}
use Rattle.store_model.proofs.AnsweredLaws.{live_if, number_served, served_is, some_there}
use Rattle.store_model.proofs.ReadLaws.{found_damaged, found_object, found_within}
use Rattle.store_model.proofs.ReadingLaws.{IsFound, whole_if_served}
use Rattle.store_model.specs.Connection.{StoreValue, base_of, limits_of, state_of}
use Rattle.store_model.specs.Halves.{IsReadable}
use Rattle.store_model.specs.States.{object_in, refusal}
use Rattle.store_model.specs.Stores.{IsStanding, IsStore}
use Rattle.lent_store.specs.Embedded.{Embedded, file_in}
use Rattle.lent_store.specs.Readings.{CanCopy, ReadsInto, answer_or, object_answer, read_answer}

-- ---- whether it may be read

-- what isn't refused stands somewhere
pub found_at : (s : StoreValue) (m : Moment) (name : List ℕ) → refused_by s (asks_for m name) ≡ None
    → IsStanding s → (x : Spot) × IsFound s (asks_for m name) x
found_at s moment.Now name none stands =
    let whole = whole_if_served s.is_broken (option_map refusal_for (refusal (limits_of s)
    (facts_at s (ask.get name)) (ask.get name))) none in
    let there = some_there s.now name (fin.get s.now name) refl (live_if (is_name name)
    (fin.contains_key s.now name) (served_is s (ask.get name) whole none)) in
    (there.0, record { served = none; whole = whole; there = there.1; stands = stands })
found_at s moment.Kept name none stands =
    let whole = whole_if_served s.is_broken (option_map refusal_for (refusal (limits_of s)
    (facts_at s (ask.old name)) (ask.old name))) none in
    let there = some_there s.kept name (fin.get s.kept name) refl (live_if (is_name name)
    (fin.contains_key s.kept name) (served_is s (ask.old name) whole none)) in
    (there.0, record { served = none; whole = whole; there = there.1; stands = stands })

-- a refusal is the answer
pub refused_answer : (e : Embedded) (r : Request) (room : ℕ) (refused : Refusal)
    → refused_by e.store r ≡ Some refused → read_answer e r room ≡ Err refused
refused_answer e r room refused is = ap (λ (o : Option Refusal). answer_or o (if nat_lt room
    (size_at (spot_read e.store r)) then Err why.Sink else object_answer e r)) is

-- and so is that it doesn't fit
pub short_answer : (e : Embedded) (r : Request) (room : ℕ) → refused_by e.store r ≡ None
    → nat_lt room (size_at (spot_read e.store r)) ≡ true → read_answer e r room ≡ Err why.Sink
short_answer e r room served short = ap (λ (o : Option Refusal). answer_or o (if nat_lt room
    (size_at (spot_read e.store r)) then Err why.Sink else object_answer e r)) served
    ∙ cond-true _ _ _ short

pub fitting_answer : (e : Embedded) (r : Request) (room : ℕ) → refused_by e.store r ≡ None
    → size_at (spot_read e.store r) ≤ room → read_answer e r room ≡ object_answer e r
fitting_answer e r room served fits = ap (λ (o : Option Refusal). answer_or o (if nat_lt room
    (size_at (spot_read e.store r)) then Err why.Sink else object_answer e r)) served
    ∙ cond-false _ _ _ (le-ltb room (size_at (spot_read e.store r)) fits)

-- what is read of an object that fits
pub read_into : (e : Embedded) (r : Request) (before out : List ℕ) (result : Result ℕ Refusal)
    → CanCopy e r (length before) → result ≡ object_answer e r
    → IfOk result (λ n. take n out ≡ object_read (state_of e.store (file_in e)) r)
    → length out ≡ length before → ReadsInto r e before out result
read_into e r before out result can is object same = record {
  answer = is ∙ sym (fitting_answer e r (length before) can.served can.fits);
  object = object;
  refused = λ some. absurd (let h = subst IsSome can.served some in cc);
  short = λ less. absurd (omega (arith, less, can.fits));
  same_length = same;
}

-- what isn't read leaves the memory
pub not_into : (e : Embedded) (r : Request) (before : List ℕ) (refused : Refusal)
    → read_answer e r (length before) ≡ Err refused → ReadsInto r e before before (Err refused)
not_into e r before refused is = record {
  answer = sym is;
  object = tt;
  refused = λ some. refl;
  short = λ less. refl;
  same_length = refl;
}

-- ---- an object that is found

module _ (s : StoreValue) (file : List ℕ) (m : Moment) (name : List ℕ) (x : Spot)
    (f : IsFound s (asks_for m name) x) where
  abbrev r : Request
  r = asks_for m name

  abbrev size : ℕ
  size = size_at (spot_read s r)

  abbrev object : List ℕ
  object = object_read (state_of s file) r

  abbrev damaged : Bool
  damaged = is_damaged_read (state_of s file) r

  abbrev answer : Result ℕ Refusal
  answer = if damaged then Err why.Damaged else Ok size

  -- by the two answers that are left
  sound_answer : (result : Result ℕ Refusal) → result ≡ Ok size → damaged ≡ false → result ≡ answer
  sound_answer result is fine = is ∙ sym (cond-false damaged (Err why.Damaged) (Ok size) fine)

  damaged_answer : (result : Result ℕ Refusal) → result ≡ Err why.Damaged → damaged ≡ true → result ≡ answer
  damaged_answer result is bad = is ∙ sym (cond-true damaged (Err why.Damaged) (Ok size) bad)

  -- ---- fetched without a sink

  module _ (now : List ℕ) (before refused : ℕ) (none : before ≡ 0) (result : Result ℕ Refusal)
      (same : Unchanged (view_state file before) (view_state now refused))
      (cause : HasDiskCause why.Disk before refused result) where
    no_fault : result ≡ Err why.Disk → ⊥
    no_fault is = absurd (omega (arith, none, cause.rose is, same.same_turn))

    pub fetched_answer : AnswersFetch (refused_by s r) size result
        → IsJudged (digest_read s r) object result → result ≡ answer
    fetched_answer is judged = by (subst (λ (o : Option Refusal). AnswersFetch o size result) f.served is)
      where
        differs_is : damaged ≡ differs (digest_read s r) (Some object)
        differs_is = found_damaged s file f.stands m name x f.there
            ∙ ap (λ (bytes : List ℕ). differs (digest_read s r) (Some bytes))
            (sym (found_object s file f.stands m name x f.there))

        by : AnswersFetch None size result → result ≡ answer
        by (inl ok) = sound_answer result ok
            (differs_is ∙ subst (λ (y : Result ℕ Refusal). IfOk y (λ n. differs (digest_read s r)
            (Some object) ≡ false)) ok judged.fine)
        by (inr (inl bad)) = absurd (no_fault bad)
        by (inr (inr bad)) = damaged_answer result bad (differs_is ∙ judged.damaged bad)

-- by moment
pub fetched : (s : StoreValue) (file : List ℕ) (m : Moment) (name : List ℕ)
    → refused_by s (asks_for m name) ≡ None → IsStanding s → (now : List ℕ) (first refused : ℕ) → first ≡ 0
    → (result : Result ℕ Refusal) → Unchanged (view_state file first) (view_state now refused)
    → HasDiskCause why.Disk first refused result
    → AnswersFetch (refused_by s (asks_for m name)) (size_at (spot_read s (asks_for m name))) result
    → (s.is_broken ≡ false → IsTrue true → refused_by s (asks_for m name) ≡ None
    → IsJudged (digest_read s (asks_for m name)) (object_read (state_of s file) (asks_for m name)) result)
    → result ≡ (if is_damaged_read (state_of s file) (asks_for m name) then Err why.Damaged
    else Ok (size_at (spot_read s (asks_for m name))))
fetched s file m name served stands now first refused none result same cause answer judged =
    let found = found_at s m name served stands in
    fetched_answer s file m name found.0 found.1 now first refused none result same cause answer
    (judged found.1.whole refl served)

-- ---- where it stands

-- the bytes of an object stand within the file, from its position on
pub standing_there : (s : StoreValue) (d : disk.State) (name : List ℕ) (result : Result ℕ Refusal)
    → (s.is_broken ≡ false → IsStanding s)
    → (s.is_broken ≡ false → s.in_hand ≡ None → IsStore CLASSES s) → IsReadable CLASSES s d → IsTrue d.tells
    → AnswersNumber (refused_by s (ask.get name)) (position_of s (ask.get name)) result
    → IfOk result (λ at. (at + size_at (fin.get s.now name) ≤ length d.file)
    × (bytes_at d.file at (size_at (fin.get s.now name)) ≡ object_in (state_of s d.file).map name))
standing_there s d name (Err y) stands sound over told is = tt
standing_there s d name (Ok at) stands sound over told is =
    let served = number_served (refused_by s (ask.get name)) (position_of s (ask.get name)) at is in
    let whole = whole_if_served s.is_broken (option_map refusal_for (refusal (limits_of s)
    (facts_at s (ask.get name)) (ask.get name))) served.0 in
    let found = found_at s moment.Now name served.0 (stands whole) in
    let x = found.0 in
    let f = found.1 in
    let place : at ≡ base_of s + x.place =
    served.1 ∙ ap (λ (o : Option Spot). base_of s + place_at o) f.there in
    let size : size_at (fin.get s.now name) ≡ x.size = ap size_at f.there in
    let within = found_within s d f.stands whole (sound whole) over told moment.Now name x f.there in (
      omega (arith, within, place, size),
      ap (λ (n : ℕ). bytes_at d.file n (size_at (fin.get s.now name))) place
          ∙ ap (bytes_at d.file (base_of s + x.place)) size
          ∙ sym (found_object s d.file f.stands moment.Now name x f.there),
    )
