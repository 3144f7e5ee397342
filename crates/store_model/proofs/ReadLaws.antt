-- A read of an object, of now or of the last checkpoint: what is found, and what is refused.
use Rattle.std.specs.Prelude.{◌≡◌, ℕ, ◌+◌, ◌≤◌, Bool, true, false, if◌then◌else◌, List, ◌++◌, length, Option, Some, None, option_map, Result, Err, IsNone, IsTrue, OnOk, refl}
use Rattle.std.proofs.Common.{ap, subst, sym, ◌∙◌}
use Rattle.disk_face.specs.Devices.{devices}
use Rattle.disk_face.specs.States as disk
use Rattle.disk_face.specs.Frames.{Unchanged}
use Rattle.disk_face.specs.Streams.{SinkState}
use Rattle.slot_pair.specs.Finding.{HasDiskCause}
use Rattle.map_model.specs.Requests as ask
use Rattle.map_model.specs.Requests.{Refused, Request}
use Rattle.segment_layout.specs.Books.{differs}
use Rattle.extent_table.specs.declared.spot.Spot.{Spot}
use Rattle.extent_table.specs.Extents.{IsInRange}
use Rattle.placement_model.specs.Reads.{object_at}
use Rattle.store_model.specs.declared.answers.Moment.{Moment}
use Rattle.store_model.specs.declared.answers.Moment.TheVariants as moment
use Rattle.store_model.specs.declared.answers.Refusal.{Refusal}
use Rattle.store_model.specs.declared.answers.Refusal.TheVariants as why
use Rattle.store_model.specs.Answers.{AnswersRead, AnswersSpot, facts_at, refusal_for, refused_by, size_at}
use Rattle.store_model.specs.Connection.{StoreValue, base_of, limits_of, state_of}
use Rattle.store_model.specs.Readings.{IsRead, asks_for, digest_read, is_damaged_read, object_read, spot_read}
use Rattle.data_area.specs.Causes.{HasSinkCause}
use Rattle.store_model.specs.Reads.{GivesObject, IsJudged}
use Rattle.store_model.specs.States.{Limits, State, accepted, refusal, unchanged}
use Rattle.store_model.specs.Stores.{IsStanding, IsStore}
use Rattle.data_area.proofs.CauseLaws.{calm_disk, calm_sink}
use Rattle.store_model.proofs.ReadingLaws.{IsFound, answers_read, damaged_there, gives_object, object_there, refused_read}
use Rattle.store_model.proofs.RefusedLaws.{not_none}
use Rattle.store_model.proofs.StepLaws.{read_reply, read_step}
use Rattle.store_model.specs.Halves.{IsReadable}
use Rattle.store_model.proofs.HalfLaws.{readable_kept, readable_now}
use Rattle.disk_face.proofs.FrameLaws.{unchanged_itself}

-- ---- what is found, at each moment

pub found_in_range : (s : StoreValue) → IsStanding s → (m : Moment) (name : List ℕ)
    (x : Spot) → spot_read s (asks_for m name) ≡ Some x → IsInRange x
found_in_range s h moment.Now name x there = h.now_in_range name x there
found_in_range s h moment.Kept name x there = h.kept_in_range name x there

pub found_within : {classes : ℕ} (s : StoreValue) (d : disk.State) → IsStanding s → s.is_broken ≡ false
    → (s.in_hand ≡ None → IsStore classes s) → IsReadable classes s d → IsTrue d.tells
    → (m : Moment) (name : List ℕ) (x : Spot) → spot_read s (asks_for m name) ≡ Some x
    → base_of s + x.place + x.size ≤ length d.file
found_within s d h whole sound over told moment.Now name x there =
    readable_now s d over whole sound told name x there
found_within s d h whole sound over told moment.Kept name x there =
    readable_kept s d over whole sound h.kept_named told name x there

pub found_object : (s : StoreValue) (file : List ℕ) → IsStanding s → (m : Moment)
    (name : List ℕ) (x : Spot) → spot_read s (asks_for m name) ≡ Some x
    → object_read (state_of s file) (asks_for m name) ≡ object_at (base_of s) file x
found_object s file h moment.Now name x there = object_there (base_of s) file s.now name x h.now_named there
found_object s file h moment.Kept name x there =
    object_there (base_of s) file s.kept name x h.kept_named there

-- and whether it is damaged
pub found_damaged : (s : StoreValue) (file : List ℕ) → IsStanding s → (m : Moment)
    (name : List ℕ) (x : Spot) → spot_read s (asks_for m name) ≡ Some x
    → is_damaged_read (state_of s file) (asks_for m name)
    ≡ differs (digest_read s (asks_for m name)) (Some (object_at (base_of s) file x))
found_damaged s file h moment.Now name x there =
    damaged_there (base_of s) file s.book s.now name x h.now_named there
found_damaged s file h moment.Kept name x there =
    damaged_there (base_of s) file s.kept_book s.kept name x h.kept_named there

read_serves : (limits : Limits) (t : State) (m : Moment) (name : List ℕ)
    → accepted limits t (asks_for m name)
    ≡ unchanged t (read_reply (is_damaged_read t (asks_for m name))
    (ask.found (object_read t (asks_for m name))))
read_serves limits t moment.Now name = refl
read_serves limits t moment.Kept name = refl

-- ---- what is refused

unfound : (o : Option Refusal) (spot : Option Spot) (x : Refusal) → AnswersSpot o spot (Err x) → o ≡ Some x
unfound None spot x is = absurd (let h = is.1 in cc)
unfound (Some refused) spot x is = let same : refused ≡ x = (cc) in ap (λ (y : Refusal). Some y) same

abbrev device_failed : Refusal → Bool
device_failed why.Disk = true
device_failed why.Sink = true
device_failed why.Broken = false
device_failed why.BadName = false
device_failed why.TooLong = false
device_failed why.Missing = false
device_failed why.TooMany = false
device_failed why.Damaged = false
device_failed why.Full = false
device_failed why.Worn = false

-- no refusal says that a device failed
none_failed : (broken : Bool) (o : Option Refused) (x : Refusal)
    → (if broken then Some why.Broken else option_map refusal_for o) ≡ Some x → device_failed x ≡ false
none_failed true o x is = let same : why.Broken ≡ x = (cc) in ap device_failed (sym same)
none_failed false None x is = absurd (cc)
none_failed false (Some w) x is = let same : refusal_for w ≡ x = (cc) in ap device_failed (sym same) ∙ none w
  where
    none : (y : Refused) → device_failed (refusal_for y) ≡ false
    none ask.bad_name = refl
    none ask.too_long = refl
    none ask.missing = refl
    none ask.damaged = refl
    none ask.full = refl
    none ask.worn = refl

-- ---- a read

module _ (s : StoreValue) (a : disk.State) (m : Moment) (name head : List ℕ) where
  abbrev r : Request
  r = asks_for m name

  pub read_found : (x : Spot) → IsFound s r x → (new : StoreValue) (d : disk.State)
      (out after : SinkState) (result : Result ℕ Refusal) → AnswersRead None x.size result
      → (IsTrue a.tells → IsJudged (digest_read s r) (object_at (base_of s) a.file x) result)
      → (IsTrue a.tells → differs (digest_read s r) (Some (object_at (base_of s) a.file x)) ≡ true
      → after ≡ out)
      → (IsTrue out.tells
      → GivesObject None a.tells (head ++ object_at (base_of s) a.file x) out.given after.given (length head)
      result)
      → new ≡ s → Unchanged a d → HasDiskCause why.Disk a.faults d.faults result
      → HasSinkCause why.Sink out after result
      → IsRead r head s new (devices a out) (devices d after) result
  read_found x f new d out after result answer judged clean gives store frame disk_cause sink_cause =
      let answered = answers_read (refused_by s r) (size_at (spot_read s r)) x.size result f.served
      (ap size_at f.there) answer in
      let damaged = found_damaged s a.file f.stands m name x f.there in
      record {
        answer = answered;
        clean = λ whole told is. clean told (sym damaged ∙ is);
        gives = λ told. gives_object (refused_by s r) a.tells head (object_read (state_of s a.file) r)
            (object_at (base_of s) a.file x) out.given after.given result f.served
            (found_object s a.file f.stands m name x f.there) (gives told);
        step = λ whole told. read_step s new a.file d.file r (ask.found (object_read (state_of s a.file) r))
            (size_at (spot_read s r)) (is_damaged_read (state_of s a.file) r) result whole f.stands store
            (frame.same_file told) (read_serves (limits_of s) (state_of s a.file) m name)
            (λ none. subst (λ (b : Bool). OnOk result (b ≡ false)) (sym damaged) (judged told).fine)
            (λ none is. damaged ∙ (judged told).damaged is) answered;
        store = store;
        frame = frame;
        disk_cause = disk_cause;
        sink_cause = sink_cause;
      }

  pub read_refused : (x : Refusal) → AnswersSpot (refused_by s r) (spot_read s r) (Err x)
      → (s.is_broken ≡ false → IsStanding s) → IsTrue a.is_ready → (out : SinkState)
      → IsRead r head s s (devices a out) (devices a out) (Err x)
  read_refused x answer sound ready out =
      let is = unfound (refused_by s r) (spot_read s r) x answer in
      let answered = refused_read (refused_by s r) (spot_read s r) x (size_at (spot_read s r)) answer in
      record {
        answer = answered;
        clean = λ whole told damaged. refl;
        gives = λ told. record {
          none = λ some. refl;
          damaged = λ damaged. refl;
          front = λ none told. not_none (refused_by s r) x is none;
          number = tt;
        };
        step = λ whole told. read_step s s a.file a.file r (ask.found (object_read (state_of s a.file) r))
            (size_at (spot_read s r)) (is_damaged_read (state_of s a.file) r) (Err x) whole (sound whole) refl
            refl (read_serves (limits_of s) (state_of s a.file) m name) (λ none. tt)
            (λ none damaged. absurd (not_none (refused_by s r) x is (subst IsNone (sym none) refl))) answered;
        store = refl;
        frame = unchanged_itself a ready;
        disk_cause = calm_disk (λ fault. failed why.Disk is refl (Err x) refl fault) refl;
        sink_cause = calm_sink (λ fault. failed why.Sink is refl (Err x) refl fault) refl refl;
      }
    where
      failed : (y : Refusal) → refused_by s r ≡ Some x → device_failed y ≡ true → (result : Result ℕ Refusal)
          → result ≡ Err x → result ≡ Err y → ⊥
      failed y is bad result refused fault = absurd (
          let same : x ≡ y = (cc) in
          let e : false ≡ true = sym (none_failed s.is_broken (refusal (limits_of s) (facts_at s r) r) x is)
          ∙ ap device_failed same ∙ bad in cc)
