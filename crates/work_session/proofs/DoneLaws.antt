-- What a job does, by what the calls of the store do.
use Rattle.std.specs.Prelude.{◌≡◌, ℕ, zero, suc, ◌+◌, ◌-◌, ◌*◌, ◌≤◌, nat_lt, Bool, true, false, not, ◌&&◌, ◌||◌, if◌then◌else◌, List, [], ◌∷◌, ◌++◌, cond, is_some, length, slice_index, sum_by, Option, Some, None, option_map, Result, Ok, Err, IfOk, IfSome, IsNone, IsTrue, OnOk, refl}
use Rattle.std.proofs.Common.{arith, ap, sym, ◌∙◌, subst, inl, inr}
use Rattle.std.proofs.Math.Nat.{mul-le-mul_right}
use Rattle.std.proofs.lemmas.Bool.{cases_Bool, cond-false, lt-ltb}
use Rattle.std.proofs.lemmas.List.{length-map}
use Rattle.std.proofs.lemmas.List.Sums.{sum_by-append, sum_by-cons}
use Rattle.std.specs.FinMap as fin
use Rattle.disk_face.specs.States as disk
use Rattle.size_class.specs.Classes.{width}
use Rattle.size_class.specs.declared.TheConstants.{SIZE_MAX}
use Rattle.slot_pair.specs.Saves.{save_calls}
use Rattle.map_model.specs.Maps.{Map}
use Rattle.map_model.specs.Requests as ask
use Rattle.map_model.specs.Requests.{Change, Reply, Request, changed}
use Rattle.map_model.specs.Weights.{same_name}
use Rattle.map_model.proofs.MapLaws.{get-remove_here, insert-remove, name_order}
use Rattle.segment_layout.specs.Books.{is_quiet, new_item, some_size}
use Rattle.extent_table.specs.declared.spot.Spot.{Spot}
use Rattle.extent_table.specs.Extents.{Spots}
use Rattle.placement_model.specs.Reads.{EndWithin, read_at}
use Rattle.flush_run.specs.Parts.{size_in}
use Rattle.store_model.specs.Sized.{IsSizedBy}
use Rattle.store_model.proofs.SizedLaws.{sized_entries, sized_gone, sized_volume, sized_len}
use Rattle.move_cost.specs.Costs.{IsCost}
use Rattle.store_model.specs.declared.answers.Refusal.{Refusal}
use Rattle.store_model.specs.declared.answers.Refusal.TheVariants as why
use Rattle.store_model.specs.declared.answers.Done.{Done}
use Rattle.store_model.specs.Answers.{AnswersChange, done_reply, refused_by}
use Rattle.store_model.specs.Changes.{ChangesQuietly}
use Rattle.store_model.specs.Changing.{IsChange}
use Rattle.store_model.specs.Connection.{IsOver, StoreValue, base_of, limits_of, state_of}
use Rattle.store_model.specs.Flushes.{ChangesByFlush, IsFlush, names_after, size_after}
use Rattle.store_model.specs.Keeps.{now_map}
use Rattle.store_model.specs.Quiet.{asked_after, charges_of, del_of, put_of, sizes_at}
use Rattle.store_model.specs.States.{State, Step}
use Rattle.store_model.specs.Stores.{IsStore}
use Rattle.store_model.proofs.StoreLaws.{few_bytes, now_lies, small_if_there}
use Rattle.store_costs.specs.Paid.{HasOpenLedger, HasPaid, MovesNothing}
use Rattle.store_costs.proofs.ChangeLaws.{change_has_paid, nothing_has_paid}
use Rattle.store_costs.proofs.MadeLaws.{flush_next, quiet_next}
use Rattle.store_costs.proofs.WeighedLaws.{in_zeros, sized_now, zeros}
use Rattle.ask_text.specs.declared.reply.Reply as text
use Rattle.ask_text.specs.declared.ends.End.{End}
use Rattle.ask_session.specs.ReplyLines.{answer_change, answer_of, done_reply_line}
use Rattle.ask_session.specs.Serving.{is_changing, is_disk_fault, reply_at}
use Rattle.ask_session.proofs.GrowingLaws.{and_none}
use Rattle.ask_session.specs.Ready.{CanServe}
use Rattle.work_session.specs.Counts.{asked_by, calls_by}
use Rattle.work_session.specs.Jobs.{Charges, most_read, most_rise, read_head}
use Rattle.work_session.proofs.RowLaws.{all_added_few, class_few}

-- ---- where the disk didn't fail

pub sound_if : {classes : ℕ} (r : Request) (new : StoreValue) (result : Result text.Reply End)
    → new.is_broken ≡ (is_changing r && is_disk_fault result) → (new.is_broken ≡ false → IsStore classes new)
    → OnOk result (IsStore classes new)
sound_if r new (Ok x) broken sound = sound (broken ∙ and_none (is_changing r))
sound_if r new (Err end) broken sound = tt

-- ---- a reply to a change gives no bytes

pub small_refused : (x : Refusal) → IfOk (answer_of x) (λ reply. read_head reply ≤ most_read)
small_refused why.BadName = omega arith
small_refused why.TooLong = omega arith
small_refused why.Missing = omega arith
small_refused why.TooMany = tt
small_refused why.Damaged = omega arith
small_refused why.Full = omega arith
small_refused why.Worn = omega arith
small_refused why.Sink = tt
small_refused why.Disk = tt
small_refused why.Broken = tt

pub small_change : (result : Result Done Refusal)
    → IfOk (answer_change result) (λ reply. read_head reply ≤ most_read)
small_change (Ok done) = by done.kept
  where
    by : (b : Bool) → read_head (done_reply_line (record { kept = b })) ≤ most_read
    by true = omega arith
    by false = omega arith
small_change (Err x) = small_refused x

-- ---- the ledger stays

pub nothing_charged : {classes : ℕ} (r : Request) (s new : StoreValue) (a d : disk.State) → MovesNothing s new
    → ((e : ℕ) → asked_by (state_of s a.file) r (reply_at s a.file r) e ≡ 0)
    → (IsTrue a.tells
    → d.turn ≤ a.turn + calls_by (state_of s a.file) (state_of new d.file) r (reply_at s a.file r))
    → Charges classes r s new a d
nothing_charged {classes} r s new a d n none calls = record {
  moved_few = λ e. omega (arith, ap (λ (row : List ℕ). slice_index row e) n.moved);
  asked_few = λ e. omega (arith, ap (λ (row : List ℕ). slice_index row e) n.asked);
  later = λ low e. omega (arith, ap (λ (row : List ℕ). slice_index row e) n.moved);
  asked = λ told low e. omega (arith, ap (λ (row : List ℕ). slice_index row e) n.asked, none e);
  paid = λ low cost first is paid. nothing_has_paid classes cost first s new n paid;
  calls = λ told low. omega (arith, calls told);
}

-- what no refusal asks for
pub refused_asks : (s : State) (r : Request) (w : ask.Refused) (e : ℕ) → asked_by s r (ask.refused w) e ≡ 0
refused_asks s (ask.change c) w e = refl
refused_asks s (ask.get name) w e = refl
refused_asks s (ask.old name) w e = refl
refused_asks s ask.keep w e = refl
refused_asks s ask.back w e = refl
refused_asks s ask.list w e = refl
refused_asks s ask.stat w e = refl

-- ---- how many names there are after a change

len_changed : (s : StoreValue) (c : Change) (m : Map) → IsSizedBy m s.now
    → fin.len (changed c m) ≡ names_after s c
len_changed s c m sized = by c.object
  where
    gone : fin.len (fin.remove m c.name) ≡ fin.len (fin.remove s.now c.name)
    gone = sized_len (fin.remove m c.name) (fin.remove s.now c.name) (sized_gone m s.now c.name sized)

    by : (o : Option (List ℕ)) → fin.len (changed (record { name = c.name; object = o }) m)
        ≡ names_after s (record { name = c.name; object = o })
    by None = gone
    by (Some object) =
        let r = fin.remove m c.name in
        ap (λ (x : Map). fin.len x) (sym (insert-remove m c.name object))
        ∙ fin.len-insert name_order r c.name object
        ∙ cond-false (fin.contains_key r c.name) (fin.len r) (fin.len r + 1)
        (ap is_some (get-remove_here m c.name))
        ∙ ap (λ (n : ℕ). n + 1) gone

-- the sizes after a change
after_sizes : (s : StoreValue) (c : Change) (m : Map) → IsSizedBy m s.now → (q : List ℕ)
    → option_map length (fin.get (changed c m) q) ≡ size_after s c q
after_sizes s c m sized q = by c.object
  where
    cut : (b : Bool) → option_map length (cond b None (fin.get m q)) ≡ cond b None (size_in s.now q)
    cut true = refl
    cut false = sized q

    set : (object : List ℕ) (b : Bool) → option_map length (cond b (Some object) (fin.get m q))
        ≡ cond b (Some (length object)) (size_in s.now q)
    set object true = refl
    set object false = sized q

    by : (o : Option (List ℕ)) → option_map length (fin.get (changed
        (record { name = c.name; object = o }) m) q)
        ≡ size_after s (record { name = c.name; object = o }) q
    by None = ap (option_map length) (fin.get-remove name_order m c.name q) ∙ cut (same_name q c.name)
    by (Some object) =
        ap (option_map length) (fin.get-insert name_order m c.name object q) ∙ set object (same_name q c.name)

-- ---- a change that was done

-- the object of a put is short
abbrev pub IsShortChange : Change → Type 0
IsShortChange c = sum_by (λ (n : ℕ). n) (new_item c) ≤ SIZE_MAX

sum_some : (size : ℕ) → sum_by (λ (n : ℕ). n) (some_size size) ≤ size
sum_some zero = omega arith
sum_some (suc n) =
    let some : nat_lt 0 (suc n) ≡ true = lt-ltb 0 (suc n) (omega arith) in
    let one : some_size (suc n) ≡ suc n ∷ [] = ap (λ (b : Bool). if b then suc n ∷ [] else []) some in
    omega (arith, ap (sum_by (λ (n : ℕ). n)) one, sum_by-cons (λ (n : ℕ). n) (suc n) [])

pub put_short : (name object : List ℕ) → length object ≤ 8192 → IsShortChange (put_of name object)
put_short name object short = omega (arith, short, sum_some (length object))

pub del_short : (name : List ℕ) → IsShortChange (del_of name)
del_short name = omega arith

old_short : {classes : ℕ} (s : StoreValue) → IsStore classes s → (name : List ℕ)
    → sum_by (λ (n : ℕ). n) (sizes_at (fin.get s.now name)) ≤ SIZE_MAX
old_short s h name = by (fin.get s.now name) (small_if_there s h name (fin.get s.now name) refl)
  where
    by : (o : Option Spot) → IfSome o (λ x. x.size ≤ SIZE_MAX)
        → sum_by (λ (n : ℕ). n) (sizes_at o) ≤ SIZE_MAX
    by None small = omega arith
    by (Some x) small = omega (arith, small, sum_some x.size)

module _ {classes : ℕ} (s new : StoreValue) (c : Change) (a d : disk.State) (done : Done)
    (h : CanServe classes s a)
    (full : length s.asked ≡ width) (short : IsShortChange c) (x : IsChange classes c s new a d (Ok done))
    (step : IsTrue a.tells → Step (limits_of s) (state_of s a.file) (ask.change c) (done_reply done)
    (state_of new d.file)) (sound : IsStore classes new) where
  record Accepted : Type 0 where
    none : IsNone (refused_by s (ask.change c))
    kept : done.kept ≡ not (is_quiet (charges_of s c))

  accepted : Accepted
  accepted = by (refused_by s (ask.change c)) refl x.answer
    where
      by : (o : Option Refusal) → refused_by s (ask.change c) ≡ o
          → AnswersChange (is_quiet (charges_of s c)) o (Ok done) → Accepted
      by (Some w) is answer = absurd (cc)
      by None is (inr bad) = absurd (cc)
      by None is (inl answer) = record {
        none = subst (λ (o : Option Refusal). IsNone o) (sym is) refl;
        kept = let same : done ≡ record { kept = not (is_quiet (charges_of s c)) } = cc in
            ap (λ (y : Done). y.kept) same;
      }

  within : IsTrue a.tells → EndWithin (base_of s) a.file s.now
  within told = now_lies s a.file h.sound (h.over told)

  abbrev m : Map
  m = now_map s a.file

  sized : IsTrue a.tells → IsSizedBy m s.now
  sized told = sized_now s h.sound (base_of s) a.file (within told)

  -- a map that has the sizes, whatever the disk tells
  abbrev blank : Map
  blank = read_at 0 (zeros s h.sound) s.now

  sized_blank : IsSizedBy blank s.now
  sized_blank = sized_now s h.sound 0 (zeros s h.sound) (in_zeros s h.sound)

  unbroken : new.is_broken ≡ false
  unbroken = x.broken ∙ ap (λ (b : Bool). b || false) h.whole

  -- the reply
  replied : IsTrue a.tells → (b : Bool) → done.kept ≡ b
      → reply_at s a.file (ask.change c) ≡ (if b then ask.kept else ask.done)
  replied told b is = sym (step told).replied ∙ ap (λ (k : Bool). if k then ask.kept else ask.done) is

  asked_few : new.asked ≡ asked_after s c → (e : ℕ)
      → slice_index new.asked e ≤ slice_index s.asked e + most_rise
  asked_few is e = omega (
    arith,
    ap (λ (row : List ℕ). slice_index row e) is,
    all_added_few s.asked (sizes_at (fin.get s.now c.name) ++ new_item c) full e,
    sum_by-append (λ (n : ℕ). n) (sizes_at (fin.get s.now c.name)) (new_item c),
    old_short s h.sound c.name,
    short,
  )

  paid : HasOpenLedger new → (cost : ℕ → ℕ) (first : ℕ) → IsCost classes cost → HasPaid classes cost first s
      → HasPaid classes cost first new
  paid low cost first is was =
      change_has_paid c s new a d (Ok done) x refl (λ whole. h.sound) full low cost is first was

  quiet_charges : is_quiet (charges_of s c) ≡ true → Charges classes (ask.change c) s new a d
  quiet_charges quiet =
      let q = x.quiet accepted.none quiet in
      let v : ChangesQuietly classes c s new = q.value in
      let plain : IsTrue a.tells → reply_at s a.file (ask.change c) ≡ ask.done =
      λ told. replied told false (accepted.kept ∙ ap not quiet) in
      record {
        moved_few = λ e. omega (arith, ap (λ (y : StoreValue). slice_index y.moved e) v.rest);
        asked_few = asked_few (ap (λ (y : StoreValue). y.asked) v.rest);
        later = λ low e. omega (arith, ap (λ (y : StoreValue). slice_index y.moved e) v.rest);
        asked = λ told low e. omega (
          arith,
          (quiet_next s h.sound (base_of s) a.file (within told) c new quiet v full low).asks e,
          ap (λ (y : Reply). asked_by (state_of s a.file) (ask.change c) y e) (plain told),
        );
        paid = paid;
        calls = λ told low. omega (
          arith,
          q.calls.all,
          ap (λ (y : Reply). calls_by (state_of s a.file) (state_of new d.file) (ask.change c) y)
              (plain told),
        );
      }

  -- a change that makes a checkpoint
  module _ (needs_flush : is_quiet (charges_of s c) ≡ false) where
    f : IsFlush classes c s new a d (Ok done)
    f = x.flush accepted.none needs_flush

    v : ChangesByFlush c s new
    v = f.value

    over_new : IsTrue a.tells → IsOver classes new d.file
    over_new told = x.over.over unbroken (subst IsTrue (sym f.frame.stays.told) told)

    -- a map after has the sizes of the new places
    sized_after : (map : Map) → IsSizedBy map s.now → IsSizedBy (changed c map) new.now
    sized_after map is q = after_sizes s c map is q ∙ sym (v.sizes q)

    names : IsTrue a.tells → fin.len (state_of new d.file).map ≡ names_after s c
    names told = sized_len (now_map new d.file) new.now
        (sized_now new sound (base_of new) d.file (now_lies new d.file sound (over_new told)))
        ∙ sym (sized_len (changed c m) new.now (sized_after m (sized told))) ∙ len_changed s c m (sized told)

    moved_few : (e : ℕ) → slice_index new.moved e ≤ slice_index s.moved e + most_rise
    moved_few e = omega (
      arith,
      f.few_by_size blank sized_blank e,
      class_few (changed c blank) e,
      sized_volume (changed c blank) new.now (sized_after blank sized_blank),
      few_bytes new sound,
      mul-le-mul_right SIZE_MAX sound.block.names_high,
    )

    loud_charges : Charges classes (ask.change c) s new a d
    loud_charges =
        let kept : IsTrue a.tells → reply_at s a.file (ask.change c) ≡ ask.kept =
        λ told. replied told true (accepted.kept ∙ ap not needs_flush) in
        let t = state_of new d.file in
        record {
          moved_few = moved_few;
          asked_few = asked_few v.asked;
          later = λ low e. f.calls.later low.moved e;
          asked = λ told low e. omega (
            arith,
            (flush_next s h.sound (base_of s) a.file (within told) c new needs_flush a d (Ok done) f v full
                low).asks e,
            ap (λ (y : Reply). asked_by (state_of s a.file) (ask.change c) y e) (kept told),
          );
          paid = paid;
          calls = λ told low. omega (
            arith,
            f.calls.most low.moved,
            ap (λ (n : ℕ). (new.in_use.sequence - s.in_use.sequence) * save_calls n) (names told),
            ap (λ (y : Reply). calls_by (state_of s a.file) t (ask.change c) y) (kept told),
          );
        }

  pub store_model : Charges classes (ask.change c) s new a d
  store_model = elim (cases_Bool (is_quiet (charges_of s c))) [
    | inl quiet ↦ quiet_charges quiet
    | inr needs_flush ↦ loud_charges needs_flush
  ]
