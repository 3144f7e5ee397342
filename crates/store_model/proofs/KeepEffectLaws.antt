-- What a keep does to the disk and to what a crash may leave, and the fields of the store after it.
use Rattle.std.specs.Prelude.{◌≡◌, ℕ, ◌+◌, ◌<◌, ◌≤◌, ◌^◌, true, false, List, [], length, Result, Ok, Err, IsTrue, vec_len, refl}
use Rattle.std.proofs.Common.{arith, ap, sym, ◌∙◌, subst, inl, inr}
use Rattle.std.specs.FinMap as fin
use Rattle.std.specs.Global.{Vec}
use Rattle.disk_face.specs.States as disk
use Rattle.disk_face.specs.Frames.{Calls}
use Rattle.disk_face.specs.Moments.{Leaves, Rests}
use Rattle.disk_face.specs.Writes.{KeepsDisk}
use Rattle.disk_face.proofs.MomentLaws.{Leaves-weaken}
use Rattle.held_guard.specs.Freed.{Freed}
use Rattle.slot_codec.specs.Choice as choice
use Rattle.slot_codec.specs.Reading.{worn_from}
use Rattle.slot_codec.specs.Spelling.{cap as cap_of, head_len}
use Rattle.slot_codec.specs.declared.codec.Header.{Header}
use Rattle.slot_codec.specs.declared.codec.Record.{Record}
use Rattle.slot_codec.proofs.ChoiceLaws.{chosen_sequence, table_chosen}
use Rattle.slot_codec.proofs.StepLaws.{from_ok}
use Rattle.slot_pair.specs.Saves.{IsSaved, next_chosen, next_in_use, save_calls}
use Rattle.logged_pair.specs.Slots.{HasTable, has_logs, used_in}
use Rattle.logged_pair.specs.declared.slots.Slots.{Slots}
use Rattle.logged_pair.proofs.PlainSlots.{PlainEither, PlainSaveLeaves, is_saved, plain_has}
use Rattle.map_model.specs.Requests as ask
use Rattle.segment_layout.specs.Layouts.{caps_of, grid_of}
use Rattle.segment_layout.specs.Books.{version_of}
use Rattle.extent_table.specs.Extents.{Extents, IsTable, digests_seen, records_of, rolled}
use Rattle.extent_table.proofs.RollLaws.{rolled-plain, rolled-seen}
use Rattle.flush_run.proofs.RolledLaws.{rolled_count}
use Rattle.table_rules.specs.Sequences.{HasSequenceUpTo}
use Rattle.placement_model.specs.Held.{IsFreed}
use Rattle.placement_model.specs.Laid.{in_version, settled_header}
use Rattle.placement_model.proofs.GuardLaws.{freed_nothing}
use Rattle.store_model.specs.declared.answers.Refusal.{Refusal}
use Rattle.store_model.specs.declared.answers.Done.{Done}
use Rattle.store_model.specs.Connection.{IsConnected, IsOver, StoreValue, RestsOnTable, SameOnTable, base_of, limits_of, state_of}
use Rattle.store_model.specs.Inside.{Inside, IsWhole, kept_of}
use Rattle.store_model.specs.Keeps.{OpensToKeptOrNow, KeepsNow, kept_now}
use Rattle.store_model.specs.States.{Step}
use Rattle.store_model.specs.Stores.{IsStore}
use Rattle.store_model.specs.Digested.{digested_book}
use Rattle.store_model.proofs.InsideLaws.{opened, version_is}
use Rattle.store_model.proofs.KeepLaws.{header_now, kept_opens, length-records_of, now_opens, over_kept, step_kept, store_kept, table_now}
use Rattle.store_model.proofs.OverLaws.{same_itself}

-- ---- what a save leaves

-- the table of a file has the sequence of its chosen header
sequence_of_chosen : (file : List ℕ) (c : choice.Chosen) (most : ℕ) → choice.chosen file ≡ Ok c
    → c.header.sequence ≤ most → HasSequenceUpTo most file
sequence_of_chosen file c most is low t read =
    let same : c ≡ t.chosen = from_ok c t.chosen (sym is ∙ (table_chosen file t read).0) in
    omega (arith, low, ap (λ (x : choice.Chosen). x.header.sequence) same)

module _ {classes : ℕ} (s : StoreValue) (h : IsStore classes s) (fresh : s.in_use.sequence < 2 ^ 61)
    (records : List Record) (same_table : choice.table_with (table_now s).chosen records ≡ table_now s)
    (count : length records ≡ length (records_of s.now)) where
  abbrev base : ℕ
  base = base_of s

  module _ {before : List Record} {a d : disk.State} (over : IsOver classes s a.file)
      (left : PlainSaveLeaves s.in_use (header_now s) before records a d) where
    chosen : choice.chosen a.file ≡ Ok over.table.chosen
    chosen = (table_chosen a.file over.table over.checkpoint.opens.read).0

    has : HasTable false over.table before a.file
    has = plain_has over.table before a.file over.checkpoint.opens.read

    -- the sequence of the last checkpoint, and of what a save leaves, is below the next but one
    old_sequence : (image : List ℕ) → choice.table_of image ≡ Ok over.table
        → HasSequenceUpTo (s.in_use.sequence + 1) image
    old_sequence image read = sequence_of_chosen image over.table.chosen (s.in_use.sequence + 1)
        (table_chosen image over.table read).0
        (omega (arith, chosen_sequence a.file s.in_use over.table.chosen over.checkpoint.slot chosen))

    new_sequence : (image : List ℕ) → choice.chosen image ≡ Ok (table_now s).chosen
        → HasSequenceUpTo (s.in_use.sequence + 1) image
    new_sequence image is =
        sequence_of_chosen image (table_now s).chosen (s.in_use.sequence + 1) is (omega arith)

    -- what is saved has as many records as the table of now
    as_counted : (image : List ℕ) → choice.table_of image
        ≡ Ok (choice.table_with (next_chosen s.in_use (header_now s) (length records)) records)
        → IsSaved (table_now s).chosen records image
    as_counted image read = subst (λ n. IsSaved (next_chosen s.in_use (header_now s) n) records image) count
        (is_saved s.in_use (header_now s) records image read)

    -- each image that a save may leave is of the last checkpoint, or of now
    either_image : RestsOnTable base s.kept a → (image : List ℕ)
        → PlainEither over.table s.in_use (header_now s) before records a.may_leave a.file image
        → OpensToKeptOrNow classes s a.file image
    either_image rests image (inr new) = record {
      same_length = sym new.data_part.same_length;
      opens = inr (record {
        table = table_now s;
        opens = now_opens s h a.file over records same_table image (as_counted image new.table.read)
            new.data_part;
      });
      sequence = new_sequence image (as_counted image new.table.read).slot;
    }
    either_image rests image (inl old) = record {
      same_length = sym old.data_part.same_length ∙ was.same_length;
      opens = inl (record {
        table = over.table;
        opens = kept_opens s h a.file over old.from image was old.table.read old.data_part;
      });
      sequence = old_sequence image old.table.read;
    }
      where
        was : SameOnTable base s.kept a.file old.from
        was = elim old.was as (λ _. SameOnTable base s.kept a.file old.from) [
          | inl left ↦ rests old.from left
          | inr same ↦ subst (SameOnTable base s.kept a.file) (sym same) (same_itself base s.kept a.file)
        ]

    pub left_either : RestsOnTable base s.kept a → Leaves a d (OpensToKeptOrNow classes s a.file)
    left_either rests = Leaves-weaken (OpensToKeptOrNow classes s a.file) (either_image rests)
        (left.images over.table has (omega (arith, fresh)) (λ image is. record {
          long = omega (arith, over.same_length, (rests image is).same_length);
          bytes = (rests image is).below;
        }))

    pub content_either : OpensToKeptOrNow classes s a.file d.file
    content_either = record {
      same_length = sym left.data_part.same_length;
      opens = elim (left.old_or_new over.table has (omega (arith, fresh))) [
        | inl keeps ↦ inl (record {
          table = over.table;
          opens = kept_opens s h a.file over a.file d.file (same_itself base s.kept a.file) keeps.read
              left.data_part;
        })
        | inr saved ↦ inr (record {
          table = table_now s;
          opens = now_opens s h a.file over records same_table d.file (as_counted d.file saved.read)
              left.data_part;
        })
      ];
      sequence = elim (left.old_or_new over.table has (omega (arith, fresh))) [
        | inl keeps ↦ old_sequence d.file keeps.read
        | inr saved ↦ new_sequence d.file (as_counted d.file saved.read).slot
      ];
    }

  -- ---- what a keep does

  calls_of_names : {A E : Type 0} {a d : disk.State} (result : Result A E)
      → Calls (save_calls (length records)) a d result → Calls (save_calls (fin.len s.now)) a d result
  calls_of_names {A} {E} {a} {d} result =
      subst (λ (n : ℕ). Calls (save_calls n) a d result) (count ∙ length-records_of s.now h.now.named)

  module _ {before : List Record} {a d : disk.State} (over : IsTrue a.tells → IsOver classes s a.file)
      (left : IsTrue a.tells → PlainSaveLeaves s.in_use (header_now s) before records a d)
      (frame : KeepsDisk a d)
    where
      pub keeps_saved : (answer : Done) (new : StoreValue) → new ≡ kept_now s
          → (IsTrue a.tells → IsSaved (table_now s).chosen records d.file)
          → (IsTrue a.tells → Rests d)
          → Calls {E = Refusal} (save_calls (length records)) a d (Ok answer)
          → KeepsNow classes s new a d (Ok answer)
      keeps_saved answer new is saved rests calls = record {
        value = is;
        failed = tt;
        saved = λ told. record {
          table = table_now s;
          opens = now_opens s h a.file (over told) records same_table d.file (saved told)
              (left told).data_part;
        };
        content = λ told. content_either (over told) (left told);
        left = λ told on_table. left_either (over told) (left told) on_table;
        rests = rests;
        on_table = λ told image is_left. subst (SameOnTable (base_of new) new.kept d.file)
            (sym (rests told image is_left))
            (same_itself (base_of new) new.kept d.file);
        calls = calls_of_names (Ok answer) calls;
        frame = frame;
      }

      pub keeps_failed : (refused : Refusal) (new : StoreValue) → new ≡ record s { is_broken = true }
          → Calls {T = Done} (save_calls (length records)) a d (Err refused)
          → KeepsNow classes s new a d (Err refused)
      keeps_failed refused new is calls = record {
        value = tt;
        failed = is;
        saved = λ told. tt;
        content = λ told. content_either (over told) (left told);
        left = λ told on_table. left_either (over told) (left told) on_table;
        rests = λ told. tt;
        on_table = λ told. tt;
        calls = calls_of_names (Err refused) calls;
        frame = frame;
      }

-- ---- the fields

module _ {C : ℕ} (s : Inside C) (whole : IsWhole s) (table : Extents) (guard : Freed) (slots : Slots)
    (buf : Vec ℕ) (same_slots : used_in slots ≡ next_in_use (used_in s.hands.slots))
    (now : table.now ≡ s.hands.table.now)
    (kept : table.kept ≡ s.hands.table.now) (digests : table.digests ≡ s.hands.table.digests)
    (kept_digests : table.kept_digests ≡ s.hands.table.digests) where
  abbrev kept_inside : Inside C
  kept_inside = record s {
    hands = record s.hands { table = table; guard = guard; slots = slots; buf = buf };
    kept_layout = s.hands.layout;
  }

  pub kept_view : kept_of kept_inside ≡ kept_now (kept_of s)
  kept_view = λ i. record (kept_of s) {
    in_use = same_slots i;
    now = now i;
    kept = kept i;
    book = digested_book C (same_slots i).block.k (caps_of s.hands.layout) (grid_of s.hands.layout) (now i)
        (digests_seen s.hands.version (digests i));
    kept_book = digested_book C (same_slots i).block.k (caps_of s.hands.layout) (grid_of s.hands.layout)
        (kept i) (digests_seen s.hands.version (kept_digests i));
  }

  pub kept_whole : IsTable table → has_logs slots ≡ false → table.names ≡ s.hands.table.names → table.cap
      ≡ s.hands.table.cap
      → guard.spans ≡ []
      → guard.room ≡ s.hands.guard.room → vec_len buf ≡ 65536 → IsWhole kept_inside
  kept_whole is_table plain names cap spans room full =
      let names_stay : (used_in slots).block.names ≡ (used_in s.hands.slots).block.names =
      ap (λ (u : choice.InUse). u.block.names) same_slots in
      let k_stays : (used_in slots).block.k ≡ (used_in s.hands.slots).block.k =
      ap (λ (u : choice.InUse). u.block.k) same_slots in
      record {
        classes = whole.classes;
        wide = whole.wide;
        plain = plain;
        version = whole.version;
        base = whole.base ∙ ap head_len (sym names_stay);
        few = omega (arith, whole.few, names_stay);
        buf = full;
        divisor = whole.divisor ∙ sym k_stays;
        kept_divisor = whole.divisor ∙ sym k_stays;
        kept_caps = refl;
        room = names ∙ whole.room ∙ sym names_stay;
        cap = cap ∙ whole.cap ∙ ap (λ n. cap_of n s.hands.version) (sym names_stay);
        guard_room = room ∙ whole.guard_room ∙ sym names_stay;
        table = λ sound. is_table;
        sound = λ sound. subst (IsStore C) (sym kept_view) (store_kept (kept_of s) (whole.sound sound));
        freed = λ sound. subst (λ xs. IsFreed xs table.now table.kept) (sym spans)
            (subst (λ x. IsFreed [] x table.kept) (kept ∙ sym now) (freed_nothing table.kept));
      }

-- ---- what contracts see

-- What holds of the fields and of the header that was saved, holds of what contracts see and of its header.
seen : {C : ℕ} (P : StoreValue → Header → Type 0) (s : Inside C) (t : StoreValue) → kept_of s ≡ t
    → (h : Header)
    → h ≡ header_now (kept_of s) → P (kept_of s) h → P t (header_now t)
seen P s t is h same p = subst (λ x. P x (header_now x)) is (subst (P (kept_of s)) same p)

-- the header that is saved is that of the book's version
pub header_is : {C : ℕ} (s : Inside C) → IsWhole s → (h : Header)
    → h ≡ in_version s.hands.version (settled_header (caps_of s.hands.layout) (grid_of s.hands.layout))
    → h ≡ header_now (kept_of s)
header_is s whole h is = is ∙ ap (λ v. in_version v (settled_header (caps_of s.hands.layout)
    (grid_of s.hands.layout))) (sym (version_is s whole))

-- the records of the table, with their digests
abbrev records : {C : ℕ} → Inside C → List Record
records s = rolled s.hands.table.now s.hands.table.digests

-- the table that is saved is that of the book
table_is : {C : ℕ} (s : Inside C) → IsWhole s → IsTable s.hands.table
    → choice.table_with (table_now (kept_of s)).chosen (records s) ≡ table_now (kept_of s)
table_is s whole table =
    let v = version_of (kept_of s).book in
    λ i. record {
      chosen = (table_now (kept_of s)).chosen;
      records = rolled-plain s.hands.table.now s.hands.table.digests i;
      digests = (rolled-seen v s.hands.table table
          ∙ ap (λ n. digests_seen n s.hands.table.digests) (version_is s whole)) i;
    }

module _ {C : ℕ} {before : List Record} (s : Inside C) (t : StoreValue) (is : kept_of s ≡ t)
    (whole : IsWhole s)
    (unbroken : t.is_broken ≡ false) (fresh : t.in_use.sequence < 2 ^ 61) (h : Header)
    (same : h ≡ header_now (kept_of s)) {a d : disk.State} (connected : IsConnected C t a)
    (leaves : IsTrue a.tells → PlainSaveLeaves (used_in s.hands.slots) h before (records s) a d)
    (frame : KeepsDisk a d) where
  store : IsStore C t
  store = (opened s t is whole unbroken).store

  same_table : choice.table_with (table_now t).chosen (records s) ≡ table_now t
  same_table = subst (λ x. choice.table_with (table_now x).chosen (records s) ≡ table_now x) is
      (table_is s whole (whole.table (ap (λ (x : StoreValue). x.is_broken) is ∙ unbroken)))

  count : length (records s) ≡ length (records_of t.now)
  count = rolled_count s.hands.table.now s.hands.table.digests
      ∙ ap (λ (x : StoreValue). length (records_of x.now)) is

  left_seen : IsTrue a.tells → PlainSaveLeaves t.in_use (header_now t) before (records s) a d
  left_seen told = seen (λ x h. PlainSaveLeaves x.in_use h before (records s) a d) s t is h same (leaves told)

  pub keep_failed : (refused : Refusal) (new : StoreValue) → new ≡ record (kept_of s) { is_broken = true }
      → Calls {T = Done} (save_calls (length (records s))) a d (Err refused)
      → KeepsNow C t new a d (Err refused)
  keep_failed refused new new_is calls = keeps_failed t store fresh (records s) same_table count
      (connected.over unbroken) left_seen frame
      refused new (new_is ∙ ap (λ (x : StoreValue). record x { is_broken = true }) is) calls

  module _ (saved : IsTrue a.tells → (used_in s.hands.slots).sequence + 1 < worn_from h.kind
      → IsSaved (next_chosen (used_in s.hands.slots) h (length (records s))) (records s) d.file)
      (in_use : IsTrue a.tells → choice.slot_in_use d.file ≡ Ok (next_in_use (used_in s.hands.slots)))
      (new : StoreValue)
      (new_is : new ≡ kept_now (kept_of s)) where
    saved_seen : IsTrue a.tells → IsSaved (table_now t).chosen (records s) d.file
    saved_seen told = subst (λ n. IsSaved (next_chosen t.in_use (header_now t) n) (records s) d.file) count
        (seen (λ x h. x.in_use.sequence + 1 < worn_from h.kind
        → IsSaved (next_chosen x.in_use h (length (records s))) (records s) d.file) s t is h same
        (saved told) (omega (arith, fresh)))

    new_seen : new ≡ kept_now t
    new_seen = new_is ∙ ap kept_now is

    pub keep_done : (answer : Done) → (IsTrue a.tells → Rests d)
        → Calls {E = Refusal} (save_calls (length (records s))) a d (Ok answer)
        → KeepsNow C t new a d (Ok answer)
    keep_done answer rests calls = keeps_saved t store fresh (records s) same_table count
        (connected.over unbroken) left_seen frame answer new new_seen saved_seen rests calls

    pub keep_step : IsTrue a.tells
        → Step (limits_of t) (state_of t a.file) ask.keep ask.kept (state_of new d.file)
    keep_step told = subst (λ (x : StoreValue). Step (limits_of t) (state_of t a.file) ask.keep ask.kept
        (state_of x d.file)) (sym new_seen)
        (step_kept t store a.file (connected.over unbroken told) (records s) same_table d.file
        (saved_seen told)
        (left_seen told).data_part fresh)

    pub keep_over : IsTrue d.tells → IsOver C new d.file
    keep_over told =
        let first = subst IsTrue frame.stays.told told in
        subst (λ (x : StoreValue). IsOver C x d.file) (sym new_seen)
        (over_kept t store a.file (connected.over unbroken first) (records s) same_table d.file
        (saved_seen first)
        (left_seen first).data_part (in_use first ∙ ap (λ (x : StoreValue). Ok (next_in_use x.in_use)) is))
