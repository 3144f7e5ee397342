-- What an upgrade does to the disk and to what a crash may leave, and the fields of the store after it.
use Rattle.std.specs.Prelude.{◌≡◌, ◌≢◌, ◌==◌, ℕ, ◌+◌, ◌<◌, ◌≤◌, ◌^◌, true, false, List, [], length, Some, Result, Ok, Err, IsTrue, OnErr, OnOk, vec_len, refl}
use Rattle.std.proofs.Common.{arith, ap, sym, ◌∙◌, subst, inl}
use Rattle.std.specs.FinMap as fin
use Rattle.std.specs.Global.{Vec}
use Rattle.std.specs.Result.{is_err}
use Rattle.disk_face.specs.States as disk
use Rattle.disk_face.specs.Counts.{HasCause, Rose, counted, last}
use Rattle.disk_face.specs.Frames.{Calls, Unchanged}
use Rattle.disk_face.specs.Moments.{Leaves, Rests}
use Rattle.disk_face.specs.Writes.{KeepsDisk}
use Rattle.disk_face.proofs.FrameLaws.{Stays-trans}
use Rattle.disk_face.proofs.MomentLaws.{Leaves-trans, Leaves-weaken}
use Rattle.size_class.specs.declared.TheConstants.{SIZE_MAX}
use Rattle.held_guard.specs.Freed.{Freed}
use Rattle.slot_codec.specs.Choice as choice
use Rattle.slot_codec.specs.Choice.{Digests}
use Rattle.slot_codec.specs.Reading.{worn_from}
use Rattle.slot_codec.specs.Spelling.{cap as cap_of, head_len}
use Rattle.slot_codec.specs.declared.codec.Header.{Header}
use Rattle.slot_codec.specs.declared.codec.Record.{Record}
use Rattle.slot_pair.specs.Saves.{IsSaved, next_chosen, next_in_use, save_calls}
use Rattle.logged_pair.specs.Slots.{has_logs, used_in}
use Rattle.logged_pair.specs.declared.slots.Slots.{Slots}
use Rattle.logged_pair.proofs.PlainSlots.{PlainSaveLeaves}
use Rattle.segment_layout.specs.Books.{Book, version_of, with_digests}
use Rattle.segment_layout.specs.Layouts.{caps_of, grid_of}
use Rattle.table_rules.specs.Opening.{Opens}
use Rattle.extent_table.specs.Extents.{Extents, IsTable, digests_seen, records_of, rolled}
use Rattle.extent_table.proofs.RollLaws.{rolled-plain, rolled-seen}
use Rattle.flush_run.proofs.RolledLaws.{rolled_count}
use Rattle.placement_model.specs.Held.{IsFreed}
use Rattle.placement_model.specs.Laid.{in_version, settled_header}
use Rattle.placement_model.proofs.GuardLaws.{freed_nothing}
use Rattle.store_model.specs.Connection.{IsOver, RestsOnTable, SameOnTable, StoreValue, base_of}
use Rattle.store_model.specs.Digested.{digested_book}
use Rattle.store_model.specs.Stores.{IsStore}
use Rattle.store_model.proofs.DigestLaws.{is_one}
use Rattle.store_model.proofs.OverLaws.{kept_image, same_itself}
use Rattle.store_model.specs.declared.answers.Refusal.{Refusal}
use Rattle.store_model.specs.declared.answers.Refusal.TheVariants as why
use Rattle.store_model.specs.declared.answers.Done.{Done}
use Rattle.store_model.specs.Inside.{Inside, IsWhole, kept_of}
use Rattle.store_model.specs.Keeps.{KeepsNow, OpensToKeptOrNow, kept_now, now_map}
use Rattle.store_model.specs.Upgrades.{Upgrades, digests_now, upgraded, upgraded_book}
use Rattle.store_model.proofs.InsideLaws.{version_is}
use Rattle.store_model.proofs.KeepEffectLaws.{keeps_failed, keeps_saved}
use Rattle.store_model.proofs.KeepLaws.{header_now, over_kept, store_kept, table_now}

-- ---- the store with digests

module _ {classes : ℕ} (s : StoreValue) (h : IsStore classes s) (ds : Digests) where
  pub upgraded_sound : fin.len s.now ≤ cap_of s.in_use.block.names 2 → IsStore classes (upgraded s ds)
  upgraded_sound few = record {
    block = h.block;
    now = h.now;
    now_book = ap (λ (b : Book). with_digests (Some ds) b) h.now_book;
    now_few = few;
    now_in_range = h.now_in_range;
    kept = h.kept;
    kept_book = h.kept_book;
    kept_few = h.kept_few;
    kept_in_range = h.kept_in_range;
    fuller = h.fuller;
  }

pub upgraded_over : {classes : ℕ} (s : StoreValue) (ds : Digests) (file : List ℕ) → IsOver classes s file
    → IsOver classes (upgraded s ds) file
upgraded_over s ds file over = record {
  table = over.table;
  checkpoint = record {
    slot = over.checkpoint.slot;
    records = over.checkpoint.records;
    opens = over.checkpoint.opens;
  };
  same_length = over.same_length;
}

-- ---- what the reads answered

pub if_read : {P : Type 0} (r : Result (Unit {0}) Refusal) → false ≡ is_err r → OnOk r P → P
if_read (Ok x) is p = p
if_read (Err refused) is p = absurd (cc)

pub if_unread : (r : Result (Unit {0}) Refusal) → true ≡ is_err r → OnErr r (r ≡ Err why.Disk)
    → r ≡ Err why.Disk
if_unread (Ok x) is e = absurd (cc)
if_unread (Err refused) is e = e

pub no_fault : (r : Result (Unit {0}) Refusal) (refused : Refusal) → false ≡ is_err r → r ≢ Err refused
no_fault (Ok x) refused is e = absurd (cc)
no_fault (Err why) refused is e = absurd (cc)

-- ---- reads, and then a save

module _ {classes : ℕ} (s : StoreValue) (h : IsStore classes s) {a b : disk.State} (frame : Unchanged a b)
    (over : IsTrue a.tells → IsOver classes s a.file) where
  told_then : IsTrue a.tells → IsTrue b.tells
  told_then told = subst IsTrue (sym frame.stays.told) told

  -- what a crash might leave before
  image_before : (ds : Digests) → IsTrue a.tells → (image : List ℕ)
      → SameOnTable (base_of s) s.kept a.file image → OpensToKeptOrNow classes (upgraded s ds) a.file image
  image_before ds told image same =
      let k = kept_image s h a.file (over told) image same in
      record {
        same_length = k.same.same_length;
        opens = inl k.opens;
        sequence = λ t read. omega (arith, k.sequence t read);
      }

  left_before : (ds : Digests) → IsTrue a.tells → RestsOnTable (base_of s) s.kept a
      → Leaves a b (OpensToKeptOrNow classes (upgraded s ds) a.file)
  left_before ds told rests = Leaves-weaken (OpensToKeptOrNow classes (upgraded s ds) a.file)
      (λ image was. image_before ds told image (rests image was)) frame.since

  -- where a read failed
  pub upgrade_unread : (n : ℕ) (refused : Refusal) (new : StoreValue) → a.turn ≤ last
      → Rose a.faults b.faults → new ≡ record s { is_broken = true } → n ≡ save_calls (fin.len s.now)
      → Upgrades classes s new a b (Err refused)
  upgrade_unread n refused new fits rose is many = record {
    value = tt;
    digests = λ told. tt;
    failed = is;
    saved = λ told. tt;
    content = λ told. image_before (digests_now s a.file) told b.file
        (subst (SameOnTable (base_of s) s.kept a.file) (sym (frame.same_file told))
        (same_itself (base_of s) s.kept a.file));
    left = λ told rests. left_before (digests_now s a.file) told rests;
    rests = λ told. tt;
    on_table = λ told. tt;
    calls = record {
      all = tt;
      most = omega (arith, frame.same_turn, fits);
      cause = record { later = frame.later; rose = rose; calm = tt };
    };
    frame = record { no_turn_back = omega (arith, frame.same_turn); stays = frame.stays };
  }

  module _ (ds : Digests) (own : IsTrue a.tells → ds ≡ digests_now s a.file) (calm : b.faults ≡ a.faults)
      {d : disk.State} (result : Result Done Refusal) (new : StoreValue)
      (keeps : KeepsNow classes (upgraded s ds) new b d result) where
    pub upgrade_content : IsTrue a.tells
        → OpensToKeptOrNow classes (upgraded s (digests_now s a.file)) a.file d.file
    upgrade_content told = subst (λ z. OpensToKeptOrNow classes (upgraded s z) a.file d.file) (own told)
        (subst (λ f. OpensToKeptOrNow classes (upgraded s ds) f d.file) (frame.same_file told)
        (keeps.content (told_then told)))

    pub upgrade_left : IsTrue a.tells → RestsOnTable (base_of s) s.kept a
        → Leaves a d (OpensToKeptOrNow classes (upgraded s (digests_now s a.file)) a.file)
    upgrade_left told rests =
        let there : RestsOnTable (base_of s) s.kept b = λ image is.
        subst (λ f. SameOnTable (base_of s) s.kept f image) (sym (frame.same_file told))
        (rests image (frame.images image is)) in
        subst (λ z. Leaves a d (OpensToKeptOrNow classes (upgraded s z) a.file)) (own told)
        (Leaves-trans (left_before ds told rests)
        (subst (λ f. Leaves b d (OpensToKeptOrNow classes (upgraded s ds) f)) (frame.same_file told)
        (keeps.left (told_then told) there)))

    pub upgrade_calls : Calls (save_calls (fin.len s.now)) a d result
    upgrade_calls =
        let n = save_calls (fin.len s.now) in
        record {
          all = subst (λ t. OnOk result (d.turn ≡ counted t n)) frame.same_turn keeps.calls.all;
          most = omega (arith, keeps.calls.most, frame.same_turn);
          cause = subst (λ f. HasCause f d.faults result) calm keeps.calls.cause;
        }

    pub upgrade_frame : KeepsDisk a d
    upgrade_frame = record {
      no_turn_back = omega (arith, keeps.frame.no_turn_back, frame.same_turn);
      stays = Stays-trans frame.stays keeps.frame.stays;
    }

  -- where a checkpoint was saved, and where it wasn't
  module _ (ds : Digests) (own : IsTrue a.tells → ds ≡ digests_now s a.file) (calm : b.faults ≡ a.faults)
      {d : disk.State} (new : StoreValue) where
    pub upgrade_saved : (answer : Done) → KeepsNow classes (upgraded s ds) new b d (Ok answer)
        → Upgrades classes s new a d (Ok answer)
    upgrade_saved answer keeps = record {
      value = (ds, keeps.value);
      digests = λ told. ap (λ (x : StoreValue). x.book) keeps.value ∙ ap (upgraded_book s) (own told);
      failed = tt;
      saved = λ told. subst (λ z. Opens classes SIZE_MAX d.file (now_map s a.file) (upgraded_book s z))
          (own told)
          (subst (λ f. Opens classes SIZE_MAX d.file (now_map s f) (upgraded_book s ds))
          (frame.same_file told) (keeps.saved (told_then told)));
      content = upgrade_content ds own calm (Ok answer) new keeps;
      left = upgrade_left ds own calm (Ok answer) new keeps;
      rests = λ told. keeps.rests (told_then told);
      on_table = λ told. keeps.on_table (told_then told);
      calls = upgrade_calls ds own calm (Ok answer) new keeps;
      frame = upgrade_frame ds own calm (Ok answer) new keeps;
    }

    pub upgrade_failed : (refused : Refusal) → new ≡ record s { is_broken = true }
        → KeepsNow classes (upgraded s ds) (record (upgraded s ds) { is_broken = true }) b d (Err refused)
        → Upgrades classes s new a d (Err refused)
    upgrade_failed refused is keeps =
        let broken = record (upgraded s ds) { is_broken = true } in
        record {
          value = tt;
          digests = λ told. tt;
          failed = is;
          saved = λ told. tt;
          content = upgrade_content ds own calm (Err refused) broken keeps;
          left = upgrade_left ds own calm (Err refused) broken keeps;
          rests = λ told. tt;
          on_table = λ told. tt;
          calls = upgrade_calls ds own calm (Err refused) broken keeps;
          frame = upgrade_frame ds own calm (Err refused) broken keeps;
        }

-- ---- the fields, once each name has a digest that no table of version 1 shows

module _ {C : ℕ} (s : Inside C) (whole : IsWhole s) (plain : (version_of (kept_of s).book == 2) ≡ false)
    (table : Extents) (only : table ≡ record s.hands.table { digests = table.digests }) (buf : Vec ℕ) where
  abbrev pub renewed_inside : Inside C
  renewed_inside = record s { hands = record s.hands { table = table; buf = buf } }

  version_one : s.hands.version ≡ 1
  version_one = is_one s.hands.version whole.version (ap (λ v. v == 2) (sym (version_is s whole)) ∙ plain)

  unseen : digests_seen s.hands.version table.digests ≡ digests_seen s.hands.version s.hands.table.digests
  unseen = ap (λ v. digests_seen v table.digests) version_one
      ∙ sym (ap (λ v. digests_seen v s.hands.table.digests) version_one)

  pub renewed_view : kept_of renewed_inside ≡ kept_of s
  renewed_view = λ i. record (kept_of s) {
    now = (only i).now;
    kept = (only i).kept;
    book = digested_book C (used_in s.hands.slots).block.k (caps_of s.hands.layout) (grid_of s.hands.layout)
        (only i).now (unseen i);
    kept_book = digested_book C (used_in s.hands.slots).block.k (caps_of s.hands.layout)
        (grid_of s.kept_layout)
        (only i).kept (digests_seen s.hands.version (only i).kept_digests);
  }

  pub renewed_whole : IsTable table → vec_len buf ≡ 65536 → IsWhole renewed_inside
  renewed_whole is_table full = record {
    classes = whole.classes;
    wide = whole.wide;
    plain = whole.plain;
    version = whole.version;
    base = whole.base;
    few = whole.few;
    buf = full;
    divisor = whole.divisor;
    kept_divisor = whole.kept_divisor;
    kept_caps = whole.kept_caps;
    room = ap (λ (e : Extents). e.names) only ∙ whole.room;
    cap = ap (λ (e : Extents). e.cap) only ∙ whole.cap;
    guard_room = whole.guard_room;
    table = λ unbroken. is_table;
    sound = λ unbroken. subst (IsStore C) (sym renewed_view) (whole.sound unbroken);
    freed = λ unbroken. subst (λ (e : Extents). IsFreed s.hands.guard.spans e.now e.kept) (sym only)
        (whole.freed unbroken);
  }

-- ---- a save of them in version 2

module _ {C : ℕ} (s : Inside C) (store : IsStore C (kept_of s)) (table : IsTable s.hands.table)
    (few : fin.len s.hands.table.now ≤ cap_of (used_in s.hands.slots).block.names 2)
    (fresh : (used_in s.hands.slots).sequence < 2 ^ 61) where
  abbrev records : List Record
  records = rolled s.hands.table.now s.hands.table.digests

  abbrev pub digested : StoreValue
  digested = upgraded (kept_of s) s.hands.table.digests

  sound : IsStore C digested
  sound = upgraded_sound (kept_of s) store s.hands.table.digests few

  same_table : choice.table_with (table_now digested).chosen records ≡ table_now digested
  same_table = λ i. record {
    chosen = (table_now digested).chosen;
    records = rolled-plain s.hands.table.now s.hands.table.digests i;
    digests = rolled-seen 2 s.hands.table table i;
  }

  count : length records ≡ length (records_of s.hands.table.now)
  count = rolled_count s.hands.table.now s.hands.table.digests

  module _ (h : Header)
      (same : h ≡ in_version 2 (settled_header (caps_of s.hands.layout) (grid_of s.hands.layout)))
      {before : List Record} {b d : disk.State} (over : IsTrue b.tells → IsOver C (kept_of s) b.file)
      (leaves : IsTrue b.tells → PlainSaveLeaves (used_in s.hands.slots) h before records b d)
      (frame : KeepsDisk b d) where
    over_digested : IsTrue b.tells → IsOver C digested b.file
    over_digested told = upgraded_over (kept_of s) s.hands.table.digests b.file (over told)

    left : IsTrue b.tells → PlainSaveLeaves digested.in_use (header_now digested) before records b d
    left told = subst (λ x. PlainSaveLeaves (used_in s.hands.slots) x before records b d) same (leaves told)

    pub save_failed : (refused : Refusal) → Calls {T = Done} (save_calls (length records)) b d (Err refused)
        → KeepsNow C digested (record digested { is_broken = true }) b d (Err refused)
    save_failed refused calls = keeps_failed digested sound fresh records same_table count over_digested left
        frame refused (record digested { is_broken = true }) refl calls

    module _ (saved : IsTrue b.tells → (used_in s.hands.slots).sequence + 1 < worn_from h.kind
        → IsSaved (next_chosen (used_in s.hands.slots) h (length records)) records d.file)
        (in_use : IsTrue b.tells → choice.slot_in_use d.file ≡ Ok (next_in_use (used_in s.hands.slots)))
        (new : StoreValue) (new_is : new ≡ kept_now digested) where
      saved_now : IsTrue b.tells → IsSaved (table_now digested).chosen records d.file
      saved_now told = subst (λ n. IsSaved (next_chosen digested.in_use (header_now digested) n) records
          d.file) count
          (subst (λ x. (used_in s.hands.slots).sequence + 1 < worn_from x.kind
          → IsSaved (next_chosen (used_in s.hands.slots) x (length records)) records d.file) same (saved told)
          (omega (arith, fresh)))

      pub save_done : (answer : Done) → (IsTrue b.tells → Rests d)
          → Calls {E = Refusal} (save_calls (length records)) b d (Ok answer)
          → KeepsNow C digested new b d (Ok answer)
      save_done answer rests calls = keeps_saved digested sound fresh records same_table count over_digested
          left frame answer new new_is saved_now rests calls

      pub save_over : IsTrue d.tells → IsOver C new d.file
      save_over told =
          let first = subst IsTrue frame.stays.told told in
          subst (λ (x : StoreValue). IsOver C x d.file) (sym new_is)
          (over_kept digested sound b.file (over_digested first) records same_table d.file (saved_now first)
          (left first).data_part (in_use first))

  -- ---- and the fields after it

  module _ (next : Extents) (guard : Freed) (slots : Slots) (buf : Vec ℕ)
      (same_slots : used_in slots ≡ next_in_use (used_in s.hands.slots)) (now : next.now ≡ s.hands.table.now)
      (kept : next.kept ≡ s.hands.table.now) (digests : next.digests ≡ s.hands.table.digests)
      (kept_digests : next.kept_digests ≡ s.hands.table.digests) where
    abbrev pub upgraded_inside : Inside C
    upgraded_inside = record s {
      hands = record s.hands { table = next; guard = guard; slots = slots; buf = buf; version = 2 };
      kept_layout = s.hands.layout;
    }

    pub upgraded_view : kept_of upgraded_inside ≡ kept_now digested
    upgraded_view = λ i. record (kept_of s) {
      in_use = same_slots i;
      now = now i;
      kept = kept i;
      book = digested_book C (same_slots i).block.k (caps_of s.hands.layout) (grid_of s.hands.layout) (now i)
          (Some (digests i));
      kept_book = digested_book C (same_slots i).block.k (caps_of s.hands.layout) (grid_of s.hands.layout)
          (kept i) (Some (kept_digests i));
    }

    pub upgraded_whole : IsWhole s → has_logs slots ≡ false → IsTable next → next.names ≡ s.hands.table.names
        → next.cap ≡ cap_of (used_in s.hands.slots).block.names 2 → guard.spans ≡ []
        → guard.room ≡ s.hands.guard.room → vec_len buf ≡ 65536 → IsWhole upgraded_inside
    upgraded_whole whole plain is_table names cap spans room full =
        let names_stay : (used_in slots).block.names ≡ (used_in s.hands.slots).block.names =
        ap (λ (u : choice.InUse). u.block.names) same_slots in
        let k_stays : (used_in slots).block.k ≡ (used_in s.hands.slots).block.k =
        ap (λ (u : choice.InUse). u.block.k) same_slots in
        record {
          classes = whole.classes;
          wide = whole.wide;
          plain = plain;
          version = refl;
          base = whole.base ∙ ap head_len (sym names_stay);
          few = omega (arith, whole.few, names_stay);
          buf = full;
          divisor = whole.divisor ∙ sym k_stays;
          kept_divisor = whole.divisor ∙ sym k_stays;
          kept_caps = refl;
          room = names ∙ whole.room ∙ sym names_stay;
          cap = cap ∙ ap (λ n. cap_of n 2) (sym names_stay);
          guard_room = room ∙ whole.guard_room ∙ sym names_stay;
          table = λ unbroken. is_table;
          sound = λ unbroken. subst (IsStore C) (sym upgraded_view) (store_kept digested sound);
          freed = λ unbroken. subst (λ xs. IsFreed xs next.now next.kept) (sym spans)
              (subst (λ x. IsFreed [] x next.kept) (kept ∙ sym now) (freed_nothing next.kept));
        }
