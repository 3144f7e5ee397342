-- What an upgrade answers, as contracts see the store before and after it.
use Rattle.std.specs.Prelude.{◌≡◌, ◌==◌, ℕ, ◌+◌, ◌<◌, ◌≤◌, ◌^◌, true, false, List, length, Result, Ok, Err, IsTrue, OnErr, OnOk, Option, vec_len, [], refl}
use Rattle.std.proofs.Common.{arith, ap, sym, ◌∙◌, subst}
use Rattle.std.specs.FinMap as fin
use Rattle.std.specs.Global.{Vec}
use Rattle.std.specs.Result.{is_err}
use Rattle.disk_face.specs.States as disk
use Rattle.disk_face.specs.Counts.{Rose, last}
use Rattle.disk_face.specs.Frames.{Calls, Unchanged}
use Rattle.disk_face.specs.Moments.{Rests}
use Rattle.disk_face.specs.Writes.{KeepsDisk}
use Rattle.held_guard.specs.Freed.{Freed}
use Rattle.slot_codec.specs.Choice as choice
use Rattle.slot_codec.specs.Reading.{is_version, all_in_range, worn_from}
use Rattle.slot_codec.specs.Spelling.{cap as cap_of}
use Rattle.slot_codec.specs.declared.codec.Header.{Header}
use Rattle.slot_codec.specs.declared.codec.Record.{Record}
use Rattle.slot_pair.specs.Saves.{CanSave, IsSaved, next_chosen, next_in_use, save_calls}
use Rattle.logged_pair.specs.Slots.{has_logs, used_in}
use Rattle.logged_pair.specs.declared.slots.Slots.{Slots}
use Rattle.logged_pair.proofs.PlainSlots.{PlainSaveLeaves}
use Rattle.segment_layout.specs.Books.{digests_of, version_of}
use Rattle.segment_layout.specs.Layouts.{caps_of, grid_of}
use Rattle.extent_table.specs.Extents.{Extents, IsTable, Spots, digests_seen, rolled}
use Rattle.extent_table.proofs.SaveLaws.{rolled_in_range}
use Rattle.flush_run.specs.declared.phase.Phase.{Phase}
use Rattle.flush_run.proofs.RolledLaws.{rolled_count}
use Rattle.placement_model.specs.Laid.{in_version, settled_header}
use Rattle.placement_model.specs.Reads.{EndWithin, read_at}
use Rattle.store_model.specs.Connection.{IsConnected, IsOver, StoreValue, base_of}
use Rattle.store_model.specs.Digested.{digested_book}
use Rattle.store_model.specs.Stores.{IsStore}
use Rattle.store_model.proofs.StoreLaws.{now_lies}
use Rattle.store_model.specs.declared.answers.Done.{Done}
use Rattle.store_model.specs.declared.answers.Refusal.{Refusal}
use Rattle.store_model.specs.declared.answers.Refusal.TheVariants as why
use Rattle.store_model.specs.Inside.{Inside, IsWhole, kept_of}
use Rattle.store_model.specs.Keeps.{KeepsNow, kept_now}
use Rattle.store_model.specs.Upgrades.{Upgrades, digests_now, upgraded}
use Rattle.store_model.proofs.InsideLaws.{AtRest, IsOpened, opened}
use Rattle.store_model.proofs.KeepLaws.{length-records_of}
use Rattle.store_model.proofs.UpgradeLaws.{if_read, if_unread, no_fault, renewed_inside, renewed_view, renewed_whole, save_done, save_failed, save_over, upgrade_failed, upgrade_saved, upgrade_unread, upgraded_inside, upgraded_view, upgraded_whole}

-- A store at rest that isn't refused, over its file.
pub record Upgradable {C : ℕ} (s : Inside C) (t : StoreValue) (a : disk.State) : Type 0 where
  pub view : kept_of s ≡ t
  pub whole : IsWhole s
  pub over : IsConnected C t a
  pub unbroken : t.is_broken ≡ false
  pub plain : (version_of t.book == 2) ≡ false
  pub few : fin.len t.now ≤ cap_of t.in_use.block.names 2
  pub fresh : t.in_use.sequence < 2 ^ 61

pub upgradable : {C : ℕ} {flush : Option (Phase C)} {s : Inside C} {t : StoreValue} {a : disk.State}
    → AtRest flush s t → IsConnected C t a → t.is_broken ≡ false → (version_of t.book == 2) ≡ false
    → fin.len t.now ≤ cap_of t.in_use.block.names 2 → t.in_use.sequence < 2 ^ 61 → Upgradable s t a
upgradable r over unbroken plain few fresh = record {
  view = r.view;
  whole = r.whole;
  over = over;
  unbroken = unbroken;
  plain = plain;
  few = few;
  fresh = fresh;
}

-- A checkpoint was saved.
pub record UpgradeDone (C : ℕ) (t t2 : StoreValue) (a d : disk.State) (answer : Done) : Type 0 where
  pub upgrades : Upgrades C t t2 a d (Ok answer)
  pub over : IsConnected C t2 d
  pub broken : t2.is_broken ≡ false

module _ {C : ℕ} {s : Inside C} {t : StoreValue} {a : disk.State} (u : Upgradable s t a) where
  pub parts : IsOpened s t
  parts = opened s t u.view u.whole u.unbroken

  pub plain_here : (version_of (kept_of s).book == 2) ≡ false
  plain_here = ap (λ (x : StoreValue). version_of x.book == 2) u.view ∙ u.plain

  pub upgrade_within : IsTrue a.tells → EndWithin s.hands.base a.file s.hands.table.now
  upgrade_within told = subst (λ n. EndWithin n a.file s.hands.table.now) (sym parts.base)
      (subst (λ (x : Spots). EndWithin (base_of t) a.file x) (sym parts.now)
      (now_lies t a.file parts.store (u.over.over u.unbroken told)))

  -- ---- each name was given a digest, or a read failed

  module _ {b : disk.State} (frame : Unchanged a b) (table : Extents)
      (only : table ≡ record s.hands.table { digests = table.digests }) (is_table : IsTable table)
      (buf : Vec ℕ) where
    abbrev mid : Inside C
    mid = renewed_inside s u.whole plain_here table only buf

    pub mid_is : kept_of mid ≡ t
    mid_is = renewed_view s u.whole plain_here table only buf ∙ u.view

    pub store : IsStore C (kept_of mid)
    store = subst (IsStore C) (sym mid_is) parts.store

    told_first : IsTrue b.tells → IsTrue a.tells
    told_first told = subst IsTrue frame.stays.told told

    pub over_mid : IsTrue b.tells → IsOver C (kept_of mid) b.file
    over_mid told = subst (λ (x : StoreValue). IsOver C x b.file) (sym mid_is)
        (subst (λ (f : List ℕ). IsOver C t f) (sym (frame.same_file (told_first told)))
        (u.over.over u.unbroken (told_first told)))

    pub few_mid : fin.len table.now ≤ cap_of (used_in s.hands.slots).block.names 2
    few_mid = subst (λ (x : StoreValue). fin.len x.now ≤ cap_of x.in_use.block.names 2) (sym mid_is) u.few

    pub fresh_mid : (used_in s.hands.slots).sequence < 2 ^ 61
    fresh_mid = subst (λ (x : StoreValue). x.in_use.sequence < 2 ^ 61) (sym mid_is) u.fresh

    -- a read failed
    pub upgrade_stopped : (result : Result (Unit {0}) Refusal) → true ≡ is_err result
        → OnErr result (result ≡ Err why.Disk) → (result ≡ Err why.Disk → Rose a.faults b.faults)
        → a.turn ≤ last → Upgrades C t (kept_of (record mid { broken = true })) a b (Err why.Disk)
    upgrade_stopped result failed refusal rose fits = upgrade_unread t parts.store frame
        (u.over.over u.unbroken) _ _ _ fits (rose (if_unread result failed refusal))
        (ap (λ (x : StoreValue). record x { is_broken = true }) mid_is) refl

    -- ---- they are saved

    abbrev records : List Record
    records = rolled table.now table.digests

    module _ (h : Header) (header : h ≡ in_version 2 (settled_header (caps_of s.hands.layout)
        (grid_of s.hands.layout))) where
      pub upgrade_can_save : IsTrue (all_in_range h) → CanSave (used_in s.hands.slots) h records
      upgrade_can_save ranges = record {
        fresh = omega (arith, fresh_mid);
        version = subst (λ v. IsTrue (is_version v)) (sym (ap (λ (h : Header). h.version) header)) refl;
        ranges = ranges;
        records = rolled_in_range table is_table;
        count = omega (
          arith,
          rolled_count table.now table.digests,
          length-records_of table.now is_table.now_named,
          few_mid,
          ap (λ (h : Header). cap_of (used_in s.hands.slots).block.names h.version) header,
        );
      }

      module _ (result : Result (Unit {0}) Refusal) (read : false ≡ is_err result)
          (digests : IsTrue a.tells
          → OnOk result (table.digests ≡ digests_of (read_at s.hands.base a.file s.hands.table.now)))
          (calm_unless : (result ≡ Err why.Disk → ⊥) → b.faults ≡ a.faults) {before : List Record}
          {d : disk.State}
          (leaves : IsTrue b.tells → PlainSaveLeaves (used_in s.hands.slots) h before records b d)
          (keeps : KeepsDisk b d) where
        own : IsTrue a.tells → table.digests ≡ digests_now t a.file
        own told = if_read result read (digests told)
            ∙ (λ i. digests_of (read_at (parts.base i) a.file (parts.now i)))

        calm : b.faults ≡ a.faults
        calm = calm_unless (no_fault result why.Disk read)

        -- the save failed
        pub upgrade_unsaved : (slots : Slots) → slots ≡ s.hands.slots → (buf2 : Vec ℕ)
            → Calls {T = Done} {E = Refusal} (save_calls (length records)) b d (Err why.Disk)
            → Upgrades C t (kept_of (record mid {
              hands = record mid.hands { slots = slots; buf = buf2 };
              broken = true;
            })) a d (Err why.Disk)
        upgrade_unsaved slots same buf2 calls = upgrade_failed t parts.store frame
            (u.over.over u.unbroken) table.digests own calm _ why.Disk
            ((λ i. record (kept_of mid) {
              in_use = used_in (same i);
              book = digested_book C (used_in (same i)).block.k (caps_of s.hands.layout)
                  (grid_of s.hands.layout)
                  table.now (digests_seen s.hands.version table.digests);
              kept_book = digested_book C (used_in (same i)).block.k (caps_of s.hands.layout)
                  (grid_of s.kept_layout)
                  table.kept (digests_seen s.hands.version table.kept_digests);
              is_broken = true;
            }) ∙ ap (λ (x : StoreValue). record x { is_broken = true }) mid_is)
            (subst (λ (x : StoreValue). KeepsNow C (upgraded x table.digests)
            (record (upgraded x table.digests) { is_broken = true }) b d (Err why.Disk)) mid_is
            (save_failed mid store is_table few_mid fresh_mid h header over_mid leaves keeps why.Disk calls))

        -- what stands now is the checkpoint
        module _ (next : Extents) (guard : Freed) (slots : Slots) (buf2 : Vec ℕ)
            (same_slots : used_in slots ≡ next_in_use (used_in s.hands.slots)) (now : next.now ≡ table.now)
            (kept : next.kept ≡ table.now) (next_digests : next.digests ≡ table.digests)
            (kept_digests : next.kept_digests ≡ table.digests) where
          abbrev pub upgraded_to : Inside C
          upgraded_to = upgraded_inside mid store is_table few_mid fresh_mid next guard slots buf2 same_slots
              now kept next_digests kept_digests

          view : kept_of upgraded_to ≡ kept_now (upgraded (kept_of mid) table.digests)
          view = upgraded_view mid store is_table few_mid fresh_mid next guard slots buf2 same_slots now kept
              next_digests kept_digests

          pub upgrade_whole : vec_len buf ≡ 65536 → has_logs slots ≡ false → IsTable next → next.names
              ≡ table.names
              → next.cap ≡ cap_of (used_in s.hands.slots).block.names 2 → guard.spans ≡ []
              → guard.room ≡ s.hands.guard.room → vec_len buf2 ≡ 65536 → IsWhole upgraded_to
          upgrade_whole full plain next_table names cap spans room full2 = upgraded_whole mid store is_table
              few_mid
              fresh_mid next guard slots buf2 same_slots now kept next_digests kept_digests
              (renewed_whole s u.whole plain_here table only buf is_table full) plain next_table names cap
              spans
              room full2

          module _ (saved : IsTrue b.tells → (used_in s.hands.slots).sequence + 1 < worn_from h.kind
              → IsSaved (next_chosen (used_in s.hands.slots) h (length records)) records d.file)
              (in_use : IsTrue b.tells → choice.slot_in_use d.file ≡ Ok
              (next_in_use (used_in s.hands.slots))) where
            pub upgrade_done : (answer : Done) → (IsTrue b.tells → Rests d)
                → Calls {E = Refusal} (save_calls (length records)) b d (Ok answer)
                → UpgradeDone C t (kept_of upgraded_to) a d answer
            upgrade_done answer rests calls = record {
              upgrades = upgrade_saved t parts.store frame (u.over.over u.unbroken) table.digests own calm _
                  answer (subst (λ (x : StoreValue). KeepsNow C (upgraded x table.digests)
                  (kept_of upgraded_to) b d (Ok answer)) mid_is
                  (save_done mid store is_table few_mid fresh_mid h header over_mid leaves keeps saved in_use
                  _ view answer rests calls));
              over = record {
                idle = refl;
                over = λ unbroken. save_over mid store is_table few_mid fresh_mid h header over_mid leaves
                    keeps saved in_use _ view;
              };
              broken = ap (λ (x : StoreValue). x.is_broken) mid_is ∙ u.unbroken;
            }
