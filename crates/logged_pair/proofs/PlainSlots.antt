-- Slots that have no logs: what the words of both forms say of them.
use Rattle.std.specs.Prelude.{◌≡◌, ◌⊎◌, ℕ, false, List, length, None, Result, Ok}
use Rattle.std.proofs.Common.{◌∙◌, ap, subst}
use Rattle.disk_face.specs.Frames.{Calls}
use Rattle.disk_face.specs.States.{State}
use Rattle.slot_codec.specs.Changes.{Change}
use Rattle.slot_codec.specs.Choice.{InUse, SlotTable, read_records, records_at, slot_in_use, table_of, table_with}
use Rattle.slot_codec.specs.Spelling.{head_len}
use Rattle.slot_codec.specs.declared.codec.Header.{Header}
use Rattle.slot_codec.specs.declared.codec.Record.{Record}
use Rattle.slot_codec.specs.declared.entry.EntryHead.{EntryHead}
use Rattle.slot_codec.proofs.ChoiceLaws.{table_chosen, table_from}
use Rattle.slot_codec.proofs.StepLaws.{bind_from, bind_ok, from_ok}
use Rattle.slot_pair.specs.Saves.{CanSave, IsSaved, IsSaveDone, KeepsTable, next_chosen, next_in_use, save_calls}
use Rattle.logged_pair.specs.Slots.{AreNextSlots, CanSaveTable, HasTable, IsTableSaved, LeavesAfter, LeavesBefore, TableSaveLeaves, has_logs, next_slots, slots_in, table_calls, used_in}
use Rattle.logged_pair.specs.declared.slots.Slots.{Slots}
use Rattle.logged_pair.specs.declared.slots.Slots.TheVariants as slots

-- a file that keeps the slot in use of another, with its records, has the same table
pub table_kept : (x : SlotTable) (file image : List ℕ) → table_of file ≡ Ok x
    → KeepsTable x.chosen file image → table_of image ≡ Ok x
table_kept x file image read keeps =
    let c = x.chosen in
    let p = table_chosen file x read in
    table_from image c p.1 keeps.same_slot
    (ap (λ text. read_records c.header.version c.header.count text (records_at c) None) keeps.same_records
    ∙ p.2)
    ∙ ap (λ t. Ok t) p.3

pub plain_has : (t : SlotTable) (records : List Record) (file : List ℕ) → table_of file ≡ Ok t
    → HasTable false t records file
plain_has t records file read = record { read = read; log = λ no. cc }

pub plain_can : (s : Slots) (h : Header) (before now : List Record) (changes : List Change)
    → has_logs s ≡ false → CanSave (used_in s) h now → CanSaveTable s h before now changes
plain_can (slots.Plain u) h before now changes plain can = record {
  fresh = can.fresh;
  version = can.version;
  ranges = can.ranges;
  records = can.records;
  count = can.count;
  said = λ no. cc;
}
plain_can (slots.Logged v) h before now changes plain can = absurd (cc)

pub plain_slots_in : (s : Slots) (file : List ℕ) → has_logs s ≡ false
    → slot_in_use file ≡ Ok (used_in s) → slots_in (has_logs s) file ≡ Ok s
plain_slots_in (slots.Plain u) file plain read =
    bind_from (slot_in_use file) (λ x. Ok (slots.Plain x)) u read
plain_slots_in (slots.Logged v) file plain read = absurd (cc)

-- the slots after a save
pub plain_next : (s t : Slots) (head : EntryHead) (count sequence : ℕ) → has_logs s ≡ false
    → AreNextSlots s t head count sequence
    → (used_in t ≡ next_in_use (used_in s)) × (has_logs t ≡ false)
plain_next (slots.Plain u) t head count sequence plain next =
    (ap used_in next.slots, ap has_logs next.slots)
plain_next (slots.Logged v) t head count sequence plain next = absurd (cc)

pub plain_calls : {T E : Type 0} (s : Slots) (head : EntryHead) (count : ℕ) {a b : State}
    {result : Result T E} → has_logs s ≡ false → Calls (table_calls s head count) a b result
    → Calls (save_calls count) a b result
plain_calls (slots.Plain u) head count plain calls = calls
plain_calls (slots.Logged v) head count plain calls = absurd (cc)

-- ---- what a save leaves

abbrev pub PlainSaveLeaves : InUse → Header → List Record → List Record → State → State → Type 0
PlainSaveLeaves u h before now a b =
    TableSaveLeaves (slots.Plain u) (slots.Plain (next_in_use u)) h before now a b

-- the old table or the new one: in a file, and in an image beside a data part
abbrev pub PlainOldOrNew : SlotTable → InUse → Header → List Record → List Record → List ℕ → Type 0
PlainOldOrNew x u h before now file = HasTable false x before file
    ⊎ HasTable false (table_with (next_chosen u h (length now)) now) now file

abbrev pub PlainEither : SlotTable → InUse → Header → List Record → List Record → (List ℕ → Type 0) → List ℕ
    → List ℕ → Type 0
PlainEither x u h before now may_leave file image =
    LeavesBefore false x before (head_len u.block.names) may_leave file image
    ⊎ LeavesAfter false (table_with (next_chosen u h (length now)) now) now (head_len u.block.names) file
    image

pub plain_leaves : (s : Slots) (head : EntryHead) (count : ℕ) (h : Header) (before now : List Record)
    (a b : State) → has_logs s ≡ false
    → TableSaveLeaves s (next_slots s head count) h before now a b
    → PlainSaveLeaves (used_in s) h before now a b
plain_leaves (slots.Plain u) head count h before now a b plain left = left
plain_leaves (slots.Logged v) head count h before now a b plain left = absurd (cc)

-- ---- what there is once it is done

pub is_saved : (u : InUse) (h : Header) (now : List Record) (file : List ℕ)
    → table_of file ≡ Ok (table_with (next_chosen u h (length now)) now)
    → IsSaved (next_chosen u h (length now)) now file
is_saved u h now file read = record {
  slot = (table_chosen file (table_with (next_chosen u h (length now)) now) read).0;
  table = read;
}

in_use_from : (file : List ℕ) (v : InUse) → slots_in false file ≡ Ok (slots.Plain v)
    → slot_in_use file ≡ Ok v
in_use_from file v read =
    let r = bind_ok (slot_in_use file) (λ x. Ok (slots.Plain x)) (slots.Plain v) read in
    r.1 ∙ ap (λ (s : Slots). Ok (used_in s)) (from_ok (slots.Plain r.0) (slots.Plain v) r.2)

pub plain_done : (s t : Slots) (head : EntryHead) (count : ℕ) (h : Header) (before now : List Record)
    (a b : State) → has_logs s ≡ false → t ≡ next_slots s head count → IsTableSaved s t h before now a b
    → IsSaveDone (used_in s) h now b
plain_done (slots.Plain u) t head count h before now a b plain next done =
    let saved : IsTableSaved (slots.Plain u) (slots.Plain (next_in_use u)) h before now a b =
    subst (λ x. IsTableSaved (slots.Plain u) x h before now a b) next done in
    record {
      in_use = in_use_from b.file (next_in_use u) saved.slots;
      saved = λ fresh. is_saved u h now b.file (saved.saved (λ logged. cc) fresh).read;
      rests = saved.rests;
    }
plain_done (slots.Logged v) t head count h before now a b plain next done = absurd (cc)
