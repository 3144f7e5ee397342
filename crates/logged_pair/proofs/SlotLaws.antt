-- What a save of one form of slots leaves, in the words that both forms share.
use Rattle.std.specs.Prelude.{◌≡◌, ◌⊎◌, ℕ, ◌+◌, ◌<◌, ◌≤◌, false, true, List, length, Ok, refl}
use Rattle.std.proofs.Common.{◌∙◌, inl, inr, sym}
use Rattle.disk_face.specs.Moments.{Leaves}
use Rattle.disk_face.specs.States.{State}
use Rattle.disk_face.proofs.MomentLaws.{Leaves-weaken}
use Rattle.slot_codec.specs.Choice.{InUse, SlotTable, table_of}
use Rattle.slot_codec.specs.Logs.{table_in}
use Rattle.slot_codec.specs.Readable.{AreInRange}
use Rattle.slot_codec.specs.Rolls.{IsRoll}
use Rattle.slot_codec.specs.Spelling.{head_len}
use Rattle.slot_codec.specs.declared.codec.Header.{Header}
use Rattle.slot_codec.specs.declared.codec.Record.{Record}
use Rattle.slot_codec.proofs.ChoiceLaws.{table_chosen}
use Rattle.slot_codec.proofs.StepLaws.{bind_from}
use Rattle.slot_pair.specs.Saves.{IsSaved, KeepsTable, LeavesNew, LeavesOld, SaveLeaves, next_chosen, next_in_use}
use Rattle.logged_pair.specs.Pairs.{InLog, LoggedTable, in_log, logged_in}
use Rattle.logged_pair.specs.Saves.{AreSaved, ChangesLeave, HasRecords, LeavesNewTable, LeavesOldTable, next_table}
use Rattle.logged_pair.specs.Slots.{HasTable, IsTableSaved, LeadsTo, LeavesAfter, LeavesBefore, TableSaveLeaves, table_after}
use Rattle.logged_pair.specs.declared.slots.Slots.TheVariants as slots
use Rattle.logged_pair.proofs.PlainSlots.{plain_has, table_kept}
use Rattle.logged_pair.proofs.TableLaws.{records_are, table_is}

-- ---- slots without logs

pub plain_kept : (x : SlotTable) (before : List Record) (file image : List ℕ) → table_of file ≡ Ok x
    → KeepsTable x.chosen file image → HasTable false x before image
plain_kept x before file image read keeps = plain_has x before image (table_kept x file image read keeps)

pub plain_left : (u : InUse) (h : Header) (before now : List Record) (a b : State) → SaveLeaves u h now a b
    → TableSaveLeaves (slots.Plain u) (slots.Plain (next_in_use u)) h before now a b
plain_left u h before now a b left = record {
  data_part = left.data_part;
  old_or_new = λ x has fresh.
      either x has (left.old_or_new x.chosen (table_chosen a.file x has.read).0 fresh);
  images = λ x has fresh alike. Leaves-weaken _ (λ image. each x has image)
      (left.images x.chosen (table_chosen a.file x has.read).0 fresh alike);
}
  where
    base : ℕ
    base = head_len u.block.names

    next : SlotTable
    next = table_after (slots.Plain u) (slots.Plain (next_in_use u)) h now

    either : (x : SlotTable) → HasTable false x before a.file
        → KeepsTable x.chosen a.file b.file ⊎ IsSaved (next_chosen u h (length now)) now b.file
        → HasTable false x before b.file ⊎ HasTable false next now b.file
    either x has (inl keeps) = inl (plain_kept x before a.file b.file has.read keeps)
    either x has (inr saved) = inr (plain_has next now b.file saved.table)

    each : (x : SlotTable) → HasTable false x before a.file → (image : List ℕ)
        → LeavesOld x.chosen base a.may_leave a.file image
        ⊎ LeavesNew (next_chosen u h (length now)) now base a.file image
        → LeavesBefore false x before base a.may_leave a.file image
        ⊎ LeavesAfter false next now base a.file image
    each x has image (inl l) = inl (record {
      table = plain_kept x before a.file image has.read l.table;
      from = l.before;
      was = l.was;
      data_part = l.data_part;
    })
    each x has image (inr l) = inr (record {
      table = plain_has next now image l.table.table;
      data_part = l.data_part;
    })

-- ---- slots with logs

-- the old table, where the log of another file leads to it
pub logged_kept : (x : SlotTable) (before : List Record) (file image : List ℕ) (l : LoggedTable)
    → table_in true file ≡ Ok x → HasRecords l before file → logged_in image ≡ Ok l
    → HasTable true x before image
logged_kept x before file image l read has h = record {
  read = table_is image l h ∙ sym (table_is file l has.read) ∙ read;
  log = λ yes. record { table = l; has = record { read = h; rows = has.rows } };
}

pub logged_has : (v w : InLog) (h : Header) (now : List Record) (file : List ℕ) → IsRoll now
    → AreInRange now → logged_in file ≡ Ok (next_table v w h now)
    → HasTable true (table_after (slots.Logged v) (slots.Logged w) h now) now file
logged_has v w h now file roll ranges read = record {
  read = records_are file (next_table v w h now) now roll ranges refl read;
  log = λ yes. record { table = next_table v w h now; has = record { read = read; rows = refl } };
}

pub logged_done : (v w : InLog) (h : Header) (before now : List Record) (a b : State) → IsRoll now
    → AreInRange now → AreSaved v w h before now a b
    → IsTableSaved (slots.Logged v) (slots.Logged w) h before now a b
logged_done v w h before now a b roll ranges done = record {
  slots = bind_from (in_log b.file) (λ x. Ok (slots.Logged x)) w done.in_use;
  saved = λ known fresh. logged_has v w h now b.file roll ranges
      (done.saved (known refl).table (known refl).has fresh);
  rests = done.rests;
}

pub logged_left : (v w : InLog) (h : Header) (before now : List Record) (a b : State) → IsRoll now
    → AreInRange now → ChangesLeave v w h before now a b
    → TableSaveLeaves (slots.Logged v) (slots.Logged w) h before now a b
logged_left v w h before now a b roll ranges left = record {
  data_part = left.data_part;
  old_or_new = λ x has fresh.
      let l = has.log refl in
      either x has l (left.old_or_new l.table l.has fresh);
  images = λ x has fresh alike.
      let l = has.log refl in
      Leaves-weaken _ (λ image. each x has l image) (left.images l.table l.has fresh alike);
}
  where
    base : ℕ
    base = head_len v.in_use.block.names

    next : SlotTable
    next = table_after (slots.Logged v) (slots.Logged w) h now

    either : (x : SlotTable) → HasTable true x before a.file → (l : LeadsTo before a.file)
        → (logged_in b.file ≡ Ok l.table) ⊎ (logged_in b.file ≡ Ok (next_table v w h now))
        → HasTable true x before b.file ⊎ HasTable true next now b.file
    either x has l (inl old) = inl (logged_kept x before a.file b.file l.table has.read l.has old)
    either x has l (inr new) = inr (logged_has v w h now b.file roll ranges new)

    each : (x : SlotTable) → HasTable true x before a.file → (l : LeadsTo before a.file) (image : List ℕ)
        → LeavesOldTable l.table base a.may_leave a.file image
        ⊎ LeavesNewTable (next_table v w h now) base a.file image
        → LeavesBefore true x before base a.may_leave a.file image
        ⊎ LeavesAfter true next now base a.file image
    each x has l image (inl o) = inl (record {
      table = logged_kept x before a.file image l.table has.read l.has o.table;
      from = o.before;
      was = o.was;
      data_part = o.data_part;
    })
    each x has l image (inr n) = inr (record {
      table = logged_has v w h now image roll ranges n.table;
      data_part = n.data_part;
    })
