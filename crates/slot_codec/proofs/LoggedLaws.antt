-- The table of a file whose slots have logs, and what the mark of a file says of it.
use Rattle.std.specs.Prelude.{◌≡◌, ℕ, zero, suc, ◌+◌, ◌≤◌, Bool, true, false, bytes_eq, List, ◌∷◌, length, drop, Option, Some, Ok, refl}
use Rattle.std.proofs.Common.{arith, ap, sym, ◌∙◌, subst}
use Rattle.std.specs.FinMap as fin
use Rattle.byte_ranges.specs.Ranges.{bytes_at}
use Rattle.byte_ranges.specs.Lists.{◌>>=◌}
use Rattle.byte_ranges.proofs.RangeLaws.{bytes_at-within}
use Rattle.slot_codec.specs.Choice.{Chosen, InUse, SlotTable, chosen_in, first_record, read_records, records_of, slot_in, table_of, table_with}
use Rattle.slot_codec.specs.Logs.{Logged, behind_log, logged_table_of, read_table_of, table_in}
use Rattle.slot_codec.specs.Reading.{digest_at, is_logged, read_record}
use Rattle.slot_codec.specs.Spelling.{head_len, mark, record_len, superblock_len}
use Rattle.slot_codec.specs.declared.codec.Record.{Record}
use Rattle.slot_codec.proofs.ChoiceLaws.{chosen_long, chosen_parts_in, in_use_long_in, table_chosen}
use Rattle.slot_codec.proofs.PickLaws.{in_use_parts_in}
use Rattle.slot_codec.proofs.StepLaws.{bind_from, bind_ok, from_ok}
use Rattle.slot_codec.proofs.SuperBlockLaws.{superblock_parts_in}

-- ---- the mark

marks_differ : (logged : Bool) → bytes_eq (mark logged) (mark true) ≡ logged
marks_differ true = refl
marks_differ false = refl

-- a file with a slot in use has the mark of its kind
pub mark_of_slot : (logged : Bool) (file : List ℕ) (u : InUse) → slot_in logged file ≡ Ok u
    → is_logged file ≡ logged
mark_of_slot logged file u h =
    let p = in_use_parts_in logged file u h in
    let begins = (superblock_parts_in logged (bytes_at file 0 superblock_len) u.block p.block).begins in
    ap (λ x. bytes_eq x (mark true)) (sym (bytes_at-within file 0 superblock_len 0 8 (omega arith)) ∙ begins)
    ∙ marks_differ logged

pub mark_of_chosen : (logged : Bool) (file : List ℕ) (c : Chosen) → chosen_in logged file ≡ Ok c
    → is_logged file ≡ logged
mark_of_chosen logged file c h =
    let p = chosen_parts_in logged file c h in mark_of_slot logged file p.in_use p.slot_read

pub plain_mark : (file : List ℕ) (t : SlotTable) → table_of file ≡ Ok t → is_logged file ≡ false
plain_mark file t h = mark_of_chosen false file t.chosen (table_chosen file t h).0

-- so the table of a file without logs is the one that is read
pub plain_is_read : (file : List ℕ) (t : SlotTable) → table_of file ≡ Ok t → read_table_of file ≡ Ok t
plain_is_read file t h = subst (λ l. table_in l file ≡ Ok t) (sym (plain_mark file t h)) h

-- ---- records of version 3 are those of version 2

pub records_alike : (n : ℕ) (text : List ℕ) (at : ℕ) (before : Option (List ℕ))
    → read_records 3 n text at before ≡ read_records 2 n text at before
unfolding read_record digest_at record_len
records_alike zero text at before = refl
records_alike (suc n) text at before = λ i.
    first_record 2 text at before >>= λ r.
    records_alike n (drop (record_len 2) text) (at + record_len 2) (Some r.name) i >>= λ rest.
    Ok (r ∷ rest)

-- ---- the table behind a log

-- what it consists of
pub record LoggedParts (file : List ℕ) (t : SlotTable) : Type 0 where
  pub base : Chosen
  pub chosen : chosen_in true file ≡ Ok base
  pub records : List Record
  pub read : records_of file base ≡ Ok records
  pub behind : Logged
  pub log : behind_log file base records ≡ Ok behind
  pub same : table_with (record base { header = behind.header }) (fin.values behind.rows) ≡ t

pub logged_parts : (file : List ℕ) (t : SlotTable) → logged_table_of file ≡ Ok t → LoggedParts file t
unfolding logged_table_of
logged_parts file t h =
    let first = bind_ok (chosen_in true file) (λ c. records_of file c >>= λ records.
    behind_log file c records >>= λ x.
    Ok (table_with (record c { header = x.header }) (fin.values x.rows))) t h in
    let c = first.0 in
    let second = bind_ok (records_of file c) (λ records. behind_log file c records >>= λ x.
    Ok (table_with (record c { header = x.header }) (fin.values x.rows))) t first.2 in
    let third = bind_ok (behind_log file c second.0)
    (λ x. Ok (table_with (record c { header = x.header }) (fin.values x.rows))) t second.2 in
    record {
      base = c;
      chosen = first.1;
      records = second.0;
      read = second.1;
      behind = third.0;
      log = third.1;
      same = from_ok _ t third.2;
    }

pub logged_from : (file : List ℕ) (c : Chosen) (records : List Record) (x : Logged)
    → chosen_in true file ≡ Ok c → records_of file c ≡ Ok records → behind_log file c records ≡ Ok x
    → logged_table_of file ≡ Ok (table_with (record c { header = x.header }) (fin.values x.rows))
unfolding logged_table_of
logged_from file c records x chosen read log =
    bind_from (chosen_in true file) _ c chosen
    ∙ bind_from (records_of file c) _ records read
    ∙ bind_from (behind_log file c records) _ x log

-- the file is at least as long as what lies below its data part
pub table_long : (logged : Bool) (file : List ℕ) (t : SlotTable) → table_in logged file ≡ Ok t
    → head_len t.chosen.block.names ≤ length file
table_long true file t h =
    let p = logged_parts file t h in
    let q = chosen_parts_in true file p.base p.chosen in
    omega (
      arith,
      in_use_long_in true file q.in_use q.slot_read,
      ap (λ (c : Chosen). head_len c.block.names) (ap (λ (t : SlotTable). t.chosen) p.same),
      ap (λ b. head_len b.names) q.same_block,
    )
table_long false file t h = chosen_long file t.chosen (table_chosen file t h).0
