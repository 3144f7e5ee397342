-- The records of a table rise by name also where slots have logs, and are as many as its header says: behind
-- each entry of a log, rows are records in range under their own names, and the header counts them.
use Rattle.std.proofs.Common.{inl, inr, ◌≡◌, ℕ, ◌+◌, ◌-◌, ◌*◌, ◌/◌, ◌<◌, ◌^◌, Bool, true, false, not, cond, T, List, [], ◌∷◌, length, map, Option, Some, None, refl, sym, ap, ◌∙◌, subst}
use Rattle.std.proofs.lemmas.Bool.{and_parts, cases_Bool, cond-false, cond-true, ltb-true, not-false}
use Rattle.std.proofs.lemmas.Cmp.{nat_list_cmp_total, tied_itself}
use Rattle.std.proofs.lemmas.List.{length-map}
use Rattle.std.proofs.lemmas.Option.{same_Some}
use Rattle.std.specs.Cmp.{Equal-is}
use Rattle.std.specs.FinMap as fin
use Rattle.std.specs.FinMap.Entries.{below_all, find}
use Rattle.std.specs.Ordering.{eq_by_cmp, is_eq}
use Rattle.std.specs.Prelude.{if◌then◌else◌, nat_lt, slice_get, Ok, Err}
use Rattle.byte_ranges.specs.Lists.{◌>>=◌}
use Rattle.slot_codec.specs.Choice.{Chosen, SlotTable, plain, records_at, records_of, records_text, rises}
use Rattle.slot_codec.specs.Entries.{gone_from, moved_from, puts_from}
use Rattle.slot_codec.specs.Items.{read_items}
use Rattle.slot_codec.specs.Logs.{Logged, Reading, behind_log, first_gate, gap_step, gone_step, log_step, log_top, move_step, put_step, read_changes, read_entry, read_log, read_move, table_in}
use Rattle.slot_codec.specs.Names.{name_cmp}
use Rattle.slot_codec.specs.Readable.{AreInRange, IsRecord}
use Rattle.slot_codec.specs.Reading.{is_in_range, read_name, read_record}
use Rattle.slot_codec.specs.Rolls.{IsRoll}
use Rattle.slot_codec.specs.Rows.{Rows, moved_row, rows_of, with_place, with_row}
use Rattle.slot_codec.specs.Spelling.{cap}
use Rattle.slot_codec.specs.declared.entry.EntryHead.{EntryHead}
use Rattle.slot_codec.specs.declared.codec.Record.{Record}
use Rattle.slot_codec.specs.declared.codec.CodecFault.TheVariants as fault
use Rattle.slot_codec.proofs.ChoiceLaws.{table_chosen}
use Rattle.slot_codec.proofs.ItemLaws.{items_hold}
use Rattle.slot_codec.proofs.LogLaws.{walk_relates}
use Rattle.slot_codec.proofs.LoggedLaws.{logged_parts}
use Rattle.slot_codec.proofs.OrderLemmas.{not_tied}
use Rattle.slot_codec.proofs.ReadEntryLaws.{entry_steps}
use Rattle.slot_codec.proofs.ReadLogLaws.{log_parts}
use Rattle.slot_codec.proofs.RecordLaws.{record_fits}
use Rattle.slot_codec.proofs.RecordsLaws.{length-read_records, read_records_rise, table_rises}
use Rattle.slot_codec.proofs.RollLaws.{RiseFrom, in_range_from_rise, rise_plain, roll_from_rise}
use Rattle.slot_codec.proofs.RowLaws.{names_differ, rows_are_records}
use Rattle.slot_codec.proofs.StepLaws.{bind_ok, from_ok, guard_ok}

-- ---- rows under their own names

-- a record is in range, and has this name
pub record IsRow (name : List ℕ) (r : Record) : Type 0 where
  pub named : r.name ≡ name
  pub in_range : IsRecord r

-- each row is a record in range under its own name
abbrev pub AreKeyed : Rows → Type 0
AreKeyed rows = (name : List ℕ) (r : Record) → fin.get rows name ≡ Some r → IsRow name r

-- a record in range that is put is one
pub keyed_with_row : (rows : Rows) (r : Record) → AreKeyed rows → IsRecord r → AreKeyed (with_row rows r)
keyed_with_row rows r keyed in_range name s is =
    let tie = eq_by_cmp name_cmp name r.name in
    let found : cond tie (Some r) (fin.get rows name) ≡ Some s =
    sym (fin.get-insert nat_list_cmp_total rows r.name r name) ∙ is in
    elim (cases_Bool tie) [
      | inl on ↦
          let same = names_differ name r.name ((Equal-is (name_cmp name r.name)).0 on) in
          let put : r ≡ s = same_Some r s (sym (cond-true tie (Some r) (fin.get rows name) on) ∙ found) in
          subst (IsRow name) put record { named = sym same; in_range = in_range }
      | inr off ↦ keyed name s (sym (cond-false tie (Some r) (fin.get rows name) off) ∙ found)
    ]

-- what is left without a name was there before
pub keyed_without : (rows : Rows) (gone : List ℕ) → AreKeyed rows → AreKeyed (fin.remove rows gone)
keyed_without rows gone keyed name s is =
    let tie = eq_by_cmp name_cmp name gone in
    let found : cond tie None (fin.get rows name) ≡ Some s =
    sym (fin.get-remove nat_list_cmp_total rows gone name) ∙ is in
    elim (cases_Bool tie) [
      | inl on ↦
          let none : None ≡ Some s = sym (cond-true tie None (fin.get rows name) on) ∙ found in
          absurd (cc)
      | inr off ↦ keyed name s (sym (cond-false tie None (fin.get rows name) off) ∙ found)
    ]

-- records in range are keyed by their names
pub keyed_rows_of : (before : Option (List ℕ)) (rs : List Record) → RiseFrom before rs → AreKeyed (rows_of rs)
keyed_rows_of before [] h = λ name r is.
    let none : None ≡ Some r = sym (fin.get-empty name_cmp name) ∙ is in
    absurd (cc)
keyed_rows_of before (r ∷ rs) h = keyed_with_row (rows_of rs) r (keyed_rows_of (Some r.name) rs h.2) h.0

-- ---- in their order they rise

-- entries begin behind a name, if there is one
abbrev are_behind : Option (List ℕ) → List (List ℕ × Record) → Bool
are_behind None es = true
are_behind (Some name) es = below_all name_cmp name es

first_rises : (before : Option (List ℕ)) (e : List ℕ × Record) (es : List (List ℕ × Record))
    → are_behind before (e ∷ es) ≡ true → rises before e.0 ≡ true
first_rises None e es h = refl
first_rises (Some name) e es h = (and_parts _ _ h).0

-- a name that is less than all isn't found
none_found : (name : List ℕ) (es : List (List ℕ × Record)) → below_all name_cmp name es ≡ true
    → find name_cmp name es ≡ None
none_found name [] h = refl
none_found name (e ∷ es) h =
    let parts = and_parts _ _ h in
    cond-false (eq_by_cmp name_cmp name e.0) (Some e.1) (find name_cmp name es) (not_tied _ parts.0)
    ∙ none_found name es parts.1

-- what is found behind the first entry is found
found_behind : (e : List ℕ × Record) (es : List (List ℕ × Record)) → below_all name_cmp e.0 es ≡ true
    → (name : List ℕ) (r : Record) → find name_cmp name es ≡ Some r → find name_cmp name (e ∷ es) ≡ Some r
found_behind e es low name r is =
    let tie = eq_by_cmp name_cmp name e.0 in
    elim (cases_Bool tie) [
      | inl on ↦
          let same = names_differ name e.0 ((Equal-is (name_cmp name e.0)).0 on) in
          let none : None ≡ Some r =
          sym (ap (λ n. find name_cmp n es) same ∙ none_found e.0 es low) ∙ is in
          absurd (cc)
      | inr off ↦ cond-false tie (Some e.1) (find name_cmp name es) off ∙ is
    ]

entries_rise : (before : Option (List ℕ)) (es : List (List ℕ × Record)) → fin.is_sorted name_cmp es ≡ true
    → are_behind before es ≡ true
    → ((name : List ℕ) (r : Record) → find name_cmp name es ≡ Some r → IsRow name r)
    → RiseFrom before (map (λ e. e.1) es)
entries_rise before [] sorted behind each = tt
entries_rise before (e ∷ es) sorted behind each =
    let parts = and_parts _ _ sorted in
    let row = each e.0 e.1 (cond-true (eq_by_cmp name_cmp e.0 e.0) (Some e.1) (find name_cmp e.0 es)
    (ap is_eq (tied_itself nat_list_cmp_total e.0))) in (
      row.in_range,
      subst (λ name. rises before name ≡ true) (sym row.named) (first_rises before e es behind),
      subst (λ name. RiseFrom (Some name) (map (λ e. e.1) es)) (sym row.named)
          (entries_rise (Some e.0) es parts.1 parts.0
          (λ name r is. each name r (found_behind e es parts.0 name r is))),
    )

pub values_rise : (rows : Rows) → AreKeyed rows → RiseFrom None (fin.values rows)
values_rise rows keyed =
    entries_rise None (fin.entries rows) (holds _ (fin.entries_sorted rows)) refl
    (λ name r is. keyed name r (fin.get-entries rows name ∙ is))
  where
    holds : (b : Bool) → T b → b ≡ true
    holds true h = refl
    holds false h = absurd h

pub length-values : (rows : Rows) → length (fin.values rows) ≡ fin.len rows
length-values rows = length-map (fin.entries rows) (λ e. e.1) ∙ sym (fin.len-entries rows)

-- the record of a rank is in range
keyed_rank : (rows : Rows) (rank : ℕ) (r : Record) → AreKeyed rows → slice_get (fin.values rows) rank ≡ Some r
    → IsRecord r
keyed_rank rows rank r keyed is =
    let rise = values_rise rows keyed in
    let ranges = in_range_from_rise None (fin.values rows) rise in
    record {
      named = (roll_from_rise None (fin.values rows) rise).named rank r is;
      place = ranges.place rank r is;
      size = ranges.size rank r is;
    }

-- ---- what an entry's lists make of them

keyed_with_place : (rows : Rows) (found : Option Record) (place : ℕ) → AreKeyed rows
    → ((r : Record) → found ≡ Some r → IsRecord r) → place < 2 ^ 48 → AreKeyed (with_place rows found place)
keyed_with_place rows None place keyed each low = keyed
keyed_with_place rows (Some r) place keyed each low =
    let is = each r refl in
    keyed_with_row rows (record r { place = place }) keyed
    record { named = is.named; place = low; size = is.size }

move_keeps : (rows left : Rows) (bytes : List ℕ) → AreKeyed rows → move_step rows bytes ≡ Ok left
    → AreKeyed left
move_keeps rows left bytes keyed read =
    let p = bind_ok (read_move (fin.len rows) bytes) (λ p. Ok (moved_row rows p)) left read in
    let there = guard_ok (not (nat_lt _ (fin.len rows))) fault.Absent _ p.0 p.1 in
    let place = guard_ok (not (is_in_range _)) fault.Range _ p.0 there.1 in
    let low : p.0.1 < 2 ^ 48 = ltb-true p.0.1 (2 ^ 48)
    (ap (λ p. is_in_range p.1) (sym (from_ok _ p.0 place.1)) ∙ not-false _ place.0) in
    subst AreKeyed (from_ok (moved_row rows p.0) left p.2)
    (keyed_with_place rows (slice_get (fin.values rows) p.0.0) p.0.1 keyed
    (λ r is. keyed_rank rows p.0.0 r keyed is) low)

gone_keeps : (rows left : Rows) (bytes : List ℕ) → AreKeyed rows → gone_step rows bytes ≡ Ok left
    → AreKeyed left
gone_keeps rows left bytes keyed read =
    let name = bind_ok (read_name bytes)
    (λ name. if not (fin.contains_key rows name) then Err fault.Absent else Ok (fin.remove rows name)) left
    read in
    let there = guard_ok (not (fin.contains_key rows name.0)) fault.Absent (Ok (fin.remove rows name.0)) left
    name.2 in
    subst AreKeyed (from_ok (fin.remove rows name.0) left there.1) (keyed_without rows name.0 keyed)

put_keeps : (rows left : Rows) (bytes : List ℕ) → AreKeyed rows → put_step rows bytes ≡ Ok left
    → AreKeyed left
put_keeps rows left bytes keyed read =
    let r = bind_ok (read_record 2 bytes) (λ r. Ok (with_row rows r)) left read in
    subst AreKeyed (from_ok (with_row rows r.0) left r.2)
    (keyed_with_row rows r.0 keyed (record_fits 2 bytes r.0 r.1))

changes_keep : (file : List ℕ) (at : ℕ) (h : EntryHead) (rows left : Rows) → AreKeyed rows
    → read_changes file at h rows ≡ Ok left → AreKeyed left
changes_keep file at h rows left keyed read =
    let a = bind_ok (read_items move_step 16 h.moved file (at + moved_from h) rows)
    (λ moved. read_items gone_step 64 h.gone file (at + gone_from h) moved
    >>= λ left. read_items put_step 112 h.puts file (at + puts_from h) left) left read in
    let b = bind_ok (read_items gone_step 64 h.gone file (at + gone_from h) a.0)
    (λ left. read_items put_step 112 h.puts file (at + puts_from h) left) left a.2 in
    let moved = items_hold move_step AreKeyed move_keeps 16 h.moved file (at + moved_from h) rows a.0 keyed
    a.1 in
    let gone = items_hold gone_step AreKeyed gone_keeps 64 h.gone file (at + gone_from h) a.0 b.0 moved b.1 in
    items_hold put_step AreKeyed put_keeps 112 h.puts file (at + puts_from h) b.0 left gone b.2

-- ---- the table behind an entry, and behind a log

-- a table whose rows are such, and whose header counts them
pub record IsKeyed (x : Logged) : Type 0 where
  pub keyed : AreKeyed x.rows
  pub count : x.header.count ≡ fin.len x.rows

entry_keeps : (cap top : ℕ) (file : List ℕ) (at : ℕ) (x y : Logged) → IsKeyed x
    → read_entry cap top file at x ≡ Ok y → IsKeyed y
entry_keeps cap top file at x y before read =
    let p = entry_steps cap top file at x y read in
    subst IsKeyed p.is record {
      keyed = changes_keep file at p.head x.rows p.left before.keyed p.rows_read;
      count = refl;
    }

log_keeps : (cap top : ℕ) (file : List ℕ) (at : ℕ) (x y : Logged) (end : ℕ) → IsKeyed x
    → read_log cap top file at x ≡ Ok (y, end) → IsKeyed y
log_keeps cap top file at x y end before read =
    walk_relates Holds (log_step cap top) (λ file at u. u) step (top / 512) file top at (Ok x) tt
    (λ y is. subst IsKeyed (from_ok x y is) before) y
    (ap (λ p. p.0) (log_parts cap top file at x y end read).walked)
  where
    Holds : Reading → Unit {0} → Type 0
    Holds read u = (y : Logged) → read ≡ Ok y → IsKeyed y

    step : (file : List ℕ) (at : ℕ) (read : Reading) (u : Unit {0}) → Holds read u
        → Holds (log_step cap top file at read) u
    step file at read u holds y is =
        let r = bind_ok read (read_entry cap top file at) y is in
        entry_keeps cap top file at r.0 y (holds r.0 r.1) r.2

-- records whose names rise are as many rows
rows_of-count : (rs : List Record) → RiseFrom None rs → fin.len (rows_of rs) ≡ length rs
rows_of-count rs rise =
    sym (length-values (rows_of rs))
    ∙ ap length (rows_are_records rs (rows_of rs) (roll_from_rise None rs rise)
    (in_range_from_rise None rs rise) (λ name. refl))

behind_keeps : (file : List ℕ) (c : Chosen) (rs : List Record) (y : Logged) → records_of file c ≡ Ok rs
    → behind_log file c rs ≡ Ok y → IsKeyed y
behind_keeps file c rs y records read =
    let names = c.block.names in
    let top = log_top names c.slot in
    let first = first_gate names c.slot c.header.count in
    let end = records_at c + 112 * c.header.count in
    let x : Logged = record { header = c.header; rows = rows_of rs } in
    let v = c.header.version in
    let n = c.header.count in
    let rise = read_records_rise v n (records_text file c) (records_at c) None rs records in
    let many = length-read_records v n (records_text file c) (records_at c) None rs records in
    let base : IsKeyed x = record {
      keyed = keyed_rows_of None rs rise;
      count = sym (rows_of-count rs rise ∙ many);
    } in
    let later : Reading = read_items gap_step 1 (first - end) file end tt >>= λ none.
    read_log (cap names 3) top file first x >>= λ p. Ok p.0 in
    elim (cases_Bool (not (nat_lt first top))) [
      | inl none ↦
          subst IsKeyed (from_ok x y (sym (cond-true (not (nat_lt first top)) (Ok x) later none) ∙ read)) base
      | inr some ↦
          let a = bind_ok (read_items gap_step 1 (first - end) file end tt)
          (λ none. read_log (cap names 3) top file first x >>= λ p. Ok p.0) y
          (sym (cond-false (not (nat_lt first top)) (Ok x) later some) ∙ read) in
          let b = bind_ok (read_log (cap names 3) top file first x) (λ p. Ok p.0) y a.2 in
          subst IsKeyed (from_ok b.0.0 y b.2) (log_keeps (cap names 3) top file first x b.0.0 b.0.1 base b.1)
    ]

-- ---- the table of a file

-- its records rise by name
pub table_rises_in : (logged : Bool) (file : List ℕ) (t : SlotTable) → table_in logged file ≡ Ok t
    → RiseFrom None t.records
table_rises_in false file t read = table_rises file t read
table_rises_in true file t read =
    let p = logged_parts file t read in
    let rows = p.behind.rows in
    let rise = values_rise rows (behind_keeps file p.base p.records p.behind p.read p.log).keyed in
    subst (λ (t : SlotTable). RiseFrom None t.records) p.same (rise_plain None (fin.values rows) rise)

-- so they are a roll, and in range
pub table_roll_in : (logged : Bool) (file : List ℕ) (t : SlotTable) → table_in logged file ≡ Ok t
    → IsRoll t.records × AreInRange t.records
table_roll_in logged file t read =
    let rise = table_rises_in logged file t read in
    (roll_from_rise None t.records rise, in_range_from_rise None t.records rise)

-- and they are as many as its header says
pub table_count_in : (logged : Bool) (file : List ℕ) (t : SlotTable) → table_in logged file ≡ Ok t
    → t.chosen.header.count ≡ length t.records
table_count_in false file t read =
    let p = table_chosen file t read in
    let c = t.chosen in
    let many = length-read_records c.header.version c.header.count (records_text file c) (records_at c) None
    p.1 p.2 in
    sym (ap (λ (t : SlotTable). length t.records) (sym p.3) ∙ length-map p.1 plain ∙ many)
table_count_in true file t read =
    let p = logged_parts file t read in
    let rows = p.behind.rows in
    let count = (behind_keeps file p.base p.records p.behind p.read p.log).count in
    subst (λ (t : SlotTable). t.chosen.header.count ≡ length t.records) p.same
    (count ∙ sym (length-map (fin.values rows) plain ∙ length-values rows))
