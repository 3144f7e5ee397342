-- The table behind a log and the pair of its file, taken apart and put together.
use Rattle.std.specs.Prelude.{◌≡◌, ℕ, ◌+◌, ◌-◌, ◌*◌, ◌<◌, true, false, nat_lt, not, List, Ok}
use Rattle.std.proofs.Common.{◌∙◌, ap, arith, sym}
use Rattle.std.proofs.lemmas.Bool.{cond-false, cond-true, lt-ltb, not_from_true}
use Rattle.std.specs.Int.{w64, from_le_bytes}
use Rattle.std.specs.FinMap as fin
use Rattle.byte_ranges.specs.Ranges.{bytes_at}
use Rattle.byte_ranges.specs.Lists.{◌>>=◌}
use Rattle.byte_ranges.proofs.RangeLaws.{bytes_at-within}
use Rattle.slot_codec.specs.Choice.{Chosen, InUse, chosen_in, is_open, records_at, records_of, slot_in, table_with}
use Rattle.slot_codec.specs.Items.{read_items}
use Rattle.slot_codec.specs.Logs.{Logged, behind_log, first_gate, gap_step, log_end, log_top, read_log, table_in}
use Rattle.slot_codec.specs.Readable.{AreInRange}
use Rattle.slot_codec.specs.Reading.{number_at}
use Rattle.slot_codec.specs.Rolls.{IsRoll}
use Rattle.slot_codec.specs.Rows.{rows_of}
use Rattle.slot_codec.specs.Spelling.{cap, header_len, slot_at}
use Rattle.slot_codec.specs.declared.codec.Header.{Header}
use Rattle.slot_codec.specs.declared.codec.Record.{Record}
use Rattle.slot_codec.proofs.ChoiceLaws.{chosen_parts_in, chosen_sequence_in}
use Rattle.slot_codec.proofs.HeaderLaws.{header_tests_in}
use Rattle.slot_codec.proofs.LoggedLaws.{logged_from}
use Rattle.slot_codec.proofs.ReadLogLaws.{log_end_tells, log_ends_closed}
use Rattle.slot_codec.proofs.RowLaws.{rows_are_records}
use Rattle.slot_codec.proofs.StepLaws.{bind_from, bind_ok, from_ok}
use Rattle.logged_pair.specs.Pairs.{InLog, LoggedTable, behind_entries, first_of, in_log, log_of, logged_in, top_of}
use Rattle.logged_pair.proofs.KeepLaws.{chosen_in_use}

-- ---- behind the records

-- the table of a slot's records, in front of its log
abbrev pub start_of : Chosen → List Record → Logged
start_of c records = record { header = c.header; rows = rows_of records }

-- where the first gate of a chosen slot stands, and where its records end
abbrev pub first_at : Chosen → ℕ
first_at c = first_gate c.block.names c.slot c.header.count

abbrev pub top_at : Chosen → ℕ
top_at c = log_top c.block.names c.slot

abbrev pub end_of_records : Chosen → ℕ
end_of_records c = records_at c + 112 * c.header.count

-- a log that has room: the gap in front of it is zeros, and it is read
pub record LogThere (file : List ℕ) (c : Chosen) (records : List Record) (x : Logged) : Type 0 where
  pub gap : read_items gap_step 1 (first_at c - end_of_records c) file (end_of_records c) tt ≡ Ok tt
  pub end : ℕ
  pub log : read_log (cap c.block.names 3) (top_at c) file (first_at c) (start_of c records) ≡ Ok (x, end)

pub behind_parts : (file : List ℕ) (c : Chosen) (records : List Record) (x : Logged)
    → nat_lt (first_at c) (top_at c) ≡ true → behind_log file c records ≡ Ok x
    → LogThere file c records x
behind_parts file c records x low is =
    let gap = read_items gap_step 1 (first_at c - end_of_records c) file (end_of_records c) tt in
    let log = read_log (cap c.block.names 3) (top_at c) file (first_at c) (start_of c records) in
    let rest : (gap >>= λ none. log >>= λ p. Ok p.0) ≡ Ok x =
    sym (cond-false (not (nat_lt (first_at c) (top_at c))) _ _ (not_from_true _ low)) ∙ is in
    let a = bind_ok gap (λ none. log >>= λ p. Ok p.0) x rest in
    let b = bind_ok log (λ p. Ok p.0) x a.2 in
    let ends : b.0 ≡ (x, b.0.1) = λ i. (from_ok b.0.0 x b.2 i, b.0.1) in
    record { gap = a.1; end = b.0.1; log = b.1 ∙ ap Ok ends }

pub behind_from : (file : List ℕ) (c : Chosen) (records : List Record) (x : Logged)
    → nat_lt (first_at c) (top_at c) ≡ true → LogThere file c records x → behind_log file c records ≡ Ok x
behind_from file c records x low there =
    cond-false (not (nat_lt (first_at c) (top_at c))) _ _ (not_from_true _ low)
    ∙ bind_from _ (λ none. read_log (cap c.block.names 3) (top_at c) file (first_at c) (start_of c records)
    >>= λ p. Ok p.0) tt there.gap
    ∙ bind_from _ (λ p. Ok p.0) (x, there.end) there.log

-- a slot without room for a log
pub behind_none : (file : List ℕ) (c : Chosen) (records : List Record)
    → nat_lt (first_at c) (top_at c) ≡ false → behind_log file c records ≡ Ok (start_of c records)
behind_none file c records high = cond-true (not (nat_lt (first_at c) (top_at c))) _ _ (ap not high)

-- ---- the table

pub record TableParts (file : List ℕ) (t : LoggedTable) : Type 0 where
  pub base : Chosen
  pub chosen : chosen_in true file ≡ Ok base
  pub records : List Record
  pub read : records_of file base ≡ Ok records
  pub behind : Logged
  pub log : behind_log file base records ≡ Ok behind
  pub same : record { chosen = record base { header = behind.header }; rows = behind.rows } ≡ t

abbrev table_of_logged : Chosen → Logged → LoggedTable
table_of_logged c x = record { chosen = record c { header = x.header }; rows = x.rows }

pub table_parts : (file : List ℕ) (t : LoggedTable) → logged_in file ≡ Ok t → TableParts file t
unfolding logged_in
table_parts file t h =
    let first = bind_ok (chosen_in true file) (λ c. records_of file c >>= λ records.
    behind_log file c records >>= λ x. Ok (table_of_logged c x)) t h in
    let c = first.0 in
    let second = bind_ok (records_of file c) (λ records. behind_log file c records >>= λ x.
    Ok (table_of_logged c x)) t first.2 in
    let third = bind_ok (behind_log file c second.0) (λ x. Ok (table_of_logged c x)) t second.2 in
    record {
      base = c;
      chosen = first.1;
      records = second.0;
      read = second.1;
      behind = third.0;
      log = third.1;
      same = from_ok _ t third.2;
    }

pub table_from : (file : List ℕ) (c : Chosen) (records : List Record) (x : Logged)
    → chosen_in true file ≡ Ok c → records_of file c ≡ Ok records → behind_log file c records ≡ Ok x
    → logged_in file ≡ Ok (record { chosen = record c { header = x.header }; rows = x.rows })
unfolding logged_in
table_from file c records x chosen read log =
    bind_from (chosen_in true file) _ c chosen
    ∙ bind_from (records_of file c) _ records read
    ∙ bind_from (behind_log file c records) _ x log

-- it is that of the file
pub table_is : (file : List ℕ) (t : LoggedTable) → logged_in file ≡ Ok t
    → table_in true file ≡ Ok (table_with t.chosen (fin.values t.rows))
table_is file t h =
    let p = table_parts file t h in
    logged_from file p.base p.records p.behind p.chosen p.read p.log
    ∙ ap (λ (t : LoggedTable). Ok (table_with t.chosen (fin.values t.rows))) p.same

pub records_are : (file : List ℕ) (t : LoggedTable) (rs : List Record) → IsRoll rs → AreInRange rs
    → t.rows ≡ rows_of rs → logged_in file ≡ Ok t → table_in true file ≡ Ok (table_with t.chosen rs)
records_are file t rs roll ranges rows h =
    let values : fin.values t.rows ≡ rs =
    rows_are_records rs t.rows roll ranges (λ name. ap (λ rows. fin.get rows name) rows) in
    table_is file t h ∙ ap (λ rs. Ok (table_with t.chosen rs)) values

-- ---- the pair

-- the count that the slot's header has
pub count_of : (file : List ℕ) (u : InUse) (c : Chosen) → slot_in true file ≡ Ok u
    → chosen_in true file ≡ Ok c
    → number_at file (slot_at u.block.names u.slot + 16) ≡ c.header.count
count_of file u c in_use is =
    let p = chosen_parts_in true file c is in
    let at : InUse → ℕ = λ v. slot_at v.block.names v.slot in
    let same : p.in_use ≡ u = from_ok p.in_use u (sym p.slot_read ∙ in_use) in
    let tests = header_tests_in true p.in_use.block.names (bytes_at file (at p.in_use) header_len) c.header
    p.header_read in
    ap (λ v. number_at file (at v + 16)) (sym same)
    ∙ ap (from_le_bytes w64) (sym (bytes_at-within file (at p.in_use) header_len 16 8 (omega arith)))
    ∙ ap (λ (h : Header). h.count) tests.of

-- so the first gate is where the pair has it
pub same_first : (file : List ℕ) (u : InUse) (c : Chosen) → slot_in true file ≡ Ok u
    → chosen_in true file ≡ Ok c → (first_of file u ≡ first_at c) × (top_of u ≡ top_at c)
same_first file u c in_use is =
    let e = chosen_in_use file u c in_use is in
    let count = count_of file u c in_use is in (
      (λ i. first_gate (sym e.0 i).names (sym e.1 i) (count i)),
      (λ i. log_top (sym e.0 i).names (sym e.1 i)),
    )

-- the pair, by where its log ends
pub log_below : (file : List ℕ) (u : InUse) (n end : ℕ) → nat_lt (first_of file u) (top_of u) ≡ true
    → log_end file (top_of u) (first_of file u) ≡ (n, end) → is_open file end ≡ false
    → log_of file u ≡ record { in_use = record u { sequence = u.sequence + n }; end = end }
log_below file u n end low ends closed =
    cond-false (not (nat_lt (first_of file u) (top_of u))) _ _ (not_from_true _ low)
    ∙ ap (behind_entries file u) ends
    ∙ ap (λ k. record { in_use = record u { sequence = u.sequence + n }; end = k })
    (cond-false (is_open file end) 0 end closed)

pub log_none : (file : List ℕ) (u : InUse) → nat_lt (first_of file u) (top_of u) ≡ false
    → log_of file u ≡ record { in_use = u; end = 0 }
log_none file u high = cond-true (not (nat_lt (first_of file u) (top_of u))) _ _ (ap not high)

pub in_log_from : (file : List ℕ) (u : InUse) (v : InLog) → slot_in true file ≡ Ok u → log_of file u ≡ v
    → in_log file ≡ Ok v
in_log_from file u v in_use is = bind_from (slot_in true file) (λ u. Ok (log_of file u)) u in_use ∙ ap Ok is

-- a log that is read tells it
pub pair_read : (file : List ℕ) (u : InUse) (c : Chosen) (x y : Logged) (end : ℕ) → slot_in true file ≡ Ok u
    → chosen_in true file ≡ Ok c → x.header.sequence ≡ c.header.sequence → first_at c < top_at c
    → read_log (cap c.block.names 3) (top_at c) file (first_at c) x ≡ Ok (y, end)
    → in_log file ≡ Ok (record { in_use = record u { sequence = y.header.sequence }; end = end })
pair_read file u c x y end in_use is sequence low read =
    let first = same_first file u c in_use is in
    let tells = log_end_tells (cap c.block.names 3) (top_at c) file (first_at c) x y end read in
    let ends = log_end file (top_at c) (first_at c) in
    let both : log_end file (top_of u) (first_of file u) ≡ (ends.0, end) =
    (λ i. log_end file (first.1 i) (first.0 i)) ∙ (λ i. (ends.0, tells.0 i)) in
    let below : nat_lt (first_of file u) (top_of u) ≡ true =
    (λ i. nat_lt (first.0 i) (first.1 i)) ∙ lt-ltb (first_at c) (top_at c) low in
    let next : u.sequence + ends.0 ≡ y.header.sequence =
    omega (arith, tells.1, sequence, chosen_sequence_in true file u c in_use is) in
    in_log_from file u _ in_use (
    log_below file u ends.0 end below both
    (log_ends_closed (cap c.block.names 3) (top_at c) file (first_at c) x y end read)
    ∙ ap (λ n. record { in_use = record u { sequence = n }; end = end }) next
    )
