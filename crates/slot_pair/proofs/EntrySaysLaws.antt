-- What the entry for a header and changes says.
use Rattle.std.specs.Prelude.{◌≡◌, ℕ, suc, ◌-◌, ◌<◌, ◌≤◌, ◌^◌, ◌&&◌, true, T, List, [], ◌∷◌, length, map, Some, slice_get, refl}
use Rattle.std.proofs.Common.{◌∙◌, ap, arith, subst, sym}
use Rattle.std.proofs.lemmas.Bool.{and_parts, ltb-true}
use Rattle.std.proofs.lemmas.List.{length-map}
use Rattle.std.specs.Cmp.Lexicographic.{nat_list_cmp_total}
use Rattle.std.specs.Ordering.{is_lt}
use Rattle.std.specs.FinMap as fin
use Rattle.std.specs.FinMap.Entries.{below_all}
use Rattle.slot_codec.specs.Cells.{cells_of}
use Rattle.slot_codec.specs.Changes.{Change, gone_of, moves_of, puts_of}
use Rattle.slot_codec.specs.Items.{after_items}
use Rattle.slot_codec.specs.Logs.{Given, IsEntry, Logged, after_entry, begun, with_given}
use Rattle.slot_codec.specs.Names.{name_cmp}
use Rattle.slot_codec.specs.Readable.{IsFull}
use Rattle.slot_codec.specs.Reading.{is_in_range}
use Rattle.slot_codec.specs.Rolls.{IsRoll}
use Rattle.slot_codec.specs.Rows.{AreChanges, Rows, by_name, changed_rows, rows_of}
use Rattle.slot_codec.specs.declared.codec.Header.{Header}
use Rattle.slot_codec.specs.declared.codec.Record.{Record}
use Rattle.slot_codec.proofs.CellLaws.{GivesCells, cells_few, cells_give}
use Rattle.slot_pair.specs.Appends.{entry_for, head_for}
use Rattle.slot_pair.specs.Logged.{CanAppend, CanSay, HasLog, LeadsTo, Log, logged_header}

-- ---- how many rows records are

names_differ : fin.IsAntisymmetric name_cmp
names_differ = fin.slice_cmp-IsAntisymmetric fin.nat_cmp-IsAntisymmetric

-- a name is less than those of all records, if it is less than each
below_each : (k : List ℕ) (rs : List Record)
    → ((i : ℕ) (r : Record) → slice_get rs i ≡ Some r → is_lt (name_cmp k r.name) ≡ true)
    → below_all name_cmp k (map by_name rs) ≡ true
below_each k [] less = refl
below_each k (r ∷ rs) less =
    let first = less 0 r refl in
    let rest = below_each k rs (λ i s is. less (suc i) s is) in
    λ i. first i && rest i

sorted_roll : (rs : List Record) → IsRoll rs → fin.is_sorted name_cmp (map by_name rs) ≡ true
sorted_roll [] roll = refl
sorted_roll (r ∷ rs) roll =
    let later : IsRoll rs = record {
      named = λ i s is. roll.named (suc i) s is;
      rising = λ i j a b low is_a is_b. roll.rising (suc i) (suc j) a b (omega (arith, low)) is_a is_b;
    } in
    let first = below_each r.name rs (λ i s is. roll.rising 0 (suc i) r s (omega arith) refl is) in
    let rest = sorted_roll rs later in
    λ i. first i && rest i

-- records whose names rise are as many rows
pub length-rows_of : (rs : List Record) → IsRoll rs → fin.len (rows_of rs) ≡ length rs
length-rows_of rs roll =
    let es = map by_name rs in
    let sorted : T (fin.is_sorted name_cmp es) = subst T (sym (sorted_roll rs roll)) tt in
    let same : rows_of rs ≡ fin.from_sorted es =
    fin.same_map nat_list_cmp_total names_differ (rows_of rs) (fin.from_sorted es)
    (λ q. fin.get-from_entries nat_list_cmp_total es q ∙ sym (fin.get-from_sorted name_cmp es q sorted)) in
    ap fin.len same ∙ fin.len-entries (fin.from_sorted {R = name_cmp} es)
    ∙ ap length (fin.entries-from_sorted name_cmp es sorted) ∙ length-map rs by_name

-- ---- the entry

-- the wall and the slack of a full header are in range
record AreLow (h : Header) : Type 0 where
  wall : h.wall < 2 ^ 48
  slack : h.slack < 2 ^ 48

low_numbers : (h : Header) → IsFull h → AreLow h
low_numbers h full =
    let used = and_parts _ _ full.ranges in
    let caps = and_parts _ _ used.0 in
    let both = and_parts (is_in_range h.wall) (is_in_range h.slack) caps.0 in
    record { wall = ltb-true h.wall (2 ^ 48) both.0; slack = ltb-true h.slack (2 ^ 48) both.1 }

-- the rows that the changes make are those of the records of now
rows_now : (y : Logged) (before now : List Record) (changes : List Change) → y.rows ≡ rows_of before
    → LeadsTo before now changes
    → changed_rows y.rows (moves_of changes) (gone_of changes) (puts_of changes) ≡ rows_of now
rows_now y before now changes rows leads =
    ap (λ (r : Rows). changed_rows r (moves_of changes) (gone_of changes) (puts_of changes)) rows
    ∙ leads.applied

-- the entry for a header and changes is read as it is
pub says_entry : (cap room : ℕ) (y : Logged) (h : Header) (before now : List Record) (changes : List Change)
    → y.rows ≡ rows_of before → IsRoll before → IsRoll now → LeadsTo before now changes → length now ≤ cap
    → CanSay room y h changes → IsEntry cap room y (entry_for h changes)
says_entry cap room y h before now changes rows old new leads fits can =
    let gives : GivesCells h (begun y.header (head_for h changes)) =
    cells_give h (begun y.header (head_for h changes)) can.full in
    let count : fin.len y.rows ≡ length before = ap fin.len rows ∙ length-rows_of before old in
    let count_now : fin.len (changed_rows y.rows (moves_of changes) (gone_of changes) (puts_of changes))
    ≡ length now = ap fin.len (rows_now y before now changes rows leads) ∙ length-rows_of now new in
    let low = low_numbers h can.full in
    record {
      head = record {
        boundary = can.boundary;
        cells = cells_few h;
        moved = omega (arith, count, leads.few.moved);
        gone = omega (arith, count, leads.few.gone);
        puts = omega (arith, fits, leads.few.puts);
        within = can.within;
        wall = low.wall;
        slack = low.slack;
      };
      cells = refl;
      moved = refl;
      gone = refl;
      puts = refl;
      fresh = can.fresh;
      are_cells = gives.are;
      are_changes = subst (λ (r : Rows). AreChanges r (moves_of changes) (gone_of changes) (puts_of changes))
          (sym rows) leads.fitting;
      few = omega (arith, count_now, fits);
    }

-- and the table behind it has this header, and the records of now
pub says_table : (y : Logged) (h : Header) (before now : List Record) (changes : List Change)
    → y.rows ≡ rows_of before → IsRoll now → LeadsTo before now changes → IsFull h
    → after_entry y (entry_for h changes)
    ≡ record { header = logged_header y.header h (length now); rows = rows_of now }
says_table y h before now changes rows new leads full =
    let start : Header = begun y.header (head_for h changes) in
    let given : Given =
    after_items with_given (record { next = 0; header = start }) (cells_of h) in
    let gives : GivesCells h start = cells_give h start full in
    let header : given.header ≡ record start { caps = h.caps; used = h.used } = gives.header in
    let made = rows_now y before now changes rows leads in
    let count = length-rows_of now new in
    (λ i. record { header = record (header i) { count = fin.len (made i) }; rows = made i })
    ∙ (λ i. record { header = logged_header y.header h (count i); rows = rows_of now })

-- so it can be appended to a log that leads to a table of the records before
pub says_append : (log : Log) (h : Header) (before now : List Record) (changes : List Change) (file : List ℕ)
    → log.top ≤ length file → HasLog log file → log.table.rows ≡ rows_of before → length before ≤ 2 ^ 32
    → log.cap < 2 ^ 64 → IsRoll before → IsRoll now → LeadsTo before now changes → length now ≤ log.cap
    → CanSay (log.top - log.end) log.table h changes → CanAppend log (entry_for h changes) file
says_append log h before now changes file long there rows names records old new leads fits can = record {
  long = long;
  there = there;
  entry = says_entry log.cap (log.top - log.end) log.table h before now changes rows old new leads fits can;
  names = omega (arith, names, ap fin.len rows, length-rows_of before old);
  records = records;
}
