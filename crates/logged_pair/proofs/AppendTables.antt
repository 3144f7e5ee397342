-- The table of a file with a log, of what is like it, and of what has an entry more.
use Rattle.std.specs.Prelude.{◌≡◌, ℕ, ◌+◌, ◌-◌, ◌*◌, ◌/◌, ◌<◌, ◌≤◌, true, false, nat_lt, List, length, None, Ok, refl}
use Rattle.std.proofs.Common.{◌∙◌, ap, arith, inl, inr, sym}
use Rattle.std.proofs.lemmas.Bool.{cases_Bool, cond-false, cond-true}
use Rattle.std.proofs.lemmas.Grind.{common_steps}
use Rattle.byte_ranges.specs.Ranges.{bytes_at}
use Rattle.slot_codec.specs.Cells.{with_cell}
use Rattle.slot_codec.specs.Choice.{Chosen, InUse, chosen_in, is_open, read_records, records_at, records_of, records_text, slot_in}
use Rattle.slot_codec.specs.Items.{read_items}
use Rattle.slot_codec.specs.Logs.{Given, Logged, Reading, begun, cell_step, gap_step, log_end, log_step, read_cell, read_entry, read_log, with_given}
use Rattle.slot_codec.specs.Reading.{is_version_in}
use Rattle.slot_codec.specs.Spelling.{cap, gate_at, head_len, header_len, record_len, slot_at}
use Rattle.slot_codec.specs.declared.codec.Header.{Header}
use Rattle.slot_codec.proofs.CapLaws.{record_len-long}
use Rattle.slot_codec.proofs.ChoiceLaws.{chosen_parts_in, chosen_sequence_in, slot_low}
use Rattle.slot_codec.proofs.HeaderLaws.{header_tests_in}
use Rattle.slot_codec.proofs.ItemLaws.{items_keep, items_same}
use Rattle.slot_codec.proofs.LogLaws.{walk_relates}
use Rattle.slot_codec.proofs.ReadEntryLaws.{entry_steps}
use Rattle.slot_codec.proofs.ReadLogLaws.{log_before, log_end_tells, log_parts}
use Rattle.slot_codec.proofs.StepLaws.{bind_ok, from_ok}
use Rattle.logged_pair.specs.Pairs.{LoggedTable, first_of, logged_in, top_of}
use Rattle.logged_pair.proofs.AppendLaws.{IsShown, shown_slot}
use Rattle.logged_pair.proofs.KeepLaws.{chosen_in_use, chosen_kept, part_same}
use Rattle.logged_pair.proofs.TableLaws.{LogThere, TableParts, behind_from, behind_parts, end_of_records, first_at, same_first, start_of, table_from, table_parts, top_at}

-- ---- a log keeps the version

with_cell-version : (h : Header) (i value : ℕ) → (with_cell h i value).version ≡ h.version
with_cell-version h i value =
    elim (cases_Bool (nat_lt i 32)) [
      | inl on ↦ ap (λ (h : Header). h.version) (cond-true (nat_lt i 32) _ _ on)
      | inr off ↦ ap (λ (h : Header). h.version) (cond-false (nat_lt i 32) _ _ off)
    ]

cell_step-version : (g t : Given) (bytes : List ℕ) → cell_step g bytes ≡ Ok t
    → t.header.version ≡ g.header.version
cell_step-version g t bytes read =
    let r = bind_ok (read_cell g.next bytes) (λ p. Ok (with_given g p)) t read in
    ap (λ (g : Given). g.header.version) (sym (from_ok (with_given g r.0) t r.2))
    ∙ with_cell-version g.header r.0.0 r.0.1

entry_version : (cap top : ℕ) (file : List ℕ) (at : ℕ) (x y : Logged) → read_entry cap top file at x ≡ Ok y
    → y.header.version ≡ x.header.version
entry_version cap top file at x y read =
    let p = entry_steps cap top file at x y read in
    let g : Given = record { next = 0; header = begun x.header p.head } in
    ap (λ (x : Logged). x.header.version) (sym p.is)
    ∙ items_keep cell_step (λ g. g.header.version) cell_step-version 16 p.head.cells file (at + 56) g
    p.given p.cells_read

-- what was read has this version
abbrev HasVersion : ℕ → Reading → ℕ → Type 0
HasVersion version read n = (y : Logged) → read ≡ Ok y → y.header.version ≡ version

version_on : (cap top version : ℕ) (file : List ℕ) (at : ℕ) (read : Reading) (n : ℕ)
    → HasVersion version read n → HasVersion version (log_step cap top file at read) (n + 1)
version_on cap top version file at read n before y is =
    let r = bind_ok read (read_entry cap top file at) y is in
    entry_version cap top file at r.0 y r.2 ∙ before r.0 r.1

log_version : (cap top : ℕ) (file : List ℕ) (at : ℕ) (x y : Logged) (end : ℕ)
    → read_log cap top file at x ≡ Ok (y, end) → y.header.version ≡ x.header.version
log_version cap top file at x y end read =
    let r = log_parts cap top file at x y end read in
    let start : HasVersion x.header.version (Ok x) 0 =
    λ z is. ap (λ (x : Logged). x.header.version) (sym (from_ok x z is)) in
    walk_relates (HasVersion x.header.version) (log_step cap top) (λ file at n. n + 1)
    (version_on cap top x.header.version) (top / 512) file top at (Ok x) 0 start y (ap (λ p. p.0) r.walked)

-- ---- the table of a file whose log ends at a position

-- what is known of it
pub record TableThere (base : InUse) (entries end : ℕ) (file : List ℕ) (t : LoggedTable) : Type 0 where
  pub parts : TableParts file t
  pub low : nat_lt (first_at parts.base) (top_at parts.base) ≡ true
  pub there : LogThere file parts.base parts.records parts.behind
  pub ends : there.end ≡ end
  pub block : parts.base.block ≡ base.block
  pub slot : parts.base.slot ≡ base.slot
  pub sequence : parts.behind.header.sequence ≡ base.sequence + entries
  pub version : parts.behind.header.version ≡ 3
  pub record_long : record_len parts.base.header.version ≡ 112

three : (version : ℕ) → is_version_in true version ≡ true → version ≡ 3
three version h = grind (arith, common_steps, h)

pub table_there : (base : InUse) (entries end : ℕ) (file : List ℕ) (t : LoggedTable)
    → slot_in true file ≡ Ok base → nat_lt (first_of file base) (top_of base) ≡ true
    → log_end file (top_of base) (first_of file base) ≡ (entries, end) → logged_in file ≡ Ok t
    → TableThere base entries end file t
table_there base entries end file t in_use low ends read =
    let p = table_parts file t read in
    let c = p.base in
    let same = same_first file base c in_use p.chosen in
    let below : nat_lt (first_at c) (top_at c) ≡ true =
    (λ i. nat_lt (sym same.0 i) (sym same.1 i)) ∙ low in
    let there = behind_parts file c p.records p.behind below p.log in
    let tells = log_end_tells (cap c.block.names 3) (top_at c) file (first_at c) (start_of c p.records)
    p.behind there.end there.log in
    let both : log_end file (top_at c) (first_at c) ≡ (entries, end) =
    (λ i. log_end file (sym same.1 i) (sym same.0 i)) ∙ ends in
    let e = chosen_in_use file base c in_use p.chosen in
    let q = chosen_parts_in true file c p.chosen in
    let at = slot_at q.in_use.block.names q.in_use.slot in
    let tests = header_tests_in true q.in_use.block.names (bytes_at file at header_len) c.header
    q.header_read in
    let is = three c.header.version tests.version in
    record {
      parts = p;
      low = below;
      there = there;
      ends = sym tells.0 ∙ ap (λ q. q.1) both;
      block = e.0;
      slot = e.1;
      sequence = omega (
        arith,
        tells.1,
        ap (λ q. q.0) both,
        chosen_sequence_in true file base c in_use p.chosen,
      );
      version = log_version (cap c.block.names 3) (top_at c) file (first_at c) (start_of c p.records) p.behind
          there.end there.log ∙ is;
      record_long = ap record_len is ∙ record_len-long 3 refl;
    }

-- ---- of what is like it

-- The log of a slot: where it stands.
pub record LogPlace (base : InUse) (end : ℕ) (file : List ℕ) : Type 0 where
  pub slot : base.slot ≤ 1
  pub long : head_len base.block.names ≤ length file
  pub behind : first_of file base ≤ end
  pub below : end < top_of base

-- what is like a file up to the end of its log, with another log
pub same_table : (base : InUse) (entries end last : ℕ) (a b : List ℕ) (t : LoggedTable) (y : Logged)
    (h : TableThere base entries end a t) → LogPlace base end a → slot_in true a ≡ Ok base
    → IsShown base end a b
    → read_log (cap h.parts.base.block.names 3) (top_at h.parts.base) b (first_at h.parts.base)
    (start_of h.parts.base h.parts.records) ≡ Ok (y, last)
    → logged_in b ≡ Ok (record { chosen = record h.parts.base { header = y.header }; rows = y.rows })
same_table base entries end last a b t y h place in_use shown log =
    table_from b c h.parts.records y chosen (records ∙ h.parts.read)
    (behind_from b c h.parts.records y h.low (record { gap = gap ∙ h.there.gap; end = last; log = log }))
  where
    c : Chosen
    c = h.parts.base

    slot : slot_at base.block.names base.slot ≡ slot_at c.block.names c.slot
    slot = λ i. slot_at (sym h.block i).names (sym h.slot i)

    first : (first_of a base ≡ first_at c) × (top_of base ≡ top_at c)
    first = same_first a base c in_use h.parts.chosen

    behind : first_at c ≤ end
    behind = omega (arith, first.0, place.behind)

    in_slot : end ≤ gate_at base.block.names base.slot
    in_slot = omega (arith, place.below)

    some : slot_at base.block.names base.slot + header_len ≤ end
    some = omega (arith, slot, behind)

    within : gate_at base.block.names base.slot < head_len base.block.names
    within = omega (arith, slot_low base.block.names base.slot place.slot)

    chosen : chosen_in true b ≡ Ok c
    chosen = chosen_kept base end (is_open b (gate_at base.block.names (1 - base.slot))) c a b in_use
        h.parts.chosen shown.keeps some in_slot (shown_slot base end a b in_use some in_slot shown)

    text : records_text b c ≡ records_text a c
    text = part_same base end (records_at c) (record_len c.header.version * c.header.count) a b place.slot
        place.long shown.keeps (omega (arith, slot))
        (omega (arith, behind, ap (λ n. n * c.header.count) h.record_long)) in_slot

    records : records_of b c ≡ records_of a c
    records = ap (λ x. read_records c.header.version c.header.count x (records_at c) None) text

    gap : read_items gap_step 1 (first_at c - end_of_records c) b (end_of_records c) tt
        ≡ read_items gap_step 1 (first_at c - end_of_records c) a (end_of_records c) tt
    gap = sym (items_same gap_step 1 (first_at c - end_of_records c) a b (end_of_records c) (first_at c) tt
        (omega arith) (omega (arith, behind, in_slot, within, place.long))
        (omega (arith, behind, in_slot, within, shown.keeps.long))
        (λ i low high. shown.keeps.slot i (omega (arith, low, slot)) (omega (arith, high, behind))))

-- the old table, while the gate at the end is closed
pub old_table : (base : InUse) (entries end : ℕ) (a b : List ℕ) (t : LoggedTable)
    → TableThere base entries end a t → LogPlace base end a → slot_in true a ≡ Ok base → IsShown base end a b
    → is_open b end ≡ false → logged_in b ≡ Ok t
old_table base entries end a b t h place in_use shown closed =
    same_table base entries end end a b t h.parts.behind h place in_use shown log ∙ ap Ok h.parts.same
  where
    c : Chosen
    c = h.parts.base

    first : (first_of a base ≡ first_at c) × (top_of base ≡ top_at c)
    first = same_first a base c in_use h.parts.chosen

    within : top_of base ≤ head_len base.block.names
    within = omega (arith, slot_low base.block.names base.slot place.slot)

    slot : slot_at base.block.names base.slot ≡ slot_at c.block.names c.slot
    slot = λ i. slot_at (sym h.block i).names (sym h.slot i)

    read : read_log (cap c.block.names 3) (top_at c) a (first_at c) (start_of c h.parts.records)
        ≡ Ok (h.parts.behind, end)
    read = h.there.log ∙ ap (λ n. Ok (h.parts.behind, n)) h.ends

    log : read_log (cap c.block.names 3) (top_at c) b (first_at c) (start_of c h.parts.records)
        ≡ Ok (h.parts.behind, end)
    log = log_before (cap c.block.names 3) (top_at c) a b (first_at c) (start_of c h.parts.records)
        h.parts.behind end (omega (arith, first.1, within, place.long))
        (omega (arith, first.1, within, shown.keeps.long)) read
        (λ i low high. shown.keeps.slot i (omega (arith, low, slot)) high) closed
