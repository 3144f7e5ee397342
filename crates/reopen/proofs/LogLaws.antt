-- Behind the parts of an entry, and from one entry of a log to the next.
use Rattle.std.proofs.Common.{◌≡◌, ℕ, zero, suc, ◌+◌, ◌<◌, ◌≤◌, ◌^◌, true, false, ◌&&◌, nat_lt, List, IsTrue, refl, ap, sym, ◌∙◌, subst, arith}
use Rattle.std.specs.Prelude.{Ok, Err}
use Rattle.std.specs.List.{list_all}
use Rattle.std.specs.FinMap as fin
use Rattle.std.proofs.lemmas.Bool.{and_from, cond-true, cond-false, le-ltb, lt-ltb}
use Rattle.std.proofs.lemmas.Option.{same_Some}
use Rattle.slot_codec.specs.Choice.{codec}
use Rattle.slot_codec.specs.Entries.{entry_room}
use Rattle.slot_codec.specs.Logs.{Given, begun}
use Rattle.slot_codec.specs.Reading.{all_in_range, is_in_range, log_worn_from, worn_from}
use Rattle.slot_codec.specs.declared.codec.CodecFault.TheVariants as fault
use Rattle.slot_codec.specs.declared.codec.Header.{Header}
use Rattle.slot_codec.specs.declared.codec.Kind.{Kind}
use Rattle.slot_codec.specs.declared.codec.Kind.TheVariants as kind
use Rattle.slot_codec.specs.declared.entry.EntryHead.{EntryHead}
use Rattle.slot_codec.proofs.StepLaws.{bind_from}
use Rattle.slot_pair.specs.Finding.{Refuses}
use Rattle.slot_pair.specs.declared.find.SlotFault.{SlotFault}
use Rattle.slot_pair.proofs.RefusalLaws.{refuses_on}
use Rattle.extent_table.specs.Extents.{Extents, IsTable}
use Rattle.reopen.specs.Entries.{EndWithin, behind_parts, entered, first_of, parts_of, read_parts, read_rest}
use Rattle.reopen.specs.Items.{AreRows, KeepsMaking, Passing, Stands, Taken, items_len}
use Rattle.reopen.specs.Logs.{IsMaking, KeepsBase, logged_of, rows_in}
use Rattle.reopen.specs.declared.items.Items.{Items}
use Rattle.reopen.specs.declared.items.Part.TheVariants as part
use Rattle.reopen.specs.declared.items.Progress.{Progress}
use Rattle.reopen.proofs.RowLaws.{rows_count}

-- ---- the parts of an entry

-- they stand within its bytes and the gap
pub parts_within : (h : EntryHead) (at end : ℕ) → at + entry_room h ≤ end → EndWithin (parts_of h at) end
parts_within h at end within zero x is = subst (λ (y : Items). y.at + items_len y ≤ end)
    (same_Some _ x is) (omega (arith, within))
parts_within h at end within (suc zero) x is = subst (λ (y : Items). y.at + items_len y ≤ end)
    (same_Some _ x is) (omega (arith, within))
parts_within h at end within (suc (suc zero)) x is = subst (λ (y : Items). y.at + items_len y ≤ end)
    (same_Some _ x is) (omega (arith, within))
parts_within h at end within (suc (suc (suc zero))) x is = subst (λ (y : Items). y.at + items_len y ≤ end)
    (same_Some _ x is) (omega (arith, within))
parts_within h at end within (suc (suc (suc (suc zero)))) x is =
    subst (λ (y : Items). y.at + items_len y ≤ end)
    (same_Some _ x is) (omega (arith, within))
parts_within h at end within (suc (suc (suc (suc (suc k))))) x is = absurd (cc)

-- a header before the cells of an entry is in range
pub begun_in_range : (header : Header) (h : EntryHead) → h.wall < 2 ^ 48 → h.slack < 2 ^ 48
    → IsTrue (all_in_range (begun header h))
begun_in_range header h wall slack =
    let walls = and_from (is_in_range h.wall) (is_in_range h.slack) (lt-ltb h.wall (2 ^ 48) wall)
    (lt-ltb h.slack (2 ^ 48) slack) in
    and_from (is_in_range h.wall && is_in_range h.slack && list_all is_in_range (begun header h).caps)
    (list_all (list_all is_in_range) (begun header h).used)
    (and_from (is_in_range h.wall && is_in_range h.slack) (list_all is_in_range (begun header h).caps) walls
    refl)
    refl

-- a sequence that isn't worn in a log isn't worn
pub fresh_anyway : (k : Kind) (n : ℕ) → n < log_worn_from k → n < worn_from k
fresh_anyway kind.Settled n h = h
fresh_anyway kind.Moving n h = omega (arith, h)

-- a table before the parts
abbrev pub start : Progress
start = record { next = 0; over = false }

entered_stands : (cap at : ℕ) (header : Header) (load : Extents) (h : EntryHead)
    → Stands (first_of (parts_of h at)) cap (entered (logged_of header load) h) start (begun header h) load
entered_stands cap at header load h = record { at_cell = refl; rows = refl; clear = λ first. refl }

-- what is known of the parts of an entry that are taken one after another
pub record IsEntered (at : ℕ) (header started : Header) (h : EntryHead) (parts : List Items) : Type 0 where
  pub parts_are : parts ≡ parts_of h at
  pub begins : started ≡ begun header h

stands_first : (cap at : ℕ) (header started : Header) (load : Extents) (h : EntryHead) (parts : List Items)
    → IsEntered at header started h parts
    → Stands (first_of parts) cap (entered (logged_of header load) h) start started load
stands_first cap at header started load h parts t =
    subst (λ xs. Stands (first_of xs) cap (entered (logged_of header load) h) start started load)
    (sym t.parts_are)
    (subst (λ s. Stands (first_of (parts_of h at)) cap (entered (logged_of header load) h) start s load)
    (sym t.begins) (entered_stands cap at header load h))

-- a part is refused
pub entry_refused : (cap at : ℕ) (file : List ℕ) (header started : Header) (load : Extents) (h : EntryHead)
    (parts : List Items) (why : SlotFault) → IsEntered at header started h parts
    → ((p : Passing) → Stands (first_of parts) cap p start started load → Refuses (read_parts parts file p)
    why)
    → Refuses (read_rest cap file at (logged_of header load) h) why
entry_refused cap at file header started load h parts why t refused =
    let p = entered (logged_of header load) h in
    let bad = subst (λ xs. Refuses (read_parts xs file p) why) t.parts_are
    (refused p (stands_first cap at header started load h parts t)) in
    refuses_on (read_parts (parts_of h at) file p) (behind_parts cap at) why bad

-- the table behind the parts
entry_parts : (cap at : ℕ) (file : List ℕ) (header started after : Header) (old new : Extents) (h : EntryHead)
    (parts : List Items) (now : Progress) → IsEntered at header started h parts
    → ((p : Passing) → Stands (first_of parts) cap p start started old
    → Taken part.Gap cap (read_parts parts file p) now after new)
    → Taken part.Gap cap (read_parts (parts_of h at) file (entered (logged_of header old) h)) now after new
entry_parts cap at file header started after old new h parts now t taken =
    let p = entered (logged_of header old) h in
    subst (λ xs. Taken part.Gap cap (read_parts xs file p) now after new) t.parts_are
    (taken p (stands_first cap at header started old h parts t))

-- more records than there is room for
pub entry_over : (cap at : ℕ) (file : List ℕ) (header started after : Header) (old new : Extents)
    (h : EntryHead) (parts : List Items) (now : Progress) → IsEntered at header started h parts
    → ((p : Passing) → Stands (first_of parts) cap p start started old
    → Taken part.Gap cap (read_parts parts file p) now after new)
    → now.over ≡ true → read_rest cap file at (logged_of header old) h ≡ Err (codec fault.Count at)
entry_over cap at file header started after old new h parts now t taken over =
    let p = entered (logged_of header old) h in
    let all = entry_parts cap at file header started after old new h parts now t taken in
    let more : cap < fin.len all.passing.rows =
    subst (λ b. AreRows cap b all.passing.rows new) over all.stands.rows in
    bind_from (read_parts (parts_of h at) file p) (behind_parts cap at) all.passing all.read
    ∙ cond-true (nat_lt cap (fin.len all.passing.rows)) (Err (codec fault.Count at)) _
    (lt-ltb cap (fin.len all.passing.rows) more)

-- the table in the making behind an entry
pub entry_taken : (cap at count : ℕ) (file : List ℕ) (header started after : Header) (old new : Extents)
    (h : EntryHead) (parts : List Items) (now : Progress) → IsEntered at header started h parts
    → ((p : Passing) → Stands (first_of parts) cap p start started old
    → Taken part.Gap cap (read_parts parts file p) now after new)
    → now.over ≡ false → IsTable new → fin.len new.now ≤ cap → count ≡ fin.len new.now
    → read_rest cap file at (logged_of header old) h ≡ Ok (logged_of (record after { count = count }) new)
entry_taken cap at count file header started after old new h parts now t taken over table few is =
    let p = entered (logged_of header old) h in
    let all = entry_parts cap at file header started after old new h parts now t taken in
    let rows : all.passing.rows ≡ rows_in new =
    subst (λ b. AreRows cap b all.passing.rows new) over all.stands.rows in
    let counted : fin.len all.passing.rows ≡ fin.len new.now = ap fin.len rows ∙ rows_count new table in
    let low : nat_lt cap (fin.len all.passing.rows) ≡ false =
    le-ltb cap (fin.len all.passing.rows) (omega (arith, few, counted)) in
    bind_from (read_parts (parts_of h at) file p) (behind_parts cap at) all.passing all.read
    ∙ cond-false (nat_lt cap (fin.len all.passing.rows)) (Err (codec fault.Count at)) _ low
    ∙ ap (λ n. Ok (record {
      header = record all.passing.given.header { count = n };
      rows = all.passing.rows;
    }))
    (counted ∙ sym is)
    ∙ ap (λ (g : Given). Ok (record { header = record g.header { count = count }; rows = all.passing.rows }))
    all.stands.at_cell
    ∙ ap (λ m. Ok (record { header = record after { count = count }; rows = m })) rows

-- what holds behind it
pub entry_making : (cap count : ℕ) (header started after : Header) (old new : Extents) (h : EntryHead)
    → IsMaking cap header old → started ≡ begun header h → KeepsMaking cap started after old new
    → header.sequence + 1 < log_worn_from h.kind → h.wall < 2 ^ 48 → h.slack < 2 ^ 48
    → count ≡ fin.len new.now → IsMaking cap (record after { count = count }) new
entry_making cap count header started after old new h making begins keeps fresh wall slack is =
    let few = keeps.few (omega (arith, making.few, making.count)) in
    let begin = subst (λ s. IsTrue (all_in_range s)) (sym begins) (begun_in_range header h wall slack) in
    let kind_is : after.kind ≡ h.kind = ap (λ (x : Header). x.kind) keeps.cells
    ∙ ap (λ (x : Header). x.kind) begins in
    let sequence_is : after.sequence ≡ header.sequence + 1 = ap (λ (x : Header). x.sequence) keeps.cells
    ∙ ap (λ (x : Header). x.sequence) begins in
    record {
      is_table = keeps.table making.is_table;
      room = omega (arith, making.room, keeps.load.names);
      count = is;
      few = omega (arith, few, is);
      fresh = subst (λ k. after.sequence < worn_from k) (sym kind_is)
          (subst (λ n. n < worn_from h.kind) (sym sequence_is)
          (fresh_anyway h.kind (header.sequence + 1) fresh));
      ranges = keeps.ranges begin;
    }

pub entry_keeps : (cap count : ℕ) (header started after : Header) (old new : Extents) (h : EntryHead)
    → started ≡ begun header h → KeepsMaking cap started after old new
    → KeepsBase header (record after { count = count }) old new
entry_keeps cap count header started after old new h begins keeps = record {
  version = ap (λ (x : Header). x.version) keeps.cells ∙ ap (λ (x : Header). x.version) begins;
  load = keeps.load;
}
