-- An entry has one spelling, reading is its inverse, and it rests on its own bytes.
use Rattle.std.proofs.Common.{◌≡◌, ℕ, zero, suc, ◌+◌, ◌-◌, ◌*◌, ◌<◌, ◌≤◌, ◌^◌, not, List, ◌++◌, length, drop, refl, sym, ap, ◌∙◌, arith, length-append}
use Rattle.std.proofs.lemmas.Bool.{le-ltb, leb-false, lt-leb, ltb-false, not-false}
use Rattle.std.proofs.lemmas.List.{length-replicate, take-append-drop}
use Rattle.std.specs.FinMap as fin
use Rattle.std.specs.Prelude.{if◌then◌else◌, nat_le, nat_lt, flat_map, Result, Ok, Err}
use Rattle.byte_ranges.specs.Ranges.{bytes_at}
use Rattle.byte_ranges.specs.Lists.{◌>>=◌}
use Rattle.byte_ranges.proofs.RangeLaws.{length-bytes_at}
use Rattle.slot_codec.specs.Choice.{SlotRefusal, codec, placed_at}
use Rattle.slot_codec.specs.Entries.{Entry, entry_bytes, entry_head_bytes, entry_len, entry_room, gone_from, moved_from, pair_bytes, puts_from, read_entry_head}
use Rattle.slot_codec.specs.Items.{AreItems, after_items, read_items}
use Rattle.slot_codec.specs.Logs.{Given, IsEntry, Logged, after_entry, begun, cell_step, gap_step, gone_step, move_step, put_step, read_changes, read_entry, with_given}
use Rattle.slot_codec.specs.Names.{name_bytes}
use Rattle.slot_codec.specs.Reading.{are_zeros, log_worn_from}
use Rattle.slot_codec.specs.Rows.{Rows, changed_rows, moved_row}
use Rattle.slot_codec.specs.Spelling.{record_bytes, zeros}
use Rattle.slot_codec.specs.declared.entry.EntryHead.{EntryHead}
use Rattle.slot_codec.specs.declared.codec.CodecFault.TheVariants as fault
use Rattle.slot_codec.proofs.EntryItemLaws.{IsLowMove, moves_low, takes_cells, takes_moves, takes_names, takes_puts}
use Rattle.slot_codec.proofs.EntryLaws.{entry_head_read}
use Rattle.slot_codec.proofs.ItemLaws.{items_read, length-items}
use Rattle.slot_codec.proofs.PartLaws.{StandsAt, bytes_at-more, stands_bytes, stands_left, stands_right, zeros_spelled}
use Rattle.slot_codec.proofs.StepLaws.{bind_from, bind_ok, from_ok, guard_from, guard_ok, placed_ok}

-- ---- the gap

gap_read : (n : ℕ) (file : List ℕ) (at : ℕ) → StandsAt file at (zeros n)
    → read_items gap_step 1 n file at tt ≡ Ok tt
gap_read zero file at there = refl
gap_read (suc n) file at there =
    let here : bytes_at file at 1 ≡ zeros 1 = stands_bytes file at 1 (zeros 1) refl
    (stands_left file at (zeros 1) (zeros n) there) in
    ap (λ bytes. placed_at at (gap_step tt bytes) >>= read_items gap_step 1 n file (at + 1)) here
    ∙ gap_read n file (at + 1) (stands_right file at (at + 1) (zeros 1) (zeros n) refl there)

pub gap_back : (n : ℕ) (file : List ℕ) (at : ℕ) → at + n ≤ length file
    → read_items gap_step 1 n file at tt ≡ Ok tt
    → bytes_at file at n ≡ zeros n
gap_back zero file at within read = refl
gap_back (suc n) file at within read =
    let r = bind_ok (placed_at at (gap_step tt (bytes_at file at 1)))
    (read_items gap_step 1 n file (at + 1)) tt read
    in
    let zero = guard_ok (not (are_zeros (bytes_at file at 1))) fault.Zeros (Ok tt) r.0
    (placed_ok at (gap_step tt (bytes_at file at 1)) r.0 r.1) in
    let here : bytes_at file at 1 ≡ zeros 1 = zeros_spelled (bytes_at file at 1) (not-false _ zero.0)
    ∙ ap zeros (length-bytes_at file at 1 (omega (arith, within))) in
    let later = gap_back n file (at + 1) (omega (arith, within)) r.2 in
    let all : 1 + n ≡ suc n = omega arith in
    ap (bytes_at file at) (sym all) ∙ sym (bytes_at-more file at 1 n)
    ∙ ap (λ b. b ++ bytes_at file (at + 1) n) here ∙ ap (λ b. zeros 1 ++ b) later

-- ---- its spelling is read

-- where the lists of an entry stand, with the gap
record Parts (file : List ℕ) (at : ℕ) (e : Entry) : Type 0 where
  head : StandsAt file (at + 1) (entry_head_bytes e.head)
  cells : StandsAt file (at + 56) (flat_map pair_bytes e.cells)
  moved : StandsAt file (at + moved_from e.head) (flat_map pair_bytes e.moved)
  gone : StandsAt file (at + gone_from e.head) (flat_map name_bytes e.gone)
  puts : StandsAt file (at + puts_from e.head) (flat_map (record_bytes 2) e.puts)
  gap : StandsAt file (at + entry_len e.head) (zeros (entry_room e.head - entry_len e.head))

-- how long its lists are
record Lengths (e : Entry) : Type 0 where
  cells : length (flat_map pair_bytes e.cells) ≡ 16 * e.head.cells
  moved : length (flat_map pair_bytes e.moved) ≡ 16 * e.head.moved
  gone : length (flat_map name_bytes e.gone) ≡ 64 * e.head.gone
  puts : length (flat_map (record_bytes 2) e.puts) ≡ 112 * e.head.puts

low_moves : (cap room : ℕ) (x : Logged) (e : Entry) → fin.len x.rows ≤ 2 ^ 32 → IsEntry cap room x e
    → AreItems IsLowMove moved_row x.rows e.moved
low_moves cap room x e few is =
    moves_low x.rows e.moved (omega (arith, few, is.head.moved, is.moved)) is.are_changes.moves

lengths : (cap room : ℕ) (x : Logged) (e : Entry) → fin.len x.rows ≤ 2 ^ 32 → IsEntry cap room x e → Lengths e
lengths cap room x e few is =
    let moved = after_items moved_row x.rows e.moved in
    let left = after_items fin.remove moved e.gone in
    record {
      cells = length-items takes_cells (record { next = 0; header = begun x.header e.head }) e.cells
          is.are_cells
          ∙ ap (λ n. 16 * n) (sym is.cells);
      moved = length-items takes_moves x.rows e.moved (low_moves cap room x e few is)
          ∙ ap (λ n. 16 * n) (sym is.moved);
      gone = length-items takes_names moved e.gone is.are_changes.names ∙ ap (λ n. 64 * n) (sym is.gone);
      puts = length-items takes_puts left e.puts is.are_changes.records ∙ ap (λ n. 112 * n) (sym is.puts);
    }

entry_parts : (file : List ℕ) (at : ℕ) (e : Entry) → Lengths e → StandsAt file (at + 1) (entry_bytes e)
    → Parts file at e
entry_parts file at e l there =
    let a = entry_head_bytes e.head in
    let b = flat_map pair_bytes e.cells in
    let c = flat_map pair_bytes e.moved in
    let d = flat_map name_bytes e.gone in
    let p = flat_map (record_bytes 2) e.puts in
    let z = zeros (entry_room e.head - entry_len e.head) in
    let s4 = stands_left file (at + 1) (a ++ b ++ c ++ d ++ p) z there in
    let s3 = stands_left file (at + 1) (a ++ b ++ c ++ d) p s4 in
    let s2 = stands_left file (at + 1) (a ++ b ++ c) d s3 in
    let s1 = stands_left file (at + 1) (a ++ b) c s2 in
    let n0 : length a ≡ 55 = refl in
    let n1 = length-append a b in
    let n2 = length-append (a ++ b) c in
    let n3 = length-append (a ++ b ++ c) d in
    let n4 = length-append (a ++ b ++ c ++ d) p in
    record {
      head = stands_left file (at + 1) a b s1;
      cells = stands_right file (at + 1) (at + 56) a b (omega (arith, n0)) s1;
      moved = stands_right file (at + 1) (at + moved_from e.head) (a ++ b) c
          (omega (arith, n0, n1, l.cells)) s2;
      gone = stands_right file (at + 1) (at + gone_from e.head) (a ++ b ++ c) d
          (omega (arith, n0, n1, n2, l.cells, l.moved)) s3;
      puts = stands_right file (at + 1) (at + puts_from e.head) (a ++ b ++ c ++ d) p
          (omega (arith, n0, n1, n2, n3, l.cells, l.moved, l.gone)) s4;
      gap = stands_right file (at + 1) (at + entry_len e.head) (a ++ b ++ c ++ d ++ p) z
          (omega (arith, n0, n1, n2, n3, n4, l.cells, l.moved, l.gone, l.puts)) there;
    }

changes_read : (cap room : ℕ) (file : List ℕ) (at : ℕ) (x : Logged) (e : Entry) → fin.len x.rows ≤ 2 ^ 32
    → IsEntry cap room x e → Parts file at e
    → read_changes file at e.head x.rows ≡ Ok (changed_rows x.rows e.moved e.gone e.puts)
changes_read cap room file at x e few is p =
    let h = e.head in
    let moved = after_items moved_row x.rows e.moved in
    let left = after_items fin.remove moved e.gone in
    let a : read_items move_step 16 h.moved file (at + moved_from h) x.rows ≡ Ok moved =
    ap (λ n. read_items move_step 16 n file (at + moved_from h) x.rows) is.moved
    ∙ items_read takes_moves file (at + moved_from h) x.rows e.moved (low_moves cap room x e few is) p.moved
    in
    let b : read_items gone_step 64 h.gone file (at + gone_from h) moved ≡ Ok left =
    ap (λ n. read_items gone_step 64 n file (at + gone_from h) moved) is.gone
    ∙ items_read takes_names file (at + gone_from h) moved e.gone is.are_changes.names p.gone in
    let c : read_items put_step 112 h.puts file (at + puts_from h) left
    ≡ Ok (changed_rows x.rows e.moved e.gone e.puts) =
    ap (λ n. read_items put_step 112 n file (at + puts_from h) left) is.puts
    ∙ items_read takes_puts file (at + puts_from h) left e.puts is.are_changes.records p.puts in
    bind_from (read_items move_step 16 h.moved file (at + moved_from h) x.rows)
    (λ moved. read_items gone_step 64 h.gone file (at + gone_from h) moved
    >>= λ left. read_items put_step 112 h.puts file (at + puts_from h) left) moved a
    ∙ bind_from (read_items gone_step 64 h.gone file (at + gone_from h) moved)
    (λ left. read_items put_step 112 h.puts file (at + puts_from h) left) left b ∙ c

-- behind its head, cells and lists an entry has a gap, and not too many names
abbrev pub entry_ended : ℕ → List ℕ → ℕ → EntryHead → Given → Rows → Result Logged SlotRefusal
entry_ended cap file at h given rows =
    read_items gap_step 1 (entry_room h - entry_len h) file (at + entry_len h) tt >>= λ none.
    if nat_lt cap (fin.len rows) then Err (codec fault.Count at) else
    Ok (record { header = record given.header { count = fin.len rows }; rows = rows })

-- what is read behind the head
abbrev pub entry_behind : ℕ → List ℕ → ℕ → Logged → EntryHead → Result Logged SlotRefusal
entry_behind cap file at x h =
    if nat_le (log_worn_from h.kind) (x.header.sequence + 1) then Err (codec fault.Worn at) else
    (read_items cell_step 16 h.cells file (at + 56) (record { next = 0; header = begun x.header h })
    >>= λ given. read_changes file at h x.rows
    >>= λ rows. entry_ended cap file at h given rows)

-- the steps in which an entry was read
pub record EntrySteps (cap top : ℕ) (file : List ℕ) (at : ℕ) (x y : Logged) : Type 0 where
  pub head : EntryHead
  pub head_read : read_entry_head cap (fin.len x.rows) (top - at) (bytes_at file (at + 1) 55) ≡ Ok head
  pub fresh : x.header.sequence + 1 < log_worn_from head.kind
  pub given : Given
  pub cells_read : read_items cell_step 16 head.cells file (at + 56)
      (record { next = 0; header = begun x.header head }) ≡ Ok given
  pub left : Rows
  pub rows_read : read_changes file at head x.rows ≡ Ok left
  pub gap_zeros : read_items gap_step 1 (entry_room head - entry_len head) file (at + entry_len head) tt
      ≡ Ok tt
  pub few : fin.len left ≤ cap
  pub is : record { header = record given.header { count = fin.len left }; rows = left } ≡ y

pub entry_steps : (cap top : ℕ) (file : List ℕ) (at : ℕ) (x y : Logged) → read_entry cap top file at x ≡ Ok y
    → EntrySteps cap top file at x y
entry_steps cap top file at x y read =
    let bytes = bytes_at file (at + 1) 55 in
    let a = bind_ok (placed_at at (read_entry_head cap (fin.len x.rows) (top - at) bytes))
    (entry_behind cap file at x) y read in
    let h = a.0 in
    let g : Given = record { next = 0; header = begun x.header h } in
    let b = guard_ok (nat_le (log_worn_from h.kind) (x.header.sequence + 1)) (codec fault.Worn at) _ y a.2 in
    let c = bind_ok (read_items cell_step 16 h.cells file (at + 56) g)
    (λ given. read_changes file at h x.rows >>= λ rows. entry_ended cap file at h given rows) y b.1 in
    let given : Given = c.0 in
    let d = bind_ok (read_changes file at h x.rows) (entry_ended cap file at h given) y c.2 in
    let rows = d.0 in
    let end : Logged = record { header = record given.header { count = fin.len rows }; rows = rows } in
    let e = bind_ok (read_items gap_step 1 (entry_room h - entry_len h) file (at + entry_len h) tt)
    (λ none. if nat_lt cap (fin.len rows) then Err (codec fault.Count at) else Ok end) y d.2 in
    let f = guard_ok (nat_lt cap (fin.len rows)) (codec fault.Count at) (Ok end) y e.2 in
    record {
      head = h;
      head_read = placed_ok at (read_entry_head cap (fin.len x.rows) (top - at) bytes) h a.1;
      fresh = leb-false (log_worn_from h.kind) (x.header.sequence + 1) b.0;
      given = given;
      cells_read = c.1;
      left = rows;
      rows_read = d.1;
      gap_zeros = e.1;
      few = ltb-false cap (fin.len rows) f.0;
      is = from_ok end y f.1;
    }

-- the spelling of an entry is read as it
pub entry_read : (cap top : ℕ) (file : List ℕ) (at : ℕ) (x : Logged) (e : Entry) → cap < 2 ^ 64
    → fin.len x.rows ≤ 2 ^ 32 → IsEntry cap (top - at) x e → StandsAt file (at + 1) (entry_bytes e)
    → read_entry cap top file at x ≡ Ok (after_entry x e)
entry_read cap top file at x e few_cap few is there =
    let h = e.head in
    let room = top - at in
    let p = entry_parts file at e (lengths cap room x e few is) there in
    let g : Given = record { next = 0; header = begun x.header h } in
    let given = after_items with_given g e.cells in
    let rows = changed_rows x.rows e.moved e.gone e.puts in
    let text : bytes_at file (at + 1) 55 ≡ entry_head_bytes h =
    stands_bytes file (at + 1) 55 (entry_head_bytes h) refl p.head in
    let head : placed_at at (read_entry_head cap (fin.len x.rows) room (bytes_at file (at + 1) 55)) ≡ Ok h =
    ap (λ b. placed_at at (read_entry_head cap (fin.len x.rows) room b)) text
    ∙ ap (placed_at at) (entry_head_read cap (fin.len x.rows) room h few_cap (omega (arith, few)) is.head) in
    let cells : read_items cell_step 16 h.cells file (at + 56) g ≡ Ok given =
    ap (λ n. read_items cell_step 16 n file (at + 56) g) is.cells
    ∙ items_read takes_cells file (at + 56) g e.cells is.are_cells p.cells in
    bind_from (placed_at at (read_entry_head cap (fin.len x.rows) room (bytes_at file (at + 1) 55)))
    (entry_behind cap file at x) h head
    ∙ guard_from (nat_le (log_worn_from h.kind) (x.header.sequence + 1)) (codec fault.Worn at)
    (read_items cell_step 16 h.cells file (at + 56) g
    >>= λ given. read_changes file at h x.rows >>= λ rows. entry_ended cap file at h given rows)
    (lt-leb (log_worn_from h.kind) (x.header.sequence + 1) is.fresh)
    ∙ bind_from (read_items cell_step 16 h.cells file (at + 56) g)
    (λ given. read_changes file at h x.rows >>= λ rows. entry_ended cap file at h given rows) given cells
    ∙ bind_from (read_changes file at h x.rows) (entry_ended cap file at h given) rows
    (changes_read cap room file at x e few is p)
    ∙ bind_from (read_items gap_step 1 (entry_room h - entry_len h) file (at + entry_len h) tt)
    (λ none. if nat_lt cap (fin.len rows) then Err (codec fault.Count at) else
    Ok (record { header = record given.header { count = fin.len rows }; rows = rows })) tt
    (gap_read (entry_room h - entry_len h) file (at + entry_len h) p.gap)
    ∙ guard_from (nat_lt cap (fin.len rows)) (codec fault.Count at)
    (Ok (record { header = record given.header { count = fin.len rows }; rows = rows }))
    (le-ltb cap (fin.len rows) is.few)

-- what bytes are or begin with stands there
pub stands_from : (file : List ℕ) (at n : ℕ) (part : List ℕ) → bytes_at file at n ≡ part
    → StandsAt file at part
stands_from file at n part is = record {
  rest = drop n (drop at file);
  is = sym (take-append-drop n (drop at file)) ∙ ap (λ xs. xs ++ drop n (drop at file)) is;
}

pub begins_with : (file : List ℕ) (at n : ℕ) (part rest : List ℕ) → bytes_at file at n ≡ part ++ rest
    → StandsAt file at part
begins_with file at n part rest is = stands_left file at part rest (stands_from file at n (part ++ rest) is)

-- an entry is read from its bytes
pub entry_from : (cap top : ℕ) (file : List ℕ) (at : ℕ) (x : Logged) (e : Entry) → cap < 2 ^ 64
    → fin.len x.rows ≤ 2 ^ 32 → IsEntry cap (top - at) x e
    → bytes_at file (at + 1) (entry_room e.head - 1) ≡ entry_bytes e
    → read_entry cap top file at x ≡ Ok (after_entry x e)
entry_from cap top file at x e few_cap few is text = entry_read cap top file at x e few_cap few is
    (stands_from file (at + 1) (entry_room e.head - 1) (entry_bytes e) text)

-- how long its spelling is
pub length-entry_bytes : (cap room : ℕ) (x : Logged) (e : Entry) → fin.len x.rows ≤ 2 ^ 32
    → IsEntry cap room x e
    → length (entry_bytes e) + 1 ≡ entry_room e.head
length-entry_bytes cap room x e few is =
    let l = lengths cap room x e few is in
    let a = entry_head_bytes e.head in
    let b = flat_map pair_bytes e.cells in
    let c = flat_map pair_bytes e.moved in
    let d = flat_map name_bytes e.gone in
    let p = flat_map (record_bytes 2) e.puts in
    let n = entry_room e.head - entry_len e.head in
    let n0 : length a ≡ 55 = refl in
    omega (
      arith,
      n0,
      length-append a b,
      length-append (a ++ b) c,
      length-append (a ++ b ++ c) d,
      length-append (a ++ b ++ c ++ d) p,
      length-append (a ++ b ++ c ++ d ++ p) (zeros n),
      length-replicate {A = ℕ} n 0,
      l.cells,
      l.moved,
      l.gone,
      l.puts,
    )

-- its head stands in front
pub head_stands : (file : List ℕ) (at : ℕ) (e : Entry) → StandsAt file at (entry_bytes e)
    → StandsAt file at (entry_head_bytes e.head)
head_stands file at e there =
    let a = entry_head_bytes e.head in
    let b = flat_map pair_bytes e.cells in
    let c = flat_map pair_bytes e.moved in
    let d = flat_map name_bytes e.gone in
    let p = flat_map (record_bytes 2) e.puts in
    stands_left file at a b (stands_left file at (a ++ b) c (stands_left file at (a ++ b ++ c) d
    (stands_left file at (a ++ b ++ c ++ d) p (stands_left file at (a ++ b ++ c ++ d ++ p)
    (zeros (entry_room e.head - entry_len e.head)) there))))
