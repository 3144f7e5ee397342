-- What is read as an entry is the spelling of one.
use Rattle.std.proofs.Common.{◌≡◌, ℕ, ◌+◌, ◌-◌, ◌*◌, ◌<◌, ◌≤◌, List, ◌++◌, length, refl, sym, ap, ◌∙◌, subst, arith}
use Rattle.std.specs.FinMap as fin
use Rattle.std.specs.Prelude.{flat_map, Ok}
use Rattle.byte_ranges.specs.Ranges.{bytes_at}
use Rattle.byte_ranges.specs.Lists.{◌>>=◌}
use Rattle.byte_ranges.proofs.RangeLaws.{length-bytes_at}
use Rattle.slot_codec.specs.Entries.{Entry, entry_bytes, entry_head_bytes, entry_len, entry_room, gone_from, moved_from, pair_bytes, puts_from}
use Rattle.slot_codec.specs.Items.{after_items, read_items}
use Rattle.slot_codec.specs.Logs.{Given, IsEntry, Logged, after_entry, begun, gone_step, move_step, put_step, read_changes, read_entry, with_given}
use Rattle.slot_codec.specs.Names.{name_bytes}
use Rattle.slot_codec.specs.Rows.{AreChanges, Rows, changed_rows, moved_row}
use Rattle.slot_codec.specs.Spelling.{AreBytes, record_bytes, zeros}
use Rattle.slot_codec.specs.declared.entry.EntryHead.{EntryHead}
use Rattle.slot_codec.specs.declared.codec.Record.{Record}
use Rattle.slot_codec.proofs.EntryItemLaws.{only_cells, only_moves, only_names, only_puts}
use Rattle.slot_codec.proofs.EntryLaws.{entry_head_parts, entry_head_spelled}
use Rattle.slot_codec.proofs.ItemLaws.{items_back}
use Rattle.slot_codec.proofs.PartLaws.{bytes_at-are_bytes, bytes_at-more}
use Rattle.slot_codec.proofs.ReadEntryLaws.{entry_steps, gap_back}
use Rattle.slot_codec.proofs.StepLaws.{bind_ok}

-- a part that grows at its end
grown : (b : List ℕ) (at n to m all : ℕ) (front part : List ℕ) → at + n ≡ to → n + m ≡ all
    → bytes_at b at n ≡ front → bytes_at b to m ≡ part → bytes_at b at all ≡ front ++ part
grown b at n to m all front part is_to is_all e f =
    ap (bytes_at b at) (sym is_all) ∙ sym (bytes_at-more b at n m)
    ∙ ap (λ k. bytes_at b at n ++ bytes_at b k m) is_to
    ∙ ap (λ xs. xs ++ bytes_at b to m) e ∙ ap (λ xs. front ++ xs) f

-- the three lists that were read behind rows
record ReadChanges (file : List ℕ) (at : ℕ) (h : EntryHead) (rows left : Rows) : Type 0 where
  moved : List (ℕ × ℕ)
  gone : List (List ℕ)
  puts : List Record
  as_many_moved : h.moved ≡ length moved
  as_many_gone : h.gone ≡ length gone
  as_many_puts : h.puts ≡ length puts
  are : AreChanges rows moved gone puts
  moved_text : bytes_at file (at + moved_from h) (16 * h.moved) ≡ flat_map pair_bytes moved
  gone_text : bytes_at file (at + gone_from h) (64 * h.gone) ≡ flat_map name_bytes gone
  puts_text : bytes_at file (at + puts_from h) (112 * h.puts) ≡ flat_map (record_bytes 2) puts
  is : left ≡ changed_rows rows moved gone puts

changes_back : (file : List ℕ) (at : ℕ) (h : EntryHead) (rows left : Rows) → AreBytes file
    → at + entry_len h ≤ length file → read_changes file at h rows ≡ Ok left → ReadChanges file at h rows left
changes_back file at h rows left bytes within read =
    let a = bind_ok (read_items move_step 16 h.moved file (at + moved_from h) rows)
    (λ moved. read_items gone_step 64 h.gone file (at + gone_from h) moved
    >>= λ left. read_items put_step 112 h.puts file (at + puts_from h) left) left read in
    let moved = items_back only_moves h.moved file (at + moved_from h) rows a.0 bytes
    (omega (arith, within)) a.1 in
    let m = after_items moved_row rows moved.items in
    let b = bind_ok (read_items gone_step 64 h.gone file (at + gone_from h) a.0)
    (λ left. read_items put_step 112 h.puts file (at + puts_from h) left) left a.2 in
    let gone = items_back only_names h.gone file (at + gone_from h) m b.0 bytes (omega (arith, within))
    (subst (λ m. read_items gone_step 64 h.gone file (at + gone_from h) m ≡ Ok b.0) moved.is b.1) in
    let g = after_items fin.remove m gone.items in
    let puts = items_back only_puts h.puts file (at + puts_from h) g left bytes (omega (arith, within))
    (subst (λ m. read_items put_step 112 h.puts file (at + puts_from h) m ≡ Ok left) gone.is b.2) in
    record {
      moved = moved.items;
      gone = gone.items;
      puts = puts.items;
      as_many_moved = moved.count;
      as_many_gone = gone.count;
      as_many_puts = puts.count;
      are = record { moves = moved.are; names = gone.are; records = puts.are };
      moved_text = moved.text;
      gone_text = gone.text;
      puts_text = puts.text;
      is = puts.is;
    }

-- an entry that was read
pub record ReadEntry (cap top : ℕ) (file : List ℕ) (at : ℕ) (x y : Logged) : Type 0 where
  pub entry : Entry
  pub fits : IsEntry cap (top - at) x entry
  pub text : bytes_at file (at + 1) (entry_room entry.head - 1) ≡ entry_bytes entry
  pub is : y ≡ after_entry x entry

-- the bytes of an entry, from those of its parts
text_joined : (file : List ℕ) (at : ℕ) (h : EntryHead) (x left : Rows) (cells : List (ℕ × ℕ))
    (c : ReadChanges file at h x left) → bytes_at file (at + 1) 55 ≡ entry_head_bytes h
    → bytes_at file (at + 56) (16 * h.cells) ≡ flat_map pair_bytes cells
    → bytes_at file (at + entry_len h) (entry_room h - entry_len h) ≡ zeros (entry_room h - entry_len h)
    → bytes_at file (at + 1) (entry_room h - 1)
    ≡ entry_bytes (record { head = h; cells = cells; moved = c.moved; gone = c.gone; puts = c.puts })
text_joined file at h x left cells c head cell_text gap =
    let a = grown file (at + 1) 55 (at + 56) (16 * h.cells) (55 + 16 * h.cells) _ _
    (omega arith) refl head cell_text
    in
    let b = grown file (at + 1) (55 + 16 * h.cells) (at + moved_from h) (16 * h.moved)
    (55 + 16 * h.cells + 16 * h.moved) _ _ (omega arith) refl a c.moved_text in
    let d = grown file (at + 1) (55 + 16 * h.cells + 16 * h.moved) (at + gone_from h) (64 * h.gone)
    (55 + 16 * h.cells + 16 * h.moved + 64 * h.gone) _ _ (omega arith) refl b c.gone_text in
    let e = grown file (at + 1) (55 + 16 * h.cells + 16 * h.moved + 64 * h.gone) (at + puts_from h)
    (112 * h.puts) (55 + 16 * h.cells + 16 * h.moved + 64 * h.gone + 112 * h.puts) _ _ (omega arith) refl d
    c.puts_text in
    grown file (at + 1) (55 + 16 * h.cells + 16 * h.moved + 64 * h.gone + 112 * h.puts) (at + entry_len h)
    (entry_room h - entry_len h) (entry_room h - 1) _ _ (omega arith) (omega arith) e gap

-- in a file of bytes, what is read as an entry is the spelling of one
pub entry_back : (cap top : ℕ) (file : List ℕ) (at : ℕ) (x y : Logged) → AreBytes file → top ≤ length file
    → read_entry cap top file at x ≡ Ok y → ReadEntry cap top file at x y
entry_back cap top file at x y bytes long read =
    let text = bytes_at file (at + 1) 55 in
    let p = entry_steps cap top file at x y read in
    let h = p.head in
    let are = bytes_at-are_bytes file (at + 1) 55 bytes in
    let fits = (entry_head_parts cap (fin.len x.rows) (top - at) text h are p.head_read).fits in
    let inside : at + entry_room h < length file = omega (arith, fits.within, long) in
    let len : entry_len h ≤ entry_room h = omega arith in
    let least : 56 ≤ entry_len h = omega arith in
    let spelled = entry_head_spelled cap (fin.len x.rows) (top - at) text h
    (length-bytes_at file (at + 1) 55 (omega (arith, inside, len, least))) are p.head_read in
    let g : Given = record { next = 0; header = begun x.header h } in
    let cells = items_back only_cells h.cells file (at + 56) g p.given bytes (omega (arith, inside, len))
    p.cells_read in
    let changes = changes_back file at h x.rows p.left bytes (omega (arith, inside, len)) p.rows_read in
    let end : Given → Rows → Logged = λ given rows.
    record { header = record given.header { count = fin.len rows }; rows = rows } in
    let gap = gap_back (entry_room h - entry_len h) file (at + entry_len h) (omega (arith, inside, len))
    p.gap_zeros in
    record {
      entry = record {
        head = h;
        cells = cells.items;
        moved = changes.moved;
        gone = changes.gone;
        puts = changes.puts;
      };
      fits = record {
        head = fits;
        cells = cells.count;
        moved = changes.as_many_moved;
        gone = changes.as_many_gone;
        puts = changes.as_many_puts;
        fresh = p.fresh;
        are_cells = cells.are;
        are_changes = changes.are;
        few = subst (λ rows. fin.len rows ≤ cap) changes.is p.few;
      };
      text = text_joined file at h x.rows p.left cells.items changes spelled cells.text gap;
      is = sym p.is ∙ ap (λ given. end given p.left) cells.is
          ∙ ap (end (after_items with_given g cells.items)) changes.is;
    }
