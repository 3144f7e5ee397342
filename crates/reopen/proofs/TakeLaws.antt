-- What one item of an entry makes of a header and of a table in the making.
use Rattle.std.proofs.Common.{◌≡◌, ℕ, zero, suc, ◌+◌, ◌-◌, ◌/◌, ◌%◌, ◌<◌, ◌≤◌, ◌^◌, Bool, true, false, cond, not, ◌&&◌, ◌||◌, ◌==◌, nat_lt, if◌then◌else◌, inl, inr, List, [], ◌∷◌, length, Option, Some, None, IsSome, IfSome, OnOk, IfErr, is_some, IsTrue, refl, ap, sym, ◌∙◌, subst, arith}
use Rattle.std.specs.Prelude.{Result, Ok, Err, slice_set, slice_index_or}
use Rattle.std.specs.List.{list_all, slice_get}
use Rattle.std.specs.FinMap as fin
use Rattle.std.proofs.lemmas.Bool.{and_from, and_parts, cases_Bool, cond-true, cond-false, lt-ltb, ltb-true, not-false}
use Rattle.std.proofs.lemmas.Cmp.{nat_list_cmp_total}
use Rattle.std.proofs.lemmas.Option.{slice_get_cases}
use Rattle.byte_ranges.specs.Lists.{◌>>=◌}
use Rattle.slot_codec.specs.Cells.{header_cells, with_cell, with_used}
use Rattle.slot_codec.specs.Entries.{pair_at}
use Rattle.slot_codec.specs.Logs.{cell_step, gap_step, gone_step, move_step, put_step, read_cell, read_move}
use Rattle.slot_codec.specs.Reading.{all_in_range, is_in_range, read_name, read_record}
use Rattle.slot_codec.specs.Rows.{Rows, moved_row, with_row}
use Rattle.slot_codec.specs.Spelling.{digest_len}
use Rattle.slot_codec.specs.declared.codec.CodecFault.{CodecFault}
use Rattle.slot_codec.specs.declared.codec.CodecFault.TheVariants as codec
use Rattle.slot_codec.specs.declared.codec.Header.{Header}
use Rattle.slot_codec.specs.declared.codec.Record.{Record}
use Rattle.slot_codec.proofs.StepLaws.{bind_from, from_ok, guard_ok}
use Rattle.extent_table.specs.declared.spot.Spot.{Spot}
use Rattle.extent_table.specs.Extents.{Extents, IsTable, Spots, record_of}
use Rattle.extent_table.proofs.ExtentLaws.{records_of-nth}
use Rattle.extent_table.proofs.SaveLaws.{entry_of}
use Rattle.reopen.specs.Items.{AreRows, Passing, Stands, Taken, given, item_step}
use Rattle.reopen.specs.Logs.{KeepsLoad, rows_in}
use Rattle.reopen.specs.declared.items.Part.{Part}
use Rattle.reopen.specs.declared.items.Part.TheVariants as part
use Rattle.reopen.specs.declared.items.Progress.{Progress}
use Rattle.reopen.proofs.RowLaws.{rows_count, rows_have, rows_moved, rows_put, rows_removed}

-- ---- cells

all_set : {X : Type 0} (p : X → Bool) (xs : List X) (i : ℕ) (v : X) → p v ≡ true → list_all p xs ≡ true
    → list_all p (slice_set xs i v) ≡ true
all_set p [] i v is all = refl
all_set p (x ∷ xs) zero v is all = let parts = and_parts (p x) (list_all p xs) all in
    and_from (p v) (list_all p xs) is parts.1
all_set p (x ∷ xs) (suc i) v is all = let parts = and_parts (p x) (list_all p xs) all in
    and_from (p x) (list_all p (slice_set xs i v)) parts.0 (all_set p xs i v is parts.1)

all_at : {X : Type 0} (p : X → Bool) (xs : List X) (i : ℕ) (d : X) → p d ≡ true → list_all p xs ≡ true
    → p (slice_index_or xs i d) ≡ true
all_at p [] i d is all = is
all_at p (x ∷ xs) zero d is all = (and_parts (p x) (list_all p xs) all).0
all_at p (x ∷ xs) (suc i) d is all = all_at p xs i d is (and_parts (p x) (list_all p xs) all).1

-- a cell in range leaves a header in range
pub in_range-cell : (h : Header) (i v : ℕ) → v < 2 ^ 48 → IsTrue (all_in_range h)
    → IsTrue (all_in_range (with_cell h i v))
in_range-cell h i v low ranges =
    let fits : is_in_range v ≡ true = lt-ltb v (2 ^ 48) low in
    let all = and_parts (is_in_range h.wall && is_in_range h.slack && list_all is_in_range h.caps)
    (list_all (list_all is_in_range) h.used) ranges in
    let front = and_parts (is_in_range h.wall && is_in_range h.slack) (list_all is_in_range h.caps) all.0 in
    let caps = all_set is_in_range h.caps i v fits front.1 in
    let row = slice_index_or h.used (i / 32 - 1) [] in
    let used = all_set (list_all is_in_range) h.used (i / 32 - 1) (slice_set row (i % 32) v)
    (all_set is_in_range row (i % 32) v fits
    (all_at (list_all is_in_range) h.used (i / 32 - 1) [] refl all.1)) all.1 in
    elim (cases_Bool (nat_lt i 32)) [
      | inl on ↦
          ap all_in_range (cond-true (nat_lt i 32) (record h { caps = slice_set h.caps i v })
          (record h { used = with_used h.used i v }) on)
          ∙ and_from (is_in_range h.wall && is_in_range h.slack && list_all is_in_range (slice_set h.caps i
          v))
          (list_all (list_all is_in_range) h.used)
          (and_from (is_in_range h.wall && is_in_range h.slack)
          (list_all is_in_range (slice_set h.caps i v)) front.0 caps) all.1
      | inr off ↦
          ap all_in_range (cond-false (nat_lt i 32) (record h { caps = slice_set h.caps i v })
          (record h { used = with_used h.used i v }) off)
          ∙ and_from (is_in_range h.wall && is_in_range h.slack && list_all is_in_range h.caps)
          (list_all (list_all is_in_range) (with_used h.used i v)) all.0 used
    ]

-- a cell that is read is in range
pub cell_low : (next : ℕ) (bytes : List ℕ) (p : ℕ × ℕ) → read_cell next bytes ≡ Ok p → p.1 < 2 ^ 48
cell_low next bytes p read =
    let q = pair_at bytes 0 in
    let place = guard_ok (nat_lt q.0 next || not (nat_lt q.0 header_cells)) codec.Order
    (if q.1 == 0 || not (is_in_range q.1) then Err codec.Range else Ok q) p read in
    let value = guard_ok (q.1 == 0 || not (is_in_range q.1)) codec.Range (Ok q) p place.1 in
    let same : q ≡ p = from_ok q p value.1 in
    let low = or_parts (q.1 == 0) (not (is_in_range q.1)) value.0 in
    subst (λ n. n < 2 ^ 48) (ap (λ (r : ℕ × ℕ). r.1) same)
    (ltb-true q.1 (2 ^ 48) (not-false (is_in_range q.1) low.1))
  where
    or_parts : (a b : Bool) → (a || b) ≡ false → (a ≡ false) × (b ≡ false)
    or_parts true b h = cc
    or_parts false b h = (refl, h)

-- ---- moves

-- the entry of a rank, and what a move makes of a table
pub record IsMoved (rank place : ℕ) (old new : Extents) : Type 0 where
  pub entry : List ℕ × Spot
  pub there : slice_get (fin.entries old.now) rank ≡ Some entry
  pub only : new ≡ record old { now = fin.insert old.now entry.0 (record entry.1 { place = place }) }

abbrev pub moved_from : Extents → ℕ → List ℕ × Spot → Extents
moved_from old place e = record old { now = fin.insert old.now e.0 (record e.1 { place = place }) }

pub is_moved : (rank place : ℕ) (old new : Extents) → rank < fin.len old.now
    → IfSome (slice_get (fin.entries old.now) rank) (λ e. new ≡ moved_from old place e)
    → IsMoved rank place old new
is_moved rank place old new live only =
    elim (slice_get_cases (fin.entries old.now) rank).1 [
      | inl found ↦ record {
        entry = found.0;
        there = found.2;
        only = subst (λ o. IfSome o (λ e. new ≡ moved_from old place e)) found.2 only;
      }
      | inr past ↦ absurd (omega (arith, past.0, live, fin.len-entries old.now))
    ]

-- it keeps what a log keeps
pub moved_keeps : (rank place : ℕ) (old new : Extents) → IsMoved rank place old new → KeepsLoad old new
moved_keeps rank place old new t = record {
  names = ap (λ (e : Extents). e.names) t.only;
  cap = ap (λ (e : Extents). e.cap) t.only;
  kept = ap (λ (e : Extents). e.kept) t.only;
  kept_digests = ap (λ (e : Extents). e.kept_digests) t.only;
}

-- and how many names there are
pub moved_count : (rank place : ℕ) (old new : Extents) → IsTable old → IsMoved rank place old new
    → fin.len new.now ≡ fin.len old.now
moved_count rank place old new table t =
    let found = entry_of old.now rank (record_of t.entry)
    (records_of-nth old.now table.now_named rank t.entry t.there) in
    ap (λ (e : Extents). fin.len e.now) t.only
    ∙ fin.len-insert nat_list_cmp_total old.now t.entry.0 (record t.entry.1 { place = place })
    ∙ ap (λ o. cond (is_some o) (fin.len old.now) (fin.len old.now + 1)) found.1

-- the move of an item is taken
pub move_taken : (bytes : List ℕ) (p : ℕ × ℕ) (old new : Extents) → IsTable old → IsTable new
    → read_move (fin.len old.now) bytes ≡ Ok p → IsMoved p.0 p.1 old new
    → move_step (rows_in old) bytes ≡ Ok (rows_in new)
move_taken bytes p old new table table' read t =
    ap (λ n. read_move n bytes >>= λ q. Ok (moved_row (rows_in old) q)) (rows_count old table)
    ∙ bind_from (read_move (fin.len old.now) bytes) (λ q. Ok (moved_row (rows_in old) q)) p read
    ∙ ap Ok (sym (rows_moved p.0 p.1 t.entry old new table table' t.there t.only))

pub move_refused : (bytes : List ℕ) (f : CodecFault) (old : Extents) → IsTable old
    → read_move (fin.len old.now) bytes ≡ Err f → move_step (rows_in old) bytes ≡ Err f
move_refused bytes f old table read =
    ap (λ n. read_move n bytes >>= λ q. Ok (moved_row (rows_in old) q)) (rows_count old table)
    ∙ ap (λ o. o >>= λ q. Ok (moved_row (rows_in old) q)) read

-- ---- names that go

-- a test that is true where something is there says that nothing is
pub nothing_there : {A : Type 0} (o : Option A) (test : Bool) → (IsSome o → IsTrue test) → test ≡ false
    → is_some o ≡ false
nothing_there None test says off = refl
nothing_there (Some x) test says off = sym (says refl) ∙ off

abbrev gone_if : Rows → List ℕ → Result Rows CodecFault
gone_if rows name = if not (fin.contains_key rows name) then Err codec.Absent else Ok (fin.remove rows name)

pub gone_taken : (bytes name : List ℕ) (old new : Extents) → IsTable old → IsTable new
    → read_name bytes ≡ Ok name → IsSome (fin.get old.now name)
    → new.now ≡ fin.remove old.now name → new.digests ≡ fin.remove old.digests name
    → gone_step (rows_in old) bytes ≡ Ok (rows_in new)
gone_taken bytes name old new table table' read there now digests =
    let has : fin.contains_key (rows_in old) name ≡ true = rows_have old table name ∙ there in
    bind_from (read_name bytes) (gone_if (rows_in old)) name read
    ∙ ap (λ b. if not b then Err codec.Absent else Ok (fin.remove (rows_in old) name)) has
    ∙ ap Ok (sym (rows_removed name old new table table' now digests))

pub gone_absent : (bytes name : List ℕ) (old : Extents) → IsTable old → read_name bytes ≡ Ok name
    → is_some (fin.get old.now name) ≡ false → gone_step (rows_in old) bytes ≡ Err codec.Absent
gone_absent bytes name old table read none =
    let has : fin.contains_key (rows_in old) name ≡ false = rows_have old table name ∙ none in
    bind_from (read_name bytes) (gone_if (rows_in old)) name read
    ∙ ap (λ b. if not b then Err codec.Absent else Ok (fin.remove (rows_in old) name)) has

-- a name that goes leaves no more names
pub gone_few : (spots : Spots) (name : List ℕ) → fin.len (fin.remove spots name) ≤ fin.len spots
gone_few spots name = fewer (fin.contains_key spots name) (fin.len spots) (fin.len (fin.remove spots name))
    (fin.len-remove nat_list_cmp_total spots name)
  where
    fewer : (b : Bool) (n m : ℕ) → m ≡ cond b (n - 1) n → m ≤ n
    fewer true n m is = omega (arith, is)
    fewer false n m is = omega (arith, is)

-- ---- records that are put

-- how many records there are with one more
with_row_count : (rows : Rows) (r : Record) → fin.len rows ≤ fin.len (with_row rows r)
with_row_count rows r = more (fin.contains_key rows r.name) (fin.len rows) (fin.len (with_row rows r))
    (fin.len-insert nat_list_cmp_total rows r.name r)
  where
    more : (b : Bool) (n m : ℕ) → m ≡ cond b n (n + 1) → n ≤ m
    more true n m is = omega (arith, is)
    more false n m is = omega (arith, is)

-- a record more than there is room for
pub put_over : (cap : ℕ) (over : Bool) (rows : Rows) (r : Record) (load : Extents) → IsTable load
    → AreRows cap over rows load → is_some (fin.get load.now r.name) ≡ false → cap ≤ fin.len load.now
    → AreRows cap true (with_row rows r) load
put_over cap true rows r load table are none full = omega (arith, are, with_row_count rows r)
put_over cap false rows r load table are none full =
    let count : fin.len rows ≡ fin.len load.now = ap fin.len are ∙ rows_count load table in
    let new : fin.contains_key rows r.name ≡ false =
    ap (λ m. fin.contains_key m r.name) are ∙ rows_have load table r.name ∙ none in
    let more : fin.len (with_row rows r) ≡ fin.len rows + 1 =
    fin.len-insert nat_list_cmp_total rows r.name r
    ∙ ap (λ b. cond b (fin.len rows) (fin.len rows + 1)) new in
    omega (arith, more, count, full)

-- a record that is set
pub put_set : (cap : ℕ) (over : Bool) (rows : Rows) (r : Record) (old new : Extents) → IsTable old → IsTable
    new
    → AreRows cap over rows old → length r.digest ≡ digest_len
    → new.now ≡ fin.insert old.now r.name (record { place = r.place; size = r.size })
    → new.digests ≡ fin.insert old.digests r.name r.digest
    → AreRows cap over (with_row rows r) new
put_set cap true rows r old new table table' are long now digests = omega (arith, are, with_row_count rows r)
put_set cap false rows r old new table table' are long now digests =
    ap (λ m. with_row m r) are ∙ sym (rows_put r old new table table' long now digests)

pub put_taken : (bytes : List ℕ) (r : Record) (rows : Rows) → read_record 2 bytes ≡ Ok r
    → put_step rows bytes ≡ Ok (with_row rows r)
put_taken bytes r rows read = bind_from (read_record 2 bytes) (λ s. Ok (with_row rows s)) r read

-- a name that is there, or one more where there is room, is no name too many
pub put_few : (cap : ℕ) (spots : Spots) (name : List ℕ) (spot : Spot) → fin.len spots ≤ cap
    → (is_some (fin.get spots name) ≡ false → fin.len spots < cap) → fin.len (fin.insert spots name spot) ≤
    cap
put_few cap spots name spot few room = by_name (is_some (fin.get spots name)) refl
    (fin.len-insert nat_list_cmp_total spots name spot)
  where
    by_name : (b : Bool) → is_some (fin.get spots name) ≡ b
        → fin.len (fin.insert spots name spot) ≡ cond b (fin.len spots) (fin.len spots + 1)
        → fin.len (fin.insert spots name spot) ≤ cap
    by_name true is count = omega (arith, count, few)
    by_name false is count = omega (arith, count, room is)

-- ---- an item of a part

-- a cell
pub cell_stands : (cap : ℕ) (p : Passing) (progress now : Progress) (header after : Header) (load : Extents)
    (bytes : List ℕ) → Stands part.Cells cap p progress header load
    → cell_step (given progress.next header) bytes ≡ Ok (given now.next after) → now.over ≡ progress.over
    → Taken part.Cells cap (item_step part.Cells p bytes) now after load
cell_stands cap p progress now header after load bytes stands read over = record {
  passing = record p { given = given now.next after };
  read = ap (λ g. cell_step g bytes >>= λ h. Ok (record p { given = h })) stands.at_cell
      ∙ ap (λ o. o >>= λ h. Ok (record p { given = h })) read;
  stands = record {
    at_cell = refl;
    rows = subst (λ b. AreRows cap b p.rows load) (sym over) stands.rows;
    clear = λ part. over ∙ stands.clear part;
  };
}

-- the rows before an item that no names are too many for
pub rows_before : (cap : ℕ) (over : Bool) (rows : Rows) (load : Extents) → over ≡ false
    → AreRows cap over rows load → rows ≡ rows_in load
rows_before cap over rows load clear are = subst (λ b. AreRows cap b rows load) clear are

rows_after : (cap : ℕ) (over : Bool) (rows : Rows) (load : Extents) → over ≡ false → rows ≡ rows_in load
    → AreRows cap over rows load
rows_after cap over rows load clear are = subst (λ b. AreRows cap b rows load) (sym clear) are

-- a move
pub move_stands : (cap : ℕ) (p : Passing) (progress : Progress) (header : Header) (old new : Extents)
    (bytes : List ℕ) → Stands part.Moved cap p progress header old
    → move_step (rows_in old) bytes ≡ Ok (rows_in new)
    → Taken part.Moved cap (item_step part.Moved p bytes) progress header new
move_stands cap p progress header old new bytes stands read =
    let clear = stands.clear refl in
    let before = rows_before cap progress.over p.rows old clear stands.rows in
    record {
      passing = record p { rows = rows_in new };
      read = ap (λ m. move_step m bytes >>= λ rows. Ok (record p { rows = rows })) before
          ∙ ap (λ o. o >>= λ rows. Ok (record p { rows = rows })) read;
      stands = record {
        at_cell = stands.at_cell;
        rows = rows_after cap progress.over (rows_in new) new clear refl;
        clear = stands.clear;
      };
    }

-- a name
pub gone_stands : (cap : ℕ) (p : Passing) (progress : Progress) (header : Header) (old new : Extents)
    (bytes : List ℕ) → Stands part.Gone cap p progress header old
    → gone_step (rows_in old) bytes ≡ Ok (rows_in new)
    → Taken part.Gone cap (item_step part.Gone p bytes) progress header new
gone_stands cap p progress header old new bytes stands read =
    let clear = stands.clear refl in
    let before = rows_before cap progress.over p.rows old clear stands.rows in
    record {
      passing = record p { rows = rows_in new };
      read = ap (λ m. gone_step m bytes >>= λ rows. Ok (record p { rows = rows })) before
          ∙ ap (λ o. o >>= λ rows. Ok (record p { rows = rows })) read;
      stands = record {
        at_cell = stands.at_cell;
        rows = rows_after cap progress.over (rows_in new) new clear refl;
        clear = stands.clear;
      };
    }

-- a record
pub put_stands : (cap : ℕ) (p : Passing) (progress now : Progress) (header : Header) (old new : Extents)
    (bytes : List ℕ) (after : Rows) → Stands part.Puts cap p progress header old
    → put_step p.rows bytes ≡ Ok after → AreRows cap now.over after new → now.next ≡ progress.next
    → Taken part.Puts cap (item_step part.Puts p bytes) now header new
put_stands cap p progress now header old new bytes after stands read are next = record {
  passing = record p { rows = after };
  read = ap (λ o. o >>= λ rows. Ok (record p { rows = rows })) read;
  stands = record {
    at_cell = stands.at_cell ∙ ap (λ n. given n header) (sym next);
    rows = are;
    clear = λ part. absurd (cc);
  };
}

-- a byte of a gap
pub gap_stands : (cap : ℕ) (p : Passing) (progress : Progress) (header : Header) (load : Extents)
    (bytes : List ℕ) → Stands part.Gap cap p progress header load → gap_step tt bytes ≡ Ok tt
    → Taken part.Gap cap (item_step part.Gap p bytes) progress header load
gap_stands cap p progress header load bytes stands read = record {
  passing = p;
  read = ap (λ o. o >>= λ none. Ok p) read;
  stands = stands;
}

-- ---- an item of any part

-- what an answer says of Ok or Err alone
pub on_ok : {T E X Y : Type 0} (r : Result T E) → (X → Y) → OnOk r X → OnOk r Y
on_ok (Ok x) f h = f h
on_ok (Err e) f h = h

pub if_err : {T E : Type 0} {X Y : E → Type 0} (r : Result T E) → ((e : E) → X e → Y e) → IfErr r X → IfErr r
    Y
if_err (Ok x) f h = h
if_err (Err e) f h = f e h

-- an item leads from where a header and a table in the making stand to where they stand then
abbrev pub Leads : ℕ → Passing → List ℕ → Progress → Progress → Header → Header → Extents → Extents → Part →
    Type 0
Leads cap p bytes progress now header after old new part =
    Stands part cap p progress header old → Taken part cap (item_step part p bytes) now after new

-- a record that is refused
pub put_refused : (p : Passing) (bytes : List ℕ) (f : CodecFault) → put_step p.rows bytes ≡ Err f
    → item_step part.Puts p bytes ≡ Err f
put_refused p bytes f read = ap (λ o. o >>= λ rows. Ok (record p { rows = rows })) read
