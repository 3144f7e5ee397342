-- The items of an entry's lists are taken from their spellings, and from nothing else.
use Rattle.std.proofs.Common.{◌≡◌, ℕ, zero, suc, ◌+◌, ◌<◌, ◌≤◌, ◌^◌, true, false, not, ◌||◌, List, [], ◌∷◌, ◌++◌, length, refl, sym, ap, ◌∙◌, arith}
use Rattle.std.proofs.lemmas.Bool.{eqb-false, le-ltb, lt-ltb, ltb-false, ltb-true, ne_eqb, not-false, not_from_true, or_from, or_parts}
use Rattle.std.proofs.lemmas.List.{take_all}
use Rattle.std.specs.Cmp.Lexicographic.{nat_list_cmp_total}
use Rattle.std.specs.FinMap as fin
use Rattle.std.specs.Prelude.{◌==◌, Bool, cond, if◌then◌else◌, nat_lt, slice_get, Option, Some, None, Result, Ok, Err}
use Rattle.byte_ranges.specs.Ranges.{bytes_at}
use Rattle.byte_ranges.specs.Lists.{◌>>=◌}
use Rattle.slot_codec.specs.Cells.{header_cells}
use Rattle.slot_codec.specs.Entries.{pair_at, pair_bytes}
use Rattle.slot_codec.specs.Items.{AreItems}
use Rattle.slot_codec.specs.Logs.{Given, IsCell, cell_step, gone_step, move_step, put_step, read_cell, read_move, with_given}
use Rattle.slot_codec.specs.Names.{name_bytes}
use Rattle.slot_codec.specs.Reading.{is_in_range, number_at, read_name, read_record}
use Rattle.slot_codec.specs.Rows.{IsGone, IsMove, IsPut, Rows, moved_row, with_place, with_row}
use Rattle.slot_codec.specs.Spelling.{AreBytes, number, record_bytes}
use Rattle.slot_codec.specs.declared.codec.Record.{Record}
use Rattle.slot_codec.specs.declared.codec.CodecFault.{CodecFault}
use Rattle.slot_codec.specs.declared.codec.CodecFault.TheVariants as fault
use Rattle.slot_codec.proofs.CapLaws.{record_len-long}
use Rattle.slot_codec.proofs.ItemLaws.{TakenItem, TakesItems, TakesNoOther}
use Rattle.slot_codec.proofs.NameLaws.{name_named, name_read, name_spelled}
use Rattle.slot_codec.proofs.NameLemmas.{length-name_bytes}
use Rattle.slot_codec.proofs.PartLaws.{bytes_at-more, number_spelled, stands_left, stands_number, stands_right, stands_whole}
use Rattle.slot_codec.proofs.RecordLaws.{length-record_bytes, record_exact, record_read}
use Rattle.slot_codec.proofs.StepLaws.{bind_from, bind_ok, from_ok, guard_from, guard_ok}

-- ---- pairs

pub pair_read : (p : ℕ × ℕ) → p.0 < 2 ^ 64 → p.1 < 2 ^ 64 → pair_at (pair_bytes p) 0 ≡ p
pair_read p low high =
    let b = pair_bytes p in
    let whole = stands_whole b in
    let first : number_at b 0 ≡ p.0 = stands_number b 0 p.0 low
    (stands_left b 0 (number p.0) (number p.1) whole) in
    let second : number_at b 8 ≡ p.1 = stands_number b 8 p.1 high
    (stands_right b 0 8 (number p.0) (number p.1) refl whole) in
    λ i. (first i, second i)

pub pair_spelled : (b : List ℕ) → length b ≡ 16 → AreBytes b → b ≡ pair_bytes (pair_at b 0)
pair_spelled b long are =
    let first : number (number_at b 0) ≡ bytes_at b 0 8 = number_spelled b 0 are (omega (arith, long)) in
    let second : number (number_at b 8) ≡ bytes_at b 8 8 = number_spelled b 8 are (omega (arith, long)) in
    sym (ap (λ xs. xs ++ number (number_at b 8)) first ∙ ap (λ xs. bytes_at b 0 8 ++ xs) second
    ∙ bytes_at-more b 0 8 8 ∙ take_all 16 b (omega (arith, long)))

-- ---- cells

-- the cell that a pair is, where it may have at least this number
abbrev cell_from : ℕ → ℕ × ℕ → Result (ℕ × ℕ) CodecFault
cell_from next p =
    if nat_lt p.0 next || not (nat_lt p.0 header_cells) then Err fault.Order else
    if p.1 == 0 || not (is_in_range p.1) then Err fault.Range else
    Ok p

cell_taken : (g : Given) (p : ℕ × ℕ) → IsCell g p → cell_step g (pair_bytes p) ≡ Ok (with_given g p)
cell_taken g p c =
    let is = pair_read p (omega (arith, c.cell)) (omega (arith, c.range)) in
    let later : nat_lt p.0 g.next ≡ false = le-ltb p.0 g.next c.later in
    let cell : nat_lt p.0 header_cells ≡ true = lt-ltb p.0 header_cells c.cell in
    let some : (p.1 == 0) ≡ false = ne_eqb p.1 0 (λ none. omega (arith, none, c.some)) in
    let range : is_in_range p.1 ≡ true = lt-ltb p.1 (2 ^ 48) c.range in
    let fits : cell_from g.next p ≡ Ok p =
    guard_from _ fault.Order _ (or_from _ _ later (not_from_true _ cell))
    ∙ guard_from _ fault.Range _ (or_from _ _ some (not_from_true _ range)) in
    ap (λ q. cell_from g.next q >>= λ p. Ok (with_given g p)) is
    ∙ bind_from (cell_from g.next p) (λ p. Ok (with_given g p)) p fits

cell_parts : (g : Given) (p q : ℕ × ℕ) → cell_from g.next p ≡ Ok q → IsCell g p × (p ≡ q)
cell_parts g p q h =
    let order = guard_ok (nat_lt p.0 g.next || not (nat_lt p.0 header_cells)) _ _ q h in
    let range = guard_ok (p.1 == 0 || not (is_in_range p.1)) _ _ q order.1 in
    let a = or_parts (nat_lt p.0 g.next) (not (nat_lt p.0 header_cells)) order.0 in
    let b = or_parts (p.1 == 0) (not (is_in_range p.1)) range.0 in
    let some : p.1 ≡ 0 → ⊥ = eqb-false p.1 0 b.0 in (
      record {
        later = ltb-false p.0 g.next a.0;
        cell = ltb-true p.0 header_cells (not-false _ a.1);
        some = positive p.1 some;
        range = ltb-true p.1 (2 ^ 48) (not-false _ b.1);
      },
      from_ok p q range.1,
    )
  where
    positive : (n : ℕ) → (n ≡ 0 → ⊥) → 0 < n
    positive zero h = absurd (h refl)
    positive (suc n) h = omega arith

cell_back : (g t : Given) (bytes : List ℕ) → length bytes ≡ 16 → AreBytes bytes → cell_step g bytes ≡ Ok t
    → TakenItem with_given IsCell pair_bytes g t bytes
cell_back g t bytes long are h =
    let r = bind_ok (read_cell g.next bytes) (λ p. Ok (with_given g p)) t h in
    let p = pair_at bytes 0 in
    let parts = cell_parts g p r.0 r.1 in
    record {
      item = p;
      fits = parts.0;
      text = pair_spelled bytes long are;
      is = sym (from_ok (with_given g r.0) t r.2) ∙ ap (with_given g) (sym parts.1);
    }

pub takes_cells : TakesItems cell_step with_given IsCell pair_bytes 16
takes_cells = record { long = λ g p c. refl; takes = cell_taken }

pub only_cells : TakesNoOther cell_step with_given IsCell pair_bytes 16
only_cells = record { back = cell_back }

-- ---- moves

-- the move that a pair is, of one of so many objects
abbrev move_from : ℕ → ℕ × ℕ → Result (ℕ × ℕ) CodecFault
move_from count p =
    if not (nat_lt p.0 count) then Err fault.Absent else
    if not (is_in_range p.1) then Err fault.Range else
    Ok p

-- a move whose rank has eight bytes
pub record IsLowMove (rows : Rows) (p : ℕ × ℕ) : Type 0 where
  pub move : IsMove rows p
  pub low : p.0 < 2 ^ 64

move_taken : (rows : Rows) (p : ℕ × ℕ) → IsLowMove rows p → move_step rows (pair_bytes p)
    ≡ Ok (moved_row rows p)
move_taken rows p m =
    let is = pair_read p m.low (omega (arith, m.move.place)) in
    let there : nat_lt p.0 (fin.len rows) ≡ true = lt-ltb p.0 (fin.len rows) m.move.there in
    let place : is_in_range p.1 ≡ true = lt-ltb p.1 (2 ^ 48) m.move.place in
    let fits : move_from (fin.len rows) p ≡ Ok p =
    guard_from _ fault.Absent _ (not_from_true _ there) ∙ guard_from _ fault.Range _ (not_from_true _ place)
    in
    ap (λ q. move_from (fin.len rows) q >>= λ p. Ok (moved_row rows p)) is
    ∙ bind_from (move_from (fin.len rows) p) (λ p. Ok (moved_row rows p)) p fits

pub takes_moves : TakesItems move_step moved_row IsLowMove pair_bytes 16
takes_moves = record { long = λ rows p m. refl; takes = move_taken }

move_back : (rows t : Rows) (bytes : List ℕ) → length bytes ≡ 16 → AreBytes bytes
    → move_step rows bytes ≡ Ok t
    → TakenItem moved_row IsMove pair_bytes rows t bytes
move_back rows t bytes long are h =
    let r = bind_ok (read_move (fin.len rows) bytes) (λ p. Ok (moved_row rows p)) t h in
    let p = pair_at bytes 0 in
    let there = guard_ok (not (nat_lt p.0 (fin.len rows))) _ _ r.0 r.1 in
    let place = guard_ok (not (is_in_range p.1)) _ _ r.0 there.1 in
    record {
      item = p;
      fits = record {
        there = ltb-true p.0 (fin.len rows) (not-false _ there.0);
        place = ltb-true p.1 (2 ^ 48) (not-false _ place.0);
      };
      text = pair_spelled bytes long are;
      is = sym (from_ok (moved_row rows r.0) t r.2) ∙ ap (moved_row rows) (sym (from_ok p r.0 place.1));
    }

pub only_moves : TakesNoOther move_step moved_row IsMove pair_bytes 16
only_moves = record { back = move_back }

-- ---- names that go

gone_taken : (rows : Rows) (name : List ℕ) → IsGone rows name
    → gone_step rows (name_bytes name) ≡ Ok (fin.remove rows name)
gone_taken rows name g =
    bind_from (read_name (name_bytes name))
    (λ name. if not (fin.contains_key rows name) then Err fault.Absent else Ok (fin.remove rows name)) name
    (name_read name g.named)
    ∙ guard_from (not (fin.contains_key rows name)) fault.Absent (Ok (fin.remove rows name))
    (not_from_true _ g.there)

pub takes_names : TakesItems gone_step fin.remove IsGone name_bytes 64
takes_names = record { long = λ rows name g. length-name_bytes name g.named; takes = gone_taken }

name_back : (rows t : Rows) (bytes : List ℕ) → length bytes ≡ 64 → AreBytes bytes
    → gone_step rows bytes ≡ Ok t
    → TakenItem fin.remove IsGone name_bytes rows t bytes
name_back rows t bytes long are h =
    let r = bind_ok (read_name bytes)
    (λ name. if not (fin.contains_key rows name) then Err fault.Absent else Ok (fin.remove rows name)) t h in
    let there = guard_ok (not (fin.contains_key rows r.0)) fault.Absent (Ok (fin.remove rows r.0)) t r.2 in
    record {
      item = r.0;
      fits = record { named = name_named bytes r.0 r.1; there = not-false _ there.0 };
      text = name_spelled bytes r.0 long r.1;
      is = sym (from_ok (fin.remove rows r.0) t there.1);
    }

pub only_names : TakesNoOther gone_step fin.remove IsGone name_bytes 64
only_names = record { back = name_back }

-- ---- records that are put

put_taken : (rows : Rows) (r : Record) → IsPut rows r → put_step rows (record_bytes 2 r)
    ≡ Ok (with_row rows r)
put_taken rows r p = bind_from (read_record 2 (record_bytes 2 r)) (λ r. Ok (with_row rows r)) r
    (record_read 2 r p.in_range p.digest)

pub takes_puts : TakesItems put_step with_row IsPut (record_bytes 2) 112
takes_puts = record {
  long = λ rows r p. length-record_bytes 2 r p.in_range.named p.digest.len ∙ record_len-long 2 refl;
  takes = put_taken;
}

put_back : (rows t : Rows) (bytes : List ℕ) → length bytes ≡ 112 → AreBytes bytes → put_step rows bytes ≡ Ok t
    → TakenItem with_row IsPut (record_bytes 2) rows t bytes
put_back rows t bytes long are h =
    let r = bind_ok (read_record 2 bytes) (λ r. Ok (with_row rows r)) t h in
    let s = (record_exact 2 bytes r.0 (long ∙ sym (record_len-long 2 refl)) are).0 r.1 in
    record {
      item = r.0;
      fits = record { in_range = s.0; digest = s.1 };
      text = s.2;
      is = sym (from_ok (with_row rows r.0) t r.2);
    }

pub only_puts : TakesNoOther put_step with_row IsPut (record_bytes 2) 112
only_puts = record { back = put_back }

-- ---- ranks are low

len-with_row : (rows : Rows) (r : Record) → fin.len (with_row rows r) ≤ fin.len rows + 1
len-with_row rows r = either (fin.contains_key rows r.name) (fin.len rows) (fin.len (with_row rows r))
    (fin.len-insert nat_list_cmp_total rows r.name r)
  where
    either : (b : Bool) (n m : ℕ) → m ≡ cond b n (n + 1) → m ≤ n + 1
    either true n m h = omega (arith, h)
    either false n m h = omega (arith, h)

len-with_place : (rows : Rows) (found : Option Record) (place : ℕ)
    → fin.len (with_place rows found place) ≤ fin.len rows + 1
len-with_place rows None place = omega arith
len-with_place rows (Some r) place = len-with_row rows (record r { place = place })

-- moves behind a table of not too many names have low ranks
pub moves_low : (rows : Rows) (ps : List (ℕ × ℕ)) → fin.len rows + length ps < 2 ^ 64
    → AreItems IsMove moved_row rows ps → AreItems IsLowMove moved_row rows ps
moves_low rows [] few are = tt
moves_low rows (p ∷ ps) few are =
    let grows = len-with_place rows (slice_get (fin.values rows) p.0) p.1 in
    let rest : fin.len (moved_row rows p) + length ps < 2 ^ 64 = omega (arith, few, grows) in (
      record { move = are.0; low = omega (arith, are.0.there, few) },
      moves_low
          (moved_row rows p) ps rest are.1,
    )
