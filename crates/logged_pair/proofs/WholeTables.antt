-- What a file stands for once a whole table is written into its other slot, and that slot is open.
use Rattle.std.specs.Prelude.{◌≡◌, ℕ, zero, suc, ◌+◌, ◌-◌, ◌*◌, ◌^◌, ◌<◌, ◌≤◌, ◌==◌, nat_lt, not, if◌then◌else◌, IsTrue, true, false, List, [], ◌∷◌, ◌++◌, length, flat_map, map, None, Ok, refl}
use Rattle.std.proofs.Common.{◌∙◌, ap, arith, inl, inr, subst, sym}
use Rattle.std.proofs.lemmas.Bool.{cases_Bool, cond-false, cond-true, ltb-true, not_from_true}
use Rattle.std.proofs.lemmas.List.{append-nil}
use Rattle.std.specs.Int.{w64, from_le_bytes}
use Rattle.byte_ranges.specs.Ranges.{SameBelow, bytes_at}
use Rattle.byte_ranges.specs.Lists.{◌>>=◌}
use Rattle.byte_ranges.proofs.RangeLaws.{bytes_at-same, bytes_at-within}
use Rattle.slot_codec.specs.Choice.{InUse, is_open, placed_at, read_records, records_at, records_of, sequence_at, slot_in}
use Rattle.slot_codec.specs.Items.{read_items}
use Rattle.slot_codec.specs.Logs.{behind_log, first_gate, gap_step, log_end, log_top}
use Rattle.slot_codec.specs.Readable.{AreInRange, IsHeaderIn}
use Rattle.slot_codec.specs.Reading.{all_in_range, header_in, is_version_in, log_worn_from, number_at, superblock_in}
use Rattle.slot_codec.specs.Rolls.{HaveDigests, IsRoll}
use Rattle.slot_codec.specs.Spelling.{cap, gate_at, gate_open, header_bytes, header_len, kind_code, number, record_bytes, record_len, room_len, slot_at, superblock_len, zeros}
use Rattle.slot_codec.specs.declared.codec.Header.{Header}
use Rattle.slot_codec.specs.declared.codec.Record.{Record}
use Rattle.slot_codec.proofs.CapLaws.{cap-low, record_len-long, records_fit}
use Rattle.slot_codec.proofs.ChoiceLaws.{chosen_of}
use Rattle.slot_codec.proofs.DigestLaws.{AreDigested, as_kept, kept_digested}
use Rattle.slot_codec.proofs.HeaderLaws.{header_read_in}
use Rattle.slot_codec.proofs.PartLaws.{StandsAt, stands_bytes, stands_left, stands_number, stands_right, stands_whole}
use Rattle.slot_codec.proofs.PickLaws.{in_use_from_in, in_use_parts_in}
use Rattle.slot_codec.proofs.ReadEntryLaws.{stands_from}
use Rattle.slot_codec.proofs.ReadLogLaws.{log_closed, log_end_closed}
use Rattle.slot_codec.proofs.RecordsLaws.{records_read}
use Rattle.slot_codec.proofs.RollLaws.{rise_from_roll}
use Rattle.slot_codec.proofs.SlotLaws.{other_low}
use Rattle.slot_codec.proofs.StepLaws.{bind_ok, from_ok}
use Rattle.slot_pair.specs.Bases.{HasBase, base_len, first_gate_at, gap_at}
use Rattle.slot_pair.specs.Saves.{IsWhole, next_header, next_in_use}
use Rattle.logged_pair.specs.Pairs.{InLog, first_of, in_log, log_of, logged_in, top_of}
use Rattle.logged_pair.specs.Saves.{next_table, rewritten}
use Rattle.logged_pair.proofs.KeepLaws.{chosen_from, part_same}
use Rattle.logged_pair.proofs.TableLaws.{behind_from, behind_none, end_of_records, first_at, in_log_from, log_below, log_none, start_of, table_from, top_at}
use Rattle.logged_pair.proofs.WholeLaws.{KeepsAll, other_at, other_gate}

-- the slot in use as it was in front of its log
pub record InFront (u : InLog) (file : List ℕ) : Type 0 where
  pub sequence : ℕ
  pub low : sequence ≤ u.in_use.sequence
  pub slot : slot_in true file ≡ Ok (record u.in_use { sequence = sequence })

pub in_front : (file : List ℕ) (u : InLog) → in_log file ≡ Ok u → InFront u file
in_front file u h =
    let r = bind_ok (slot_in true file) (λ x. Ok (log_of file x)) u h in
    let x = r.0 in
    let low = nat_lt (first_of file x) (top_of x) in
    let ends = log_end file (top_of x) (first_of file x) in
    let front : (n end : ℕ) → x.sequence ≤ n
    → log_of file x ≡ record { in_use = record x { sequence = n }; end = end } → InFront u file =
    λ n end more is.
    let same : record { in_use = record x { sequence = n }; end = end } ≡ u = sym is ∙ from_ok _ u r.2 in
    record {
      sequence = x.sequence;
      low = omega (arith, more, ap (λ (v : InLog). v.in_use.sequence) same);
      slot = r.1 ∙ ap (λ (v : InLog). Ok (record v.in_use { sequence = x.sequence })) same;
    }
    in
    elim (cases_Bool low) [
      | inl on ↦ front (x.sequence + ends.0) (if is_open file ends.1 then 0 else ends.1) (omega arith)
          (cond-false (not low) _ _ (not_from_true _ on))
      | inr off ↦ front x.sequence 0 (omega arith) (log_none file x off)
    ]

-- what is asked of the table
pub record IsAsked (u : InLog) (h : Header) (now : List Record) : Type 0 where
  pub names : u.in_use.block.names ≤ 65536
  pub fresh : u.in_use.sequence < 2 ^ 62 - 1
  pub version : h.version ≡ 3
  pub whole : IsWhole h
  pub numbers : IsTrue (all_in_range h)
  pub count : length now ≤ cap u.in_use.block.names 3
  pub roll : IsRoll now
  pub ranges : AreInRange now
  pub digests : HaveDigests now

-- It stands in the other slot, with what leads to the first gate of a log.
abbrev pub HasNext : InLog → Header → List Record → List ℕ → Type 0
HasNext u h now file = HasBase (other_at u.in_use) (log_top u.in_use.block.names (1 - u.in_use.slot))
    (next_header u.in_use h (length now)) now file

-- And this slot is open, and all of the slot in use is kept.
pub record IsFilled (u : InLog) (h : Header) (now : List Record) (file image : List ℕ) : Type 0 where
  pub front : InFront u file
  pub keeps : KeepsAll (record u.in_use { sequence = front.sequence }) file image
  pub base : HasNext u h now image
  pub opened : is_open image (other_gate u.in_use) ≡ true

-- where nothing is written in front of a position behind it, it stays
pub base_kept : (at top end : ℕ) (h : Header) (rs : List Record) (a b : List ℕ) → end ≤ length a
    → end ≤ length b → SameBelow end a b → at + header_len + record_len h.version * length rs ≤ end
    → top ≤ end → HasBase at top h rs a → HasBase at top h rs b
base_kept at top end h rs a b in_a in_b same fits low base =
    let kept : (from n : ℕ) → from + n ≤ end → bytes_at b from n ≡ bytes_at a from n =
    λ from n high. sym (bytes_at-same a b from n (omega (arith, high, in_a)) (omega (arith, high, in_b))
    (λ i l to. same i (omega (arith, to, high)))) in
    let from = gap_at at (length rs) in
    let gate = first_gate_at at (length rs) in
    record {
      table = record {
        header = kept at header_len (omega (arith, fits)) ∙ base.table.header;
        records = kept (at + header_len) (record_len h.version * length rs) fits ∙ base.table.records;
      };
      gap = λ below. kept from (gate - from) (omega (arith, below, low)) ∙ base.gap below;
      gate = λ below. sym (same gate (omega (arith, below, low))) ∙ base.gate below;
    }

-- it ends in front of the slot's gate
pub base_inside : {at top : ℕ} (names slot count : ℕ) → at ≡ slot_at names slot → top ≡ log_top names slot
    → count ≤ cap names 3 → at + base_len at top count ≤ gate_at names slot
base_inside {at} {top} names slot count here ends few =
    let fit : 112 * count ≤ room_len names =
    subst (λ n. n * count ≤ room_len names) (record_len-long 3 refl) (records_fit names 3 count few) in
    let gate = first_gate_at at count in
    let lead = gate + 1 - gap_at at count in
    elim (cases_Bool (nat_lt gate top)) [
      | inl on ↦ omega (arith, ltb-true gate top on, ends, cond-true (nat_lt gate top) lead 0 on)
      | inr off ↦ omega (arith, fit, here, cond-false (nat_lt gate top) lead 0 off)
    ]

-- the sequence and the count that a header's spelling has
header_numbers : (h : Header) → h.sequence < 2 ^ 64 → h.count < 2 ^ 64
    → (number_at (header_bytes h) 8 ≡ h.sequence) × (number_at (header_bytes h) 16 ≡ h.count)
header_numbers h fresh few =
    let b = header_bytes h in
    let to_padding = (h.version ∷ kind_code h.kind ∷ h.boundary ∷ []) ++ zeros 5 in
    let to_sequence = to_padding ++ number h.sequence in
    let to_count = to_sequence ++ number h.count in
    let to_wall = to_count ++ number h.wall in
    let front = to_wall ++ number h.slack in
    let caps = flat_map number h.caps in
    let all = stands_left b 0 (front ++ caps) (flat_map (flat_map number) h.used) (stands_whole b) in
    let four = stands_left b 0 to_count (number h.wall)
    (stands_left b 0 to_wall (number h.slack) (stands_left b 0 front caps all)) in (
      stands_number b 8 h.sequence fresh
          (stands_right b 0 8 to_padding (number h.sequence) refl
          (stands_left b 0 to_sequence (number h.count) four)),
      stands_number b 16 h.count few (stands_right b 0 16 to_sequence (number h.count) refl four),
    )

-- zeros are a gap
zeros_read : (n : ℕ) (file : List ℕ) (at : ℕ) → StandsAt file at (zeros n)
    → read_items gap_step 1 n file at tt ≡ Ok tt
zeros_read zero file at there = refl
zeros_read (suc n) file at there =
    let here : bytes_at file at 1 ≡ zeros 1 = stands_bytes file at 1 (zeros 1) refl
    (stands_left file at (zeros 1) (zeros n) there) in
    ap (λ bytes. placed_at at (gap_step tt bytes) >>= read_items gap_step 1 n file (at + 1)) here
    ∙ zeros_read n file (at + 1) (stands_right file at (at + 1) (zeros 1) (zeros n) refl there)

-- in version 3 nothing is left out of a record
all_kept : (records : List Record) → map (as_kept 3) records ≡ records
all_kept [] = refl
all_kept (r ∷ records) = ap (λ xs. r ∷ xs) (all_kept records)

module _ {u : InLog} {h : Header} {now : List Record} {file image : List ℕ} where
  -- the sequence and the count of the new slot
  filled_numbers : IsAsked u h now → IsFilled u h now file image
      → (number_at image (other_at u.in_use + 8) ≡ u.in_use.sequence + 1)
      × (number_at image (other_at u.in_use + 16) ≡ length now)
  filled_numbers asked f =
      let at = other_at u.in_use in
      let next = next_header u.in_use h (length now) in
      let spelled = header_numbers next (omega (arith, asked.fresh))
      (omega (arith, asked.count, cap-low u.in_use.block.names 3, asked.names)) in
      let in_header : (i : ℕ) → i + 8 ≤ header_len
      → number_at image (at + i) ≡ number_at (header_bytes next) i =
      λ i low. ap (from_le_bytes w64) (sym (bytes_at-within image at header_len i 8 low))
      ∙ ap (λ (xs : List ℕ). number_at xs i) f.base.table.header in
      (in_header 8 (omega arith) ∙ spelled.0, in_header 16 (omega arith) ∙ spelled.1)

  -- it is in use
  filled_in_use : IsAsked u h now → IsFilled u h now file image
      → slot_in true image ≡ Ok (next_in_use u.in_use)
  filled_in_use asked f =
      let x : InUse = record u.in_use { sequence = f.front.sequence } in
      let names = x.block.names in
      let p = in_use_parts_in true file x f.front.slot in
      let back : 1 - (1 - x.slot) ≡ x.slot = omega (arith, p.slot) in
      let was : sequence_at image names x.slot ≡ x.sequence =
      ap (from_le_bytes w64) (part_same x (gate_at names x.slot) (slot_at names x.slot + 8) 8 file image
      p.slot p.long f.keeps (omega arith) (omega arith) (omega arith)) ∙ p.sequence in
      in_use_from_in true image (next_in_use u.in_use) record {
        block = ap (superblock_in true) (sym (bytes_at-same file image 0 superblock_len
            (omega (arith, p.long)) (omega (arith, f.keeps.long))
            (λ i low high. f.keeps.front i low (omega (arith, high))))) ∙ p.block;
        long = f.keeps.long;
        formatted = ap (λ x. x == gate_open) (sym f.keeps.format) ∙ p.formatted;
        slot = other_low x.slot;
        gate = f.opened;
        sequence = (filled_numbers asked f).0;
        other = ap (λ s. is_open image (gate_at names s)) back ∙ ap (λ x. x == gate_open) (sym f.keeps.gate)
            ∙ p.gate;
        newer = λ e. omega (arith, ap (sequence_at image names) back, was, f.front.low);
      }

  -- so the pair is that of the file
  pub filled_in_log : IsAsked u h now → IsFilled u h now file image
      → in_log image ≡ Ok (rewritten u (length now))
  filled_in_log asked f =
      let v = next_in_use u.in_use in
      let top = top_of v in
      let first = first_gate v.block.names v.slot (length now) in
      let is : first_of image v ≡ first =
      ap (first_gate v.block.names v.slot) (filled_numbers asked f).1 in
      let test : nat_lt (first_of image v) top ≡ nat_lt first top = ap (λ n. nat_lt n top) is in
      let log : log_of image v ≡ rewritten u (length now) =
      elim (cases_Bool (nat_lt first top)) [
        | inl on ↦
            let gate : is_open image (first_of image v) ≡ false =
            ap (is_open image) is ∙ ap (λ x. x == gate_open) (f.base.gate (ltb-true first top on)) in
            let none : v.sequence + 0 ≡ v.sequence = omega arith in
            let end = is ∙ sym (cond-true (nat_lt first top) first 0 on) in
            log_below image v 0 (first_of image v) (test ∙ on)
            (log_end_closed image top (first_of image v) gate) gate
            ∙ λ i. record { in_use = record v { sequence = none i }; end = end i }
        | inr off ↦
            log_none image v (test ∙ off)
            ∙ ap (λ n. record { in_use = v; end = n }) (sym (cond-false (nat_lt first top) first 0 off))
      ] in
      in_log_from image v (rewritten u (length now)) (filled_in_use asked f) log

  -- And its table is the one that was written, where its header isn't refused.
  pub filled_read : IsAsked u h now → IsFilled u h now file image
      → u.in_use.sequence + 1 < log_worn_from h.kind
      → logged_in image ≡ Ok (next_table u (rewritten u (length now)) h now)
  filled_read asked f fresh =
      let v = next_in_use u.in_use in
      let names = v.block.names in
      let next = next_header u.in_use h (length now) in
      let c = chosen_of v next in
      let first = first_at c in
      let end = end_of_records c in
      let start = start_of c now in
      let fits : IsHeaderIn true names next = record {
        version = ap (is_version_in true) asked.version;
        boundary = asked.whole.boundary;
        sequence = fresh;
        count = subst (λ k. length now ≤ cap names k) (sym asked.version) asked.count;
        ranges = asked.numbers;
        caps_full = asked.whole.caps_full;
        used_full = asked.whole.used_full;
        rows_full = asked.whole.rows_full;
      } in
      let chosen = chosen_from image v next (filled_in_use asked f)
      (ap (header_in true names) f.base.table.header
      ∙ header_read_in true names next (omega (arith, asked.names)) fits) in
      let kept = subst (λ k. map (as_kept k) now ≡ now) (sym asked.version) (all_kept now) in
      let records : records_of image c ≡ Ok now =
      ap (λ xs. read_records h.version (length now) xs (records_at c) None)
      (f.base.table.records ∙ sym (append-nil (flat_map (record_bytes h.version) now)))
      ∙ records_read h.version now [] (records_at c) None (rise_from_roll now asked.roll asked.ranges)
      (subst (AreDigested h.version) kept (kept_digested h.version now asked.digests)) in
      let log : behind_log image c now ≡ Ok start =
      elim (cases_Bool (nat_lt first (top_at c))) [
        | inl on ↦
            let low = ltb-true first (top_at c) on in
            behind_from image c now start on record {
              gap = zeros_read (first - end) image end
                  (stands_from image end (first - end) _ (f.base.gap low));
              end = first;
              log = log_closed (cap names 3) (top_at c) image first start
                  (ap (λ x. x == gate_open) (f.base.gate low));
            }
        | inr off ↦ behind_none image c now off
      ] in
      table_from image c now start chosen records log
