-- From the records of a slot to the log behind them: the bytes between, which must be zeros, and what holds
-- of a table in the making before the log.
use Rattle.std.proofs.Common.{◌≡◌, ℕ, ◌+◌, ◌*◌, ◌<◌, ◌≤◌, ◌&&◌, Bool, not, true, List, [], ◌∷◌, length, take, ap, sym, ◌∙◌, arith}
use Rattle.std.specs.Prelude.{if◌then◌else◌, slice_index, Ok, Err}
use Rattle.std.proofs.lemmas.Bool.{eqb-true, ne_eqb}
use Rattle.std.proofs.lemmas.List.{drop_more}
use Rattle.std.specs.FinMap as fin
use Rattle.byte_ranges.specs.Ranges.{bytes_at}
use Rattle.byte_ranges.proofs.RangeLaws.{bytes_at-within}
use Rattle.slot_codec.specs.Choice.{codec}
use Rattle.slot_codec.specs.Items.{read_items}
use Rattle.slot_codec.specs.Logs.{gap_step}
use Rattle.slot_codec.specs.Spelling.{cap}
use Rattle.slot_codec.specs.declared.codec.CodecFault.TheVariants as fault
use Rattle.slot_codec.specs.declared.codec.Header.{Header}
use Rattle.slot_codec.proofs.CapLaws.{cap-low}
use Rattle.slot_pair.specs.declared.find.Found.{Found}
use Rattle.extent_table.specs.Extents.{Extents, IsTable}
use Rattle.reopen.specs.Logs.{IsMaking}
use Rattle.reopen.specs.Tables.{IsFound}
use Rattle.reopen.proofs.ItemLaws.{items_bad, items_more}

-- ---- the bytes between

-- the first bytes of a text are zeros, wherever it stands
abbrev pub ClearThrough : List ℕ → ℕ → ℕ → Type 0
ClearThrough text at i = (file : List ℕ) → bytes_at file at (length text) ≡ text
    → read_items gap_step 1 i file at tt ≡ Ok tt

-- a byte of the text is that of the file
byte_there : (text file : List ℕ) (at i : ℕ) → i < length text → bytes_at file at (length text) ≡ text
    → bytes_at file (at + 1 * i) 1 ≡ slice_index text i ∷ []
byte_there text file at i less there =
    let place : at + 1 * i ≡ at + i = omega arith in
    ap (λ p. bytes_at file p 1) place
    ∙ sym (bytes_at-within file at (length text) i 1 (omega (arith, less)))
    ∙ ap (λ (xs : List ℕ). bytes_at xs i 1) there
    ∙ ap (take 1) (drop_more text i 0 less)

pub clear_more : (text : List ℕ) (at i : ℕ) → i < length text → slice_index text i ≡ 0
    → ClearThrough text at i → ClearThrough text at (i + 1)
clear_more text at i less zero clear file there =
    items_more gap_step 1 i file at tt tt tt (clear file there)
    (ap (gap_step tt) (byte_there text file at i less there ∙ ap (λ b. b ∷ []) zero))

-- all of them
pub clear_all : (text : List ℕ) (at i : ℕ) → length text ≤ i → i ≤ length text → ClearThrough text at i
    → ClearThrough text at (length text)
clear_all text at i end few clear file there =
    let all : length text ≡ i = omega (arith, end, few) in
    ap (λ n. read_items gap_step 1 n file at tt) all ∙ clear file there

-- another byte
other_byte : (b : ℕ) → (b ≡ 0 → ⊥) → gap_step tt (b ∷ []) ≡ Err fault.Zeros
other_byte b other = ap (λ (x : Bool). if not (x && true) then Err fault.Zeros else Ok tt) (ne_eqb b 0 other)

pub clear_bad : (text : List ℕ) (at i : ℕ) → i < length text → (slice_index text i ≡ 0 → ⊥)
    → ClearThrough text at i → (file : List ℕ) → bytes_at file at (length text) ≡ text
    → read_items gap_step 1 (length text) file at tt ≡ Err (codec fault.Zeros (at + i))
clear_bad text at i less other clear file there =
    let place : at + 1 * i ≡ at + i = omega arith in
    items_bad gap_step 1 i (length text) file at tt tt fault.Zeros less (clear file there)
    (ap (gap_step tt) (byte_there text file at i less there) ∙ other_byte (slice_index text i) other)
    ∙ ap (λ p. Err (codec fault.Zeros p)) place

-- ---- a table in the making

-- a header and a table that were read are in the making before the log
pub making_before : (room : ℕ) (found : Found) (header : Header) (load : Extents) → IsFound true found header
    → room ≡ cap found.block.names 3 → fin.len load.now ≡ header.count → load.names ≡ found.block.names
    → IsTable load → IsMaking room header load
making_before room found header load is_found room_is count names table =
    let three : header.version ≡ 3 = eqb-true header.version 3 is_found.version in
    record {
      is_table = table;
      room = omega (arith, room_is, names, cap-low found.block.names 3);
      count = sym count;
      few = omega (arith, room_is, is_found.count, ap (cap found.block.names) three);
      fresh = is_found.fresh;
      ranges = is_found.ranges;
    }
