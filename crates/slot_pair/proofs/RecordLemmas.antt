-- Records that are spelled one after another, and written piece by piece.
use Rattle.std.proofs.Common.{◌≡◌, ℕ, ◌+◌, ◌*◌, ◌<◌, ◌≤◌, List, [], ◌∷◌, ◌++◌, length, min, take, drop, refl, sym, ap, ◌∙◌, arith, length-drop}
use Rattle.std.proofs.lemmas.Grind.{flat_map-append}
use Rattle.std.proofs.lemmas.List.{append-nil, get_or-drop, take_more}
use Rattle.std.proofs.lemmas.Option.{get_or_from_slice_get, same_Some, slice_get_within}
use Rattle.std.proofs.lemmas.Slice.{take-put_mid}
use Rattle.std.proofs.Math.Seq.{take-add}
use Rattle.std.specs.Prelude.{flat_map, get_or, option_map, slice_get, None, Option, Some}
use borrow.Rule.Slice.PartMut.{put_mid}
use Rattle.byte_ranges.specs.Ranges.{SameOutside, bytes_at, overwritten}
use Rattle.byte_ranges.proofs.RangeLaws.{bytes_at-append, bytes_at-overwritten, bytes_at-same, overwritten-below, length-overwritten}
use Rattle.slot_codec.specs.Spelling.{header_bytes, record_bytes, record_len}
use Rattle.slot_codec.specs.declared.codec.Header.{Header}
use Rattle.slot_codec.specs.declared.codec.Record.{Record}
use Rattle.slot_pair.specs.Saves.{HasTable}

-- what a function gave of a value that may be there, it gave of one that is
pub mapped : {A B : Type 0} (f : A → B) (o : Option A) (b : B) → option_map f o ≡ Some b
    → (a : A) × (o ≡ Some a) × (f a ≡ b)
mapped f None b is = absurd (cc)
mapped f (Some a) b is = (a, refl, same_Some (f a) b is)

-- one record more
more_records : (spell : Record → List ℕ) (rs : List Record) (first i : ℕ) (r : Record)
    → slice_get rs (first + i) ≡ Some r → flat_map spell (take (i + 1) (drop first rs))
    ≡ flat_map spell (take i (drop first rs)) ++ spell r
more_records spell rs first i r at =
    let within : i < length (drop first rs) =
    omega (arith, length-drop first rs, slice_get_within rs (first + i) r at) in
    let next : get_or (drop first rs) i r ≡ r = get_or-drop first rs i r
    ∙ get_or_from_slice_get rs (first + i) r r at in
    ap (flat_map spell) (take_more (drop first rs) i r within
    ∙ ap (λ x. take i (drop first rs) ++ x ∷ []) next)
    ∙ flat_map-append spell (take i (drop first rs)) (r ∷ [])
    ∙ ap (λ xs. flat_map spell (take i (drop first rs)) ++ xs) (append-nil (spell r))

pub spelled_next : (spell : Record → List ℕ) (len : ℕ) (out ys : List ℕ) (rs : List Record) (first i k : ℕ)
    (r : Record) → slice_get rs (first + i) ≡ Some r → ys ≡ spell r → length ys ≡ len → len * i ≤ length out
    → take (len * i) out ≡ flat_map spell (take i (drop first rs))
    → take (len * (i + 1)) (put_mid (len * i) k out ys) ≡ flat_map spell (take (i + 1) (drop first rs))
spelled_next spell len out ys rs first i k r at is long within before =
    take-put_mid (len * i) k out ys (len * (i + 1)) (omega (arith, long)) within
    ∙ ap (λ xs. xs ++ ys) before
    ∙ ap (λ xs. flat_map spell (take i (drop first rs)) ++ xs) is
    ∙ sym (more_records spell rs first i r at)

-- no piece is written
pub none_written : (spell : Record → List ℕ) (len : ℕ) (file : List ℕ) (at : ℕ) (rs : List Record)
    → bytes_at file at (len * min (512 * 0) (length rs))
    ≡ flat_map spell (take (min (512 * 0) (length rs)) rs)
none_written spell len file at rs =
    let none : min (512 * 0) (length rs) ≡ 0 = omega arith in
    let no_bytes : len * 0 ≡ 0 = omega arith in
    rw (none, no_bytes) refl

-- a piece more is written
pub next_written : (spell : Record → List ℕ) (len : ℕ) (file after bytes : List ℕ) (rs : List Record)
    (at first n : ℕ)
    → at + len * (first + n) ≤ length file → bytes ≡ flat_map spell (take n (drop first rs))
    → length bytes ≡ len * n → after ≡ overwritten file (at + len * first) bytes
    → bytes_at file at (len * first) ≡ flat_map spell (take first rs)
    → bytes_at after at (len * (first + n)) ≡ flat_map spell (take (first + n) rs)
next_written spell len file after bytes rs at first n within spelled long written before =
    let start = at + len * first in
    let inside : start + length bytes ≤ length file = omega (arith, within, long) in
    let same_length : length after ≡ length file = ap length written
    ∙ length-overwritten file start bytes inside in
    let split : len * (first + n) ≡ len * first + len * n = omega arith in
    let front : bytes_at after at (len * first) ≡ bytes_at file at (len * first) =
    bytes_at-same after file at (len * first) (omega (arith, within, same_length)) (omega (arith, within))
    (λ i low high. ap (λ xs. get_or xs i 0) written ∙ overwritten-below file start bytes i inside high)
    in
    let back : bytes_at after start (len * n) ≡ bytes = ap (bytes_at after start) (sym long)
    ∙ ap (λ xs. bytes_at xs start (length bytes)) written
    ∙ bytes_at-overwritten file start bytes inside in
    ap (bytes_at after at) split
    ∙ bytes_at-append after at (len * first) (len * n)
    ∙ ap (λ xs. xs ++ bytes_at after start (len * n)) (front ∙ before)
    ∙ ap (λ xs. flat_map spell (take first rs) ++ xs) (back ∙ spelled)
    ∙ sym (flat_map-append spell (take first rs) (take n (drop first rs)))
    ∙ ap (flat_map spell) (sym (take-add first n rs))

-- a header, and then the records behind it
pub table_written : (file first after : List ℕ) (at : ℕ) (h : Header) (rs : List Record)
    → at + 8488 + record_len h.version * length rs ≤ length file → SameOutside at 8488 file first
    → bytes_at first at 8488 ≡ header_bytes h → SameOutside (at + 8488)
    (record_len h.version * length rs) first after
    → bytes_at after (at + 8488) (record_len h.version * length rs) ≡ flat_map (record_bytes h.version) rs
    → HasTable at h rs after
table_written file first after at h rs within begun header same records =
    let kept : bytes_at after at 8488 ≡ bytes_at first at 8488 =
    sym (bytes_at-same first after at 8488 (omega (arith, within, begun.same_length))
    (omega (arith, within, begun.same_length, same.same_length)) (λ i low high. same.below i high))
    in
    record { header = kept ∙ header; records = records }

-- what was written is what stands there
pub written_stands : (file after text : List ℕ) (at n : ℕ) → at + n ≤ length file → length text ≡ n
    → after ≡ overwritten file at text → bytes_at after at n ≡ text
written_stands file after text at n within long written = ap (bytes_at after at) (sym long)
    ∙ ap (λ xs. bytes_at xs at (length text)) written
    ∙ bytes_at-overwritten file at text (omega (arith, within, long))
