-- A name in 64 bytes has one spelling, and reading is its inverse.
use Rattle.std.proofs.Common.{◌≡◌, ℕ, ◌+◌, ◌-◌, ◌<◌, ◌≤◌, true, false, not, ◌||◌, List, [], ◌∷◌, ◌++◌, length, take, refl, sym, ap, ◌∙◌, subst, arith, drop-cons}
use Rattle.std.proofs.lemmas.Bool.{le-ltb, ltb-false, not-false, not_from_true, or_from, or_parts}
use Rattle.std.proofs.lemmas.List.{take_all, length-replicate}
use Rattle.std.specs.Prelude.{nat_lt, slice_index, Ok}
use Rattle.byte_ranges.specs.Ranges.{bytes_at}
use Rattle.byte_ranges.proofs.RangeLaws.{length-bytes_at}
use Rattle.slot_codec.specs.Names.{is_name, IsName, name_bytes}
use Rattle.slot_codec.proofs.NameLemmas.{name_short}
use Rattle.slot_codec.proofs.PartLaws.{StandsAt, bytes_at-more, stands_bytes, stands_index, stands_left, stands_right, stands_whole, zeros_are_zeros, zeros_spelled}
use Rattle.slot_codec.specs.Reading.{are_zeros, read_name}
use Rattle.slot_codec.specs.Spelling.{zeros}
use Rattle.slot_codec.proofs.StepLaws.{from_ok, guard_from, guard_ok}
use Rattle.slot_codec.specs.declared.codec.CodecFault.TheVariants as fault

-- what bytes have that begin with a name
pub record NameParts (bytes name : List ℕ) : Type 0 where
  pub len : slice_index bytes 0 ≡ length name
  pub text : bytes_at bytes 1 (slice_index bytes 0) ≡ name
  pub padding : are_zeros (bytes_at bytes (1 + length name) (63 - length name)) ≡ true
  pub named : IsName name

-- what is read is what stands behind the first byte
pub name_is : (bytes name : List ℕ) → read_name bytes ≡ Ok name
    → bytes_at bytes 1 (slice_index bytes 0) ≡ name
unfolding read_name
name_is bytes name h =
    let n = bytes_at bytes 1 (slice_index bytes 0) in
    let a = guard_ok (nat_lt 63 (slice_index bytes 0) || not (is_name n)) _ _ name h in
    let b = guard_ok (not (are_zeros (bytes_at bytes (1 + length n) (63 - length n)))) _ _ name a.1 in
    from_ok n name b.1

pub name_parts : (bytes name : List ℕ) → 64 ≤ length bytes → read_name bytes ≡ Ok name
    → NameParts bytes name
unfolding read_name
name_parts bytes name long h =
    let n = bytes_at bytes 1 (slice_index bytes 0) in
    let a = guard_ok (nat_lt 63 (slice_index bytes 0) || not (is_name n)) _ _ name h in
    let b = guard_ok (not (are_zeros (bytes_at bytes (1 + length n) (63 - length n)))) _ _ name a.1 in
    let named = or_parts (nat_lt 63 (slice_index bytes 0)) (not (is_name n)) a.0 in
    let short : slice_index bytes 0 ≤ 63 = ltb-false 63 (slice_index bytes 0) named.0 in
    let parts : NameParts bytes n = record {
      len = sym (length-bytes_at bytes 1 (slice_index bytes 0) (omega (arith, short, long)));
      text = refl;
      padding = not-false _ b.0;
      named = not-false _ named.1;
    } in
    subst (NameParts bytes) (from_ok n name b.1) parts

-- what is read is a name
pub name_named : (bytes name : List ℕ) → read_name bytes ≡ Ok name → IsName name
unfolding read_name
name_named bytes name h =
    let n = bytes_at bytes 1 (slice_index bytes 0) in
    let a = guard_ok (nat_lt 63 (slice_index bytes 0) || not (is_name n)) _ _ name h in
    let b = guard_ok (not (are_zeros (bytes_at bytes (1 + length n) (63 - length n)))) _ _ name a.1 in
    let named = or_parts (nat_lt 63 (slice_index bytes 0)) (not (is_name n)) a.0 in
    subst IsName (from_ok n name b.1) (not-false _ named.1)

-- and what has these parts is read
pub name_from_parts : (bytes name : List ℕ) → NameParts bytes name → read_name bytes ≡ Ok name
unfolding read_name
name_from_parts bytes name p =
    let short : nat_lt 63 (slice_index bytes 0)
    ≡ false = le-ltb 63 _ (omega (arith, p.len, name_short name p.named)) in
    let named : is_name (bytes_at bytes 1 (slice_index bytes 0)) ≡ true = ap is_name p.text ∙ p.named in
    let padding = ap (λ (xs : List ℕ). are_zeros (bytes_at bytes (1 + length xs) (63 - length xs))) p.text
    ∙ p.padding in
    guard_from _ fault.NameBytes _ (or_from _ _ short (not_from_true _ named))
    ∙ guard_from _ fault.Zeros _ (not_from_true _ padding)
    ∙ ap Ok p.text

first_byte : (bytes : List ℕ) → 0 < length bytes → bytes_at bytes 0 1 ≡ slice_index bytes 0 ∷ []
first_byte bytes h = ap (take 1) (drop-cons bytes 0 0 h)

-- the 64 bytes of a name that has these parts
pub name_front : (bytes name : List ℕ) → 64 ≤ length bytes → NameParts bytes name
    → bytes_at bytes 0 64 ≡ name_bytes name
name_front bytes name long p =
    let n = length name in
    let short : n ≤ 63 = name_short name p.named in
    let name_there : bytes_at bytes 1 n ≡ name = ap (bytes_at bytes 1) (sym p.len) ∙ p.text in
    let front : bytes_at bytes 0 (1 + n) ≡ n ∷ name =
    sym (bytes_at-more bytes 0 1 n) ∙ ap (λ xs. xs ++ bytes_at bytes 1 n)
    (first_byte bytes (omega (arith, long))) ∙ ap (λ x. x ∷ bytes_at bytes 1 n) p.len
    ∙ ap (λ xs. n ∷ xs) name_there
    in
    let padding : bytes_at bytes (1 + n) (63 - n) ≡ zeros (63 - n) =
    zeros_spelled (bytes_at bytes (1 + n) (63 - n)) p.padding
    ∙ ap zeros (length-bytes_at bytes (1 + n) (63 - n) (omega (arith, long, short)))
    in
    let e : 64 ≡ 1 + n + (63 - n) = omega (arith, short) in
    let f : 1 + n ≡ 0 + (1 + n) = omega arith in
    ap (bytes_at bytes 0) e ∙ sym (bytes_at-more bytes 0 (1 + n) (63 - n))
    ∙ ap (λ k. bytes_at bytes 0 (1 + n) ++ bytes_at bytes k (63 - n)) (sym f)
    ∙ ap (λ xs. xs ++ bytes_at bytes (1 + n) (63 - n)) front
    ∙ ap (λ xs. (n ∷ name) ++ xs) padding

-- what is read as a name is its spelling
pub name_spelled : (bytes name : List ℕ) → length bytes ≡ 64 → read_name bytes ≡ Ok name
    → bytes ≡ name_bytes name
name_spelled bytes name len h =
    let long : 64 ≤ length bytes = omega (arith, len) in
    sym (take_all 64 bytes (omega (arith, len))) ∙ name_front bytes name long (name_parts bytes name long h)

-- what has the spelling of a name at its start has these parts
pub name_stands : (bytes name : List ℕ) → IsName name → StandsAt bytes 0 (name_bytes name)
    → NameParts bytes name
name_stands bytes name named whole =
    let n = length name in
    let short : n ≤ 63 = name_short name named in
    let front = n ∷ name in
    let one = stands_left bytes 0 front (zeros (63 - n)) whole in
    let len : slice_index bytes 0 ≡ n = stands_index bytes 0 n name one in
    let padding : bytes_at bytes (1 + n) (63 - n) ≡ zeros (63 - n) =
    stands_bytes bytes (1 + n) (63 - n) (zeros (63 - n)) (length-replicate {A = ℕ} (63 - n) 0)
    (stands_right bytes 0 (1 + n) front (zeros (63 - n)) (omega arith) whole)
    in
    record {
      len = len;
      text = stands_bytes bytes 1 (slice_index bytes 0) name (sym len)
          (stands_right bytes 0 1 (n ∷ []) name refl one);
      padding = ap are_zeros padding ∙ zeros_are_zeros (63 - n);
      named = named;
    }

-- the spelling of a name is read as it
pub name_read : (name : List ℕ) → IsName name → read_name (name_bytes name) ≡ Ok name
name_read name named = name_from_parts (name_bytes name) name
    (name_stands (name_bytes name) name named (stands_whole (name_bytes name)))
