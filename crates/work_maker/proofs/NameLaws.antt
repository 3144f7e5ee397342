-- A name that a word draws is a name.
use Rattle.std.proofs.Common.{ℕ, suc, ◌≡◌, ◌+◌, ◌<◌, ◌≤◌, ◌^◌, ◌%◌, true, [], ◌∷◌, length, List, refl, arith}
use Rattle.std.proofs.lemmas.Bool.{le-leb, lt-ltb}
use Rattle.std.proofs.lemmas.Fmt.{decimal_by_steps, length-decimal-le}
use Rattle.std.proofs.lemmas.List.Folds.{list_all-append}
use Rattle.std.specs.Fmt.{decimal}
use Rattle.std.specs.List.{list_all}
use Rattle.std.specs.Prelude.{nat_lt}
use Rattle.slot_codec.specs.Names.{IsName, is_name_byte}
use Rattle.work_maker.specs.Jobs.{name_drawn}

digit_byte : (d : ℕ) → d < 10 → is_name_byte (48 + d) ≡ true
digit_byte d small = rw (le-leb 33 (48 + d) (omega arith), le-leb (48 + d) 126 (omega arith)) refl

name_digits : (n : ℕ) → n < 2 ^ 64 → list_all is_name_byte (decimal n) ≡ true
name_digits n fits =
    decimal_by_steps (λ m ds. list_all is_name_byte ds ≡ true)
    (λ m small. rw (digit_byte m small) refl)
    (λ m ds more all. rw (
      list_all-append is_name_byte ds ((48 + m % 10) ∷ []),
      all,
      digit_byte (m % 10)
          (omega arith),
    ) refl)
    n
    fits

o_before : (ds : List ℕ) → length ds ≤ 5 → list_all is_name_byte ds ≡ true → IsName (111 ∷ ds)
o_before ds short all =
    let some : nat_lt 0 (suc (length ds)) ≡ true = lt-ltb 0 (suc (length ds)) (omega arith) in
    rw (some, le-leb (suc (length ds)) 63 (omega arith), all) refl

pub is_name_drawn : (names x : ℕ) → 1 ≤ names → names ≤ 65536 → IsName (name_drawn names x)
is_name_drawn names x low high =
    let small : x % names < 65536 = omega arith in
    let fits : x % names < 2 ^ 64 = omega arith in
    o_before (decimal (x % names)) (length-decimal-le 5 (x % names) (omega arith) (omega arith) fits)
    (name_digits (x % names) fits)
