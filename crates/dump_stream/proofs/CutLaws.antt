-- A number of a text ends at the first byte below the digits.
use Rattle.std.proofs.Common.{◌≡◌, ℕ, ◌+◌, ◌<◌, ◌≤◌, ◌^◌, ◌⊎◌, inl, inr, List, [], ◌∷◌, ◌++◌, length, map, refl, sym, subst, ◌∙◌, arith, append_assoc}
use Rattle.std.proofs.lemmas.Bool.{cases_lt}
use Rattle.std.proofs.lemmas.Fmt.{decimal-digits_of, decimal_digit, decimal_injective}
use Rattle.std.proofs.lemmas.List.{append_cancel_left}
use Rattle.std.specs.Fmt.{decimal}
use Rattle.std.specs.Int.Digits.{digits_of}
use Rattle.std.specs.List.{AllByRecursion, flat_map}
use Rattle.std.specs.Prelude.{codes}
use Rattle.dump_stream.specs.Heads.{Ends, volume_text}

-- each byte is a digit's or a greater one
abbrev pub AreHigh : List ℕ → Type 0
AreHigh xs = AllByRecursion (λ x. 48 ≤ x) xs

digits_high : (xs : List ℕ) → AreHigh (map (λ d. 48 + d) xs)
digits_high [] = tt
digits_high (x ∷ xs) = (omega arith, digits_high xs)

pub decimal_high : (n : ℕ) → n < 2 ^ 64 → AreHigh (decimal n)
decimal_high n fits = by (cases_lt 0 n)
  where
    by : (0 < n) ⊎ (n ≤ 0) → AreHigh (decimal n)
    by (inl some) = subst AreHigh (sym (decimal-digits_of n some fits)) (digits_high (digits_of 10 n))
    by (inr none) = subst AreHigh (sym (decimal_digit n (omega arith))) (omega arith, tt)

-- two cuts of one list are one
cut_one : (xs ys s t : List ℕ) → AreHigh xs → AreHigh ys → Ends s → Ends t → xs ++ s ≡ ys ++ t
    → (xs ≡ ys) × (s ≡ t)
cut_one [] [] s t a b e f h = (refl, h)
cut_one [] (y ∷ ys) [] t a b e f h = absurd cc
cut_one [] (y ∷ ys) (c ∷ s) t a b e f h = let same : c ≡ y = cc in absurd (omega (arith, e, b.0, same))
cut_one (x ∷ xs) [] s [] a b e f h = absurd cc
cut_one (x ∷ xs) [] s (c ∷ t) a b e f h = let same : x ≡ c = cc in absurd (omega (arith, f, a.0, same))
cut_one (x ∷ xs) (y ∷ ys) s t a b e f h =
    let first : x ≡ y = cc in
    let others : xs ++ s ≡ ys ++ t = cc in
    let r = cut_one xs ys s t a.1 b.1 e f others in
    let same : xs ≡ ys = r.0 in
    (cc, r.1)

-- a number in front of a text is one
pub number_one : (m n : ℕ) (s t : List ℕ) → m < 2 ^ 64 → n < 2 ^ 64 → Ends s → Ends t
    → decimal m ++ s ≡ decimal n ++ t → (m ≡ n) × (s ≡ t)
number_one m n s t f g e d h =
    let cut = cut_one (decimal m) (decimal n) s t (decimal_high m f) (decimal_high n g) e d h in
    (decimal_injective m n f g cut.0, cut.1)

-- numbers, each behind a blank
abbrev pub AreNumbers : List ℕ → Type 0
AreNumbers vs = AllByRecursion (λ v. v < 2 ^ 64) vs

-- what follows a number ends it
pub numbers_end : (vs s : List ℕ) → Ends s → Ends (flat_map volume_text vs ++ s)
numbers_end [] s e = e
numbers_end (v ∷ vs) s e = omega arith

numbers_are : (v : ℕ) (vs s : List ℕ)
    → flat_map volume_text (v ∷ vs) ++ s ≡ codes " " ++ (decimal v ++ (flat_map volume_text vs ++ s))
numbers_are v vs s =
    append_assoc (volume_text v) (flat_map volume_text vs) s
    ∙ append_assoc (codes " ") (decimal v) (flat_map volume_text vs ++ s)

-- as many numbers in front of a text are one list of numbers
pub numbers_one : (vs ws s t : List ℕ) → length vs ≡ length ws → AreNumbers vs → AreNumbers ws → Ends s
    → Ends t
    → flat_map volume_text vs ++ s ≡ flat_map volume_text ws ++ t → (vs ≡ ws) × (s ≡ t)
numbers_one [] [] s t same f g e d h = (refl, h)
numbers_one [] (w ∷ ws) s t same f g e d h = absurd (omega (arith, same))
numbers_one (v ∷ vs) [] s t same f g e d h = absurd (omega (arith, same))
numbers_one (v ∷ vs) (w ∷ ws) s t same f g e d h =
    let behind : decimal v ++ (flat_map volume_text vs ++ s) ≡ decimal w ++ (flat_map volume_text ws ++ t) =
    append_cancel_left (codes " ") _ _ (sym (numbers_are v vs s) ∙ h ∙ numbers_are w ws t)
    in
    let one = number_one v w (flat_map volume_text vs ++ s) (flat_map volume_text ws ++ t) f.0 g.0
    (numbers_end vs s e) (numbers_end ws t d) behind
    in
    let rest = numbers_one vs ws s t (omega (arith, same)) f.1 g.1 e d one.1 in
    let first : v ≡ w = one.0 in
    let others : vs ≡ ws = rest.0 in
    (cc, rest.1)
