-- Where a list is cut in two at a byte that its front lacks.
use Rattle.std.proofs.Common.{◌≡◌, ℕ, ◌+◌, ◌<◌, ◌≤◌, ◌^◌, ◌⊎◌, inl, inr, true, ◌&&◌, List, [], ◌∷◌, ◌++◌, length, map, refl, sym, ap, subst, ◌∙◌, arith, Some}
use Rattle.std.proofs.lemmas.Bool.{and_parts, cond-false, cond-true, eq-eqb, leb-true, ltb-true, ne_eqb, cases_lt}
use Rattle.std.proofs.lemmas.Fmt.{decimal-digits_of, decimal_digit}
use Rattle.std.proofs.lemmas.Iterator.Adapters.{position_from-zero}
use Rattle.std.specs.Fmt.{decimal}
use Rattle.std.specs.Int.Digits.{digits_of}
use Rattle.std.specs.List.{AllByRecursion, list_all, position, position_from}
use Rattle.std.specs.Prelude.{nat_eq, nat_le, nat_lt}
use Rattle.slot_codec.specs.Names.{is_name_byte}
use Rattle.ask_text.specs.Words.{IsWord}

-- the byte doesn't stand in the list
abbrev pub Lacks : ℕ → List ℕ → Type 0
Lacks c xs = AllByRecursion (λ x. x ≡ c → ⊥) xs

pub lacks-append : (c : ℕ) (xs ys : List ℕ) → Lacks c xs → Lacks c ys → Lacks c (xs ++ ys)
lacks-append c [] ys a b = b
lacks-append c (x ∷ xs) ys a b = (a.0, lacks-append c xs ys a.1 b)

-- bytes that are greater are others
pub lacks-greater : (c : ℕ) (xs : List ℕ) → list_all (nat_lt c) xs ≡ true → Lacks c xs
lacks-greater c [] h = tt
lacks-greater c (x ∷ xs) h =
    let parts = and_parts (nat_lt c x) (list_all (nat_lt c) xs) h in
    let high : c < x = ltb-true c x parts.0 in
    ((λ is. omega arith), lacks-greater c xs parts.1)

name_bytes : (c : ℕ) → c < 33 → (xs : List ℕ) → list_all is_name_byte xs ≡ true → Lacks c xs
name_bytes c low [] h = tt
name_bytes c low (x ∷ xs) h =
    let parts = and_parts (is_name_byte x) (list_all is_name_byte xs) h in
    let high : 33 ≤ x = leb-true 33 x (and_parts (nat_le 33 x) (nat_le x 126) parts.0).0 in
    ((λ is. omega arith), name_bytes c low xs parts.1)

-- a word has no blank and no newline
pub lacks-word : (c : ℕ) → c < 33 → (xs : List ℕ) → IsWord xs → Lacks c xs
lacks-word c low xs h =
    let parts = and_parts (nat_lt 0 (length xs) && nat_le (length xs) 255) (list_all is_name_byte xs) h in
    name_bytes c low xs parts.1

digit_bytes : (c : ℕ) → c < 48 → (xs : List ℕ) → Lacks c (map (λ d. 48 + d) xs)
digit_bytes c low [] = tt
digit_bytes c low (x ∷ xs) = ((λ is. omega arith), digit_bytes c low xs)

-- a number's text has digits alone
pub lacks-decimal : (c : ℕ) → c < 48 → (n : ℕ) → n < 2 ^ 64 → Lacks c (decimal n)
lacks-decimal c low n fits = by (cases_lt 0 n)
  where
    by : (0 < n) ⊎ (n ≤ 0) → Lacks c (decimal n)
    by (inl some) = subst (Lacks c) (sym (decimal-digits_of n some fits)) (digit_bytes c low (digits_of 10 n))
    by (inr none) = subst (Lacks c) (sym (decimal_digit n (omega arith))) ((λ is. omega arith), tt)

-- two cuts of one list are one
pub cut_once : (c : ℕ) (xs ys s t : List ℕ) → Lacks c xs → Lacks c ys → xs ++ c ∷ s ≡ ys ++ c ∷ t
    → (xs ≡ ys) × (s ≡ t)
cut_once c [] [] s t a b h = (refl, cc)
cut_once c [] (y ∷ ys) s t a b h = let e : y ≡ c = cc in absurd (b.0 e)
cut_once c (x ∷ xs) [] s t a b h = let e : x ≡ c = cc in absurd (a.0 e)
cut_once c (x ∷ xs) (y ∷ ys) s t a b h =
    let e : x ≡ y = cc in
    let f : xs ++ c ∷ s ≡ ys ++ c ∷ t = cc in
    let r = cut_once c xs ys s t a.1 b.1 f in
    let same : xs ≡ ys = r.0 in
    (cc, r.1)

place_from : (c i : ℕ) (xs rest : List ℕ) → Lacks c xs
    → position_from (nat_eq c) i (xs ++ c ∷ rest) ≡ Some (i + length xs)
place_from c i [] rest l = cond-true _ _ _ (eq-eqb c c refl) ∙ ap Some (omega arith)
place_from c i (x ∷ xs) rest l =
    cond-false _ _ _ (ne_eqb c x (λ e. l.0 (sym e))) ∙ place_from c (i + 1) xs rest l.1
    ∙ ap Some (omega arith)

-- the byte is found at the end of a front that lacks it
pub position-cut : (c : ℕ) (xs rest : List ℕ) → Lacks c xs
    → position (nat_eq c) (xs ++ c ∷ rest) ≡ Some (length xs)
position-cut c xs rest l =
    position_from-zero (nat_eq c) (xs ++ c ∷ rest) ∙ place_from c 0 xs rest l ∙ ap Some (omega arith)
