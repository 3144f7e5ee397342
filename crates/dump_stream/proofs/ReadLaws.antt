-- Reading the numbers of a first line, one after another.
use Rattle.std.specs.Prelude.{◌≡◌, ℕ, suc, ◌+◌, ◌-◌, ◌*◌, ◌^◌, ◌<◌, ◌≤◌, nat_lt, not, true, List, [], ◌∷◌, ◌++◌, codes, drop, flat_map, length, slice_index, slice_set, take, refl, Some, None, Result, Ok, Err, IfErr}
use Rattle.std.proofs.Common.{arith, sym, ap, ◌∙◌, subst, inl, inr, append-nil, append_assoc, length-drop}
use Rattle.std.proofs.Math.Nat.{mul-le-mul_left, mul-le-mul_right}
use Rattle.std.proofs.lemmas.Bool.{cases_Bool, cases_eq, cases_lt, cond-false, cond-true, lt-ltb, ltb-true}
use Rattle.std.proofs.lemmas.Grind.{flat_map-append}
use Rattle.std.proofs.lemmas.List.{append_cancel_left, drop-drop, drop_all, drop_more, get_or-set_other, get_or-set_same, length-set, length-take, take-append-drop, take-take, take_all, take_at, take_more, take_more_set}
use Rattle.std.proofs.lemmas.List.Sums.{prefix_len-le-length}
use Rattle.std.proofs.lemmas.Option.{same_Some}
use Rattle.std.specs.List.{position}
use Rattle.std.specs.Fmt.{decimal}
use Rattle.size_class.specs.Classes.{width, zero_row}
use Rattle.size_class.proofs.ClassLaws.{IsRow-zero, power_rises}
use Rattle.dump_stream.specs.Heads.{Ends, IsHead, ReadsVolumes, Splits, Tells, TellsNothing, number_end, volume_text}
use Rattle.dump_stream.specs.declared.head.DumpHead.{DumpHead}
use Rattle.ask_text.specs.declared.ask.LineFault.{LineFault}
use Rattle.dump_stream.proofs.CutLaws.{AreHigh, decimal_high, number_one}
use Rattle.dump_stream.proofs.HeadLaws.{in_front, small_volume}

-- ---- one number

one_more : (n : ℕ) → 1 + n ≡ suc n
one_more n = omega arith

not_low : (x : ℕ) → 48 ≤ x → not (nat_lt x 48) ≡ true
not_low x high = elim (cases_Bool (nat_lt x 48)) [
  | inl low ↦ absurd (omega (arith, high, ltb-true x 48 low))
  | inr other ↦ ap not other
]

-- the place that was found
pub end_found : (text : List ℕ) (at : ℕ) → position (λ x. nat_lt x 48) text ≡ Some at → at ≡ number_end text
end_found text at is = elim (cases_Bool (nat_lt (number_end text) (length text))) [
  | inl low ↦ same_Some at (number_end text) (sym is
      ∙ cond-true (nat_lt (number_end text) (length text)) (Some (number_end text)) None low)
  | inr other ↦ absurd (let none : None ≡ Some at =
      sym (cond-false (nat_lt (number_end text) (length text)) (Some (number_end text)) None other)
      ∙ is in cc)
]

pub end_missed : (text : List ℕ) → position (λ x. nat_lt x 48) text ≡ None → length text ≡ number_end text
end_missed text is = elim (cases_lt (number_end text) (length text)) [
  | inl low ↦ absurd (let some : Some (number_end text) ≡ None =
      sym (cond-true (nat_lt (number_end text) (length text)) (Some (number_end text)) None
      (lt-ltb (number_end text) (length text) low)) ∙ is in cc)
  | inr high ↦ omega (arith, high, prefix_len-le-length (λ x. not (nat_lt x 48)) text)
]

pub end_ends : (text : List ℕ) → Ends (drop (number_end text) text)
end_ends [] = tt
end_ends (x ∷ xs) = elim (cases_lt x 48) [
  | inl low ↦ subst (λ n. Ends (drop n (x ∷ xs)))
      (sym (cond-false (not (nat_lt x 48)) (1 + number_end xs) 0 (ap not (lt-ltb x 48 low)))) low
  | inr high ↦ subst (λ n. Ends (drop n (x ∷ xs)))
      (sym (cond-true (not (nat_lt x 48)) (1 + number_end xs) 0 (not_low x high) ∙ one_more (number_end xs)))
      (end_ends xs)
]

pub end_is : (xs rest : List ℕ) → AreHigh xs → Ends rest → number_end (xs ++ rest) ≡ length xs
end_is [] [] a e = refl
end_is [] (c ∷ cs) a e = cond-false (not (nat_lt c 48)) (1 + number_end cs) 0 (ap not (lt-ltb c 48 e))
end_is (x ∷ xs) rest a e =
    cond-true (not (nat_lt x 48)) (1 + number_end (xs ++ rest)) 0 (not_low x a.0)
    ∙ one_more (number_end (xs ++ rest)) ∙ ap suc (end_is xs rest a.1 e)

pub split_found : (text : List ℕ) (n : ℕ) → n < 2 ^ 64 → take (number_end text) text ≡ decimal n
    → Splits text n (drop (number_end text) text)
split_found text n fits is = record {
  fits = fits;
  whole = sym (take-append-drop (number_end text) text)
      ∙ ap (λ xs. xs ++ drop (number_end text) text) is;
  ends = end_ends text;
}

pub split_none : (text : List ℕ)
    → ((n : ℕ) → n < 2 ^ 64 → take (number_end text) text ≡ decimal n → ⊥)
    → (v : ℕ) (rest : List ℕ) → Splits text v rest → ⊥
split_none text bad v rest s = bad v s.fits
    (ap (λ xs. take (number_end xs) xs) s.whole
    ∙ ap (λ n. take n (decimal v ++ rest)) (end_is (decimal v) rest (decimal_high v s.fits) s.ends)
    ∙ take_at (decimal v) rest (length (decimal v)) refl)

-- ---- a number behind a blank

volume_is : (v : ℕ) (rest : List ℕ) → volume_text v ++ rest ≡ 32 ∷ (decimal v ++ rest)
volume_is v rest = append_assoc (codes " ") (decimal v) rest

-- two numbers behind a blank in front of one text are one
pub volume_one : (v w : ℕ) (s t : List ℕ) → v < 2 ^ 64 → w < 2 ^ 64 → Ends s → Ends t
    → volume_text v ++ s ≡ volume_text w ++ t → (v ≡ w) × (s ≡ t)
volume_one v w s t f g e d h = number_one v w s t f g e d
    (append_cancel_left (codes " ") _ _ (sym (volume_is v s) ∙ h ∙ volume_is w t))

-- the rest of a text, as the program cuts it
pub from_on : (at : ℕ) (text : List ℕ) → take (length text - at) (drop at text) ≡ drop at text
from_on at text = take_all (length text - at) (drop at text) (omega (arith, length-drop at text))

pub splits_one : {text : List ℕ} {m n : ℕ} {s t : List ℕ} → Splits text m s → Splits text n t
    → (m ≡ n) × (s ≡ t)
splits_one {text} {m} {n} {s} {t} a b = number_one m n s t a.fits b.fits a.ends b.ends (sym a.whole ∙ b.whole)

pub volumes_end : (xs : List ℕ) → Ends (flat_map volume_text xs)
volumes_end [] = tt
volumes_end (x ∷ xs) = omega arith

-- the numbers of a first line, behind its word
pub head_split : (C count : ℕ) (line words vs : List ℕ) → line ≡ codes "dump " ++ words
    → Tells C line count vs
    → Splits words count (flat_map volume_text (take C vs))
head_split C count line words vs front tells = record {
  fits = omega (arith, tells.head.few);
  whole = append_cancel_left (codes "dump ") _ _ (sym front ∙ tells.same
      ∙ append_assoc (codes "dump ") (decimal count) (flat_map volume_text (take C vs)));
  ends = volumes_end (take C vs);
}

-- a first line tells no more than so many objects
pub stops_many : (C n : ℕ) (line words rest : List ℕ) → line ≡ codes "dump " ++ words → Splits words n rest
    → 65536 < n → TellsNothing C line
stops_many C n line words rest front split many count vs tells =
    omega (arith, many, tells.head.few, (splits_one split (head_split C count line words vs front tells)).0)

-- where the volumes are none, the line is none
pub stops_with : {C : ℕ} (n : ℕ) (line words rest : List ℕ) → line ≡ codes "dump " ++ words
    → Splits words n rest
    → (r : Result (DumpHead C) LineFault)
    → IfErr r (λ _. (vs : List ℕ) → IsHead C n vs → rest ≡ flat_map volume_text (take C vs) → ⊥)
    → IfErr r (λ _. TellsNothing C line)
stops_with {C} n line words rest front split (Ok head) bad = tt
stops_with {C} n line words rest front split (Err fault) bad = λ count vs tells.
    let one = splits_one split (head_split C count line words vs front tells) in
    bad vs (subst (λ m. IsHead C m vs) (sym one.0) tells.head) one.1

-- as many bytes as a class may have are a number of 64 bits
pub shift_small : (count c : ℕ) → count ≤ 65536 → c < 32 → count * 2 ^ (c + 1) ≤ 2 ^ 48
shift_small count c most low =
    let power : 2 ^ (c + 1) ≤ 2 ^ 32 = power_rises (c + 1) 32 (omega (arith, low)) in
    omega (arith, mul-le-mul_left count power, mul-le-mul_right (2 ^ 32) most)

-- ---- the volumes

module _ {C count : ℕ} (few : C ≤ width) (text : List ℕ) where
  pub reads_none : Ends text → ReadsVolumes C count text 0 0 zero_row
  reads_none ends = record {
    within = omega arith;
    front = refl;
    ends = ends;
    row = IsRow-zero C;
    bounds = λ d low. absurd (omega (arith, low));
    only = λ vs head is. refl;
  }

  module _ {c at : ℕ} {vs0 : List ℕ} (upto : c ≤ C) (r : ReadsVolumes C count text c at vs0) where
    -- what other volumes may stand there, behind those that were read
    others : (vs : List ℕ) → IsHead C count vs → text ≡ flat_map volume_text (take C vs)
        → drop at text ≡ flat_map volume_text (drop c (take C vs))
    others vs head is =
        let front : take c (take C vs) ≡ take c vs0 = take-take c C vs upto ∙ r.only vs head is in
        append_cancel_left (flat_map volume_text (take c vs0)) _ _
        (sym r.front ∙ is ∙ ap (flat_map volume_text) (sym (take-append-drop c (take C vs)))
        ∙ flat_map-append volume_text (take c (take C vs)) (drop c (take C vs))
        ∙ ap (λ xs. flat_map volume_text xs ++ flat_map volume_text (drop c (take C vs))) front)

    module _ (low : c < C) where
      next_volume : (vs : List ℕ) → IsHead C count vs → text ≡ flat_map volume_text (take C vs)
          → drop at text ≡ volume_text (slice_index vs c) ++ flat_map volume_text (drop (c + 1) (take C vs))
      next_volume vs head is =
          let inside : c < length (take C vs) = omega (arith, length-take C vs, head.row.full, few, low) in
          let cell : slice_index (take C vs) c ≡ slice_index vs c = in_front C c vs low in
          others vs head is ∙ ap (flat_map volume_text) (drop_more (take C vs) c 0 inside)
          ∙ ap (λ v. volume_text v ++ flat_map volume_text (drop (c + 1) (take C vs))) cell

      -- none stands there
      pub stops_none : ((v : ℕ) (rest : List ℕ) → v < 2 ^ 64 → Ends rest
          → drop at text ≡ volume_text v ++ rest → ⊥)
          → (vs : List ℕ) → IsHead C count vs → text ≡ flat_map volume_text (take C vs) → ⊥
      stops_none bad vs head is = bad (slice_index vs c) (flat_map volume_text (drop (c + 1) (take C vs)))
          (small_volume few head c low) (volumes_end (drop (c + 1) (take C vs))) (next_volume vs head is)

      module _ (v n : ℕ) (fits : v < 2 ^ 64)
          (found : drop at text ≡ volume_text v ++ drop n (drop at text)) (ends : Ends (drop n
          (drop at text)))
        where
          same_volume : (vs : List ℕ) → IsHead C count vs → text ≡ flat_map volume_text (take C vs)
              → slice_index vs c ≡ v
          same_volume vs head is = (volume_one (slice_index vs c) v
              (flat_map volume_text (drop (c + 1) (take C vs))) (drop n (drop at text))
              (small_volume few head c low) fits (volumes_end (drop (c + 1) (take C vs))) ends
              (sym (next_volume vs head is) ∙ found)).0

          -- it is too large
          pub stops_large : count * 2 ^ (c + 1) < v → (vs : List ℕ) → IsHead C count vs
              → text ≡ flat_map volume_text (take C vs) → ⊥
          stops_large large vs head is = omega (arith, large, head.bounds c low, same_volume vs head is)

          -- it is read
          pub reads_more : v ≤ count * 2 ^ (c + 1) → n ≤ length (drop at text)
              → ReadsVolumes C count text (c + 1) (at + n) (slice_set vs0 c v)
          reads_more small short =
              let wide : c < length vs0 = omega (arith, r.row.full, few, low) in
              let front : take (c + 1) (slice_set vs0 c v) ≡ take c vs0 ++ v ∷ [] = take_more_set vs0 c v
              wide in
              let behind : drop (at + n) text ≡ drop n (drop at text) = sym (drop-drop n at text) in
              record {
                within = omega (arith, short, length-drop at text, r.within);
                front = r.front ∙ ap (λ xs. flat_map volume_text (take c vs0) ++ xs) found
                    ∙ sym (append_assoc (flat_map volume_text (take c vs0)) (volume_text v) (drop n
                    (drop at text)))
                    ∙ ap (λ xs. flat_map volume_text (take c vs0) ++ xs ++ drop n (drop at text))
                    (sym (append-nil (volume_text v)))
                    ∙ ap (λ xs. xs ++ drop n (drop at text))
                    (sym (flat_map-append volume_text (take c vs0) (v ∷ []))
                    ∙ ap (flat_map volume_text) (sym front))
                    ∙ ap (λ xs. flat_map volume_text (take (c + 1) (slice_set vs0 c v)) ++ xs) (sym behind);
                ends = subst Ends (sym behind) ends;
                row = record {
                  full = length-set vs0 c v ∙ r.row.full;
                  zero_above = λ d high. get_or-set_other vs0 c d v 0 (λ e. omega (arith, e, high, low))
                      ∙ r.row.zero_above d high;
                };
                bounds = λ d under. elim (cases_eq d c) [
                  | inl same ↦ omega (
                    arith,
                    small,
                    ap (λ x. slice_index (slice_set vs0 c v) x) same,
                    get_or-set_same vs0 c v 0 wide,
                    ap (λ x. count * 2 ^ (x + 1)) same,
                  )
                  | inr other ↦ omega (
                    arith,
                    get_or-set_other vs0 c d v 0 other,
                    r.bounds d (omega (arith, under, other)),
                  )
                ];
                only = λ vs head is.
                    take_more vs c 0 (omega (arith, head.row.full, few, low))
                    ∙ ap (λ xs. xs ++ slice_index vs c ∷ []) (r.only vs head is)
                    ∙ ap (λ x. take c vs0 ++ x ∷ []) (same_volume vs head is)
                    ∙ sym front;
              }

  -- ---- the end

  module _ {at : ℕ} {vs0 : List ℕ} (r : ReadsVolumes C count text C at vs0) where
    pub reads_all : length text ≤ at → text ≡ flat_map volume_text (take C vs0)
    reads_all end = r.front ∙ ap (λ xs. flat_map volume_text (take C vs0) ++ xs) (drop_all at text end)
        ∙ append-nil (flat_map volume_text (take C vs0))

    pub reads_head : count ≤ 65536 → IsHead C count vs0
    reads_head most = record { row = r.row; few = most; bounds = r.bounds }

    -- something follows
    pub stops_behind : at < length text → (vs : List ℕ) → IsHead C count vs
        → text ≡ flat_map volume_text (take C vs) → ⊥
    stops_behind more vs head is =
        let none : drop at text ≡ [] = append_cancel_left (flat_map volume_text (take C vs0)) _ _
        (sym r.front ∙ is ∙ ap (flat_map volume_text) (r.only vs head is)
        ∙ sym (append-nil (flat_map volume_text (take C vs0)))) in
        omega (arith, more, length-drop at text, ap length none)
