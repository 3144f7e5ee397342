-- A first line tells one head, and the numbers of a map are a head.
use Rattle.std.specs.Prelude.{◌≡◌, ℕ, zero, suc, ◌+◌, ◌*◌, ◌^◌, ◌<◌, ◌≤◌, List, [], ◌∷◌, ◌++◌, codes, flat_map, length, map, slice_index, sum_by, take, refl}
use Rattle.std.proofs.Common.{arith, sym, ap, ◌∙◌, inl, inr, append_assoc}
use Rattle.std.proofs.Math.Nat.{mul-le-mul_right, mul-le-mul_left, suc-mul}
use Rattle.std.proofs.lemmas.Bool.{cases_eq, cases_lt}
use Rattle.std.proofs.lemmas.List.{append_cancel_left, ext_get_or, length-take}
use Rattle.std.proofs.lemmas.List.Sums.{sum_by-cons}
use Rattle.std.specs.Fmt.{decimal}
use Rattle.std.specs.FinMap as fin
use Rattle.std.specs.List.{AllByRecursion}
use Rattle.size_class.specs.Classes.{IsRow, class_of, width}
use Rattle.size_class.proofs.ClassLaws.{class_high, class_low, power_rises}
use Rattle.map_model.specs.Maps.{Map}
use Rattle.map_model.specs.Weights.{Entry}
use Rattle.segment_layout.specs.Books.{volumes}
use Rattle.segment_layout.proofs.BalanceLaws.{bytes_in, bytes_in-none, bytes_in-other, bytes_in-same}
use Rattle.segment_layout.proofs.BookLaws.{length-volumes_of_sizes, volumes_of_sizes-index}
use Rattle.dump_stream.specs.Heads.{Ends, IsHead, head_line, volume_text}
use Rattle.dump_stream.specs.Dumps.{CanDump, IsObject}
use Rattle.dump_stream.proofs.CutLaws.{AreNumbers, number_one, numbers_end, numbers_one}

-- ---- a line

-- the first numbers of a list are numbers of 64 bits, where all are
first_numbers : (n : ℕ) (vs : List ℕ) → ((i : ℕ) → i < n → slice_index vs i < 2 ^ 64) → AreNumbers (take n vs)
first_numbers zero vs small = tt
first_numbers (suc n) [] small = tt
first_numbers (suc n) (v ∷ vs) small = (
  small 0 (omega arith),
  first_numbers n vs (λ i low. small (suc i)
      (omega (arith, low))),
)

module _ {C count : ℕ} {vs : List ℕ} (few : C ≤ width) (h : IsHead C count vs) where
  -- the volumes of a head are numbers of 64 bits
  pub small_volume : (c : ℕ) → c < C → slice_index vs c < 2 ^ 64
  small_volume c low =
      let power : 2 ^ (c + 1) ≤ 2 ^ 32 = power_rises (c + 1) 32 (omega (arith, low, few)) in
      omega (arith, h.bounds c low, mul-le-mul_left count power, mul-le-mul_right (2 ^ 32) h.few)

  pub volume_numbers : AreNumbers (take C vs)
  volume_numbers = first_numbers C vs small_volume

  pub volume_count : length (take C vs) ≡ C
  volume_count = omega (arith, length-take C vs, h.row.full, few)

pub in_front : (n i : ℕ) (xs : List ℕ) → i < n → slice_index (take n xs) i ≡ slice_index xs i
in_front zero i xs low = absurd (omega (arith, low))
in_front (suc n) i [] low = refl
in_front (suc n) zero (x ∷ xs) low = refl
in_front (suc n) (suc i) (x ∷ xs) low = in_front n i xs (omega (arith, low))

-- two rows that agree on the classes in use are one
row_one : (C : ℕ) (vs ws : List ℕ) → IsRow C vs → IsRow C ws → take C vs ≡ take C ws → C ≤ width → vs ≡ ws
row_one C vs ws a b same few = ext_get_or 0 vs ws (a.full ∙ sym b.full) (λ c _. elim (cases_lt c C) [
  | inl low ↦ sym (in_front C c vs low) ∙ ap (λ xs. slice_index xs c) same ∙ in_front C c ws low
  | inr high ↦ a.zero_above c high ∙ sym (b.zero_above c high)
])

line_is : (C count : ℕ) (vs s : List ℕ) → head_line C count vs ++ s
    ≡ codes "dump " ++ (decimal count ++ (flat_map volume_text (take C vs) ++ s))
line_is C count vs s =
    append_assoc (codes "dump " ++ decimal count) (flat_map volume_text (take C vs)) s
    ∙ append_assoc (codes "dump ") (decimal count) (flat_map volume_text (take C vs) ++ s)

-- two first lines in front of one text are one
pub head_one : (C m n : ℕ) (vs ws s t : List ℕ) → C ≤ width → IsHead C m vs → IsHead C n ws → Ends s → Ends t
    → head_line C m vs ++ s ≡ head_line C n ws ++ t → (m ≡ n) × ((vs ≡ ws) × (s ≡ t))
head_one C m n vs ws s t few a b e d h =
    let behind : decimal m ++ (flat_map volume_text (take C vs) ++ s)
    ≡ decimal n ++ (flat_map volume_text (take C ws) ++ t) =
    append_cancel_left (codes "dump ") _ _ (sym (line_is C m vs s) ∙ h ∙ line_is C n ws t)
    in
    let one = number_one m n (flat_map volume_text (take C vs) ++ s) (flat_map volume_text (take C ws) ++ t)
    (omega (arith, a.few)) (omega (arith, b.few)) (numbers_end (take C vs) s e) (numbers_end (take C ws) t d)
    behind in
    let all = numbers_one (take C vs) (take C ws) s t (volume_count few a ∙ sym (volume_count few b))
    (volume_numbers few a) (volume_numbers few b) e d one.1 in
    (one.0, (row_one C vs ws a.row b.row all.0 few, all.1))

-- ---- a map

-- what an object adds to a class is less than the least size of the next one
pub few_in_class : (C size_max c size : ℕ) → C ≤ width → size_max < 2 ^ C → size ≤ size_max → c < C
    → bytes_in c size ≤ 2 ^ (c + 1)
few_in_class C size_max c size few top small low = elim (cases_lt 0 size) [
  | inr none ↦ let e : size ≡ 0 = omega (arith, none) in omega (arith, ap (bytes_in c) e, bytes_in-none c)
  | inl some ↦ elim (cases_eq (class_of size) c) [
    | inr other ↦ omega (arith, bytes_in-other c size other)
    | inl same ↦
        let all : bytes_in c size ≡ size = ap (λ x. bytes_in x size) (sym same) ∙ bytes_in-same size some in
        elim (cases_lt (class_of size + 1) width) [
          | inl within ↦ omega (
            arith,
            all,
            class_high size some within,
            ap (λ x. 2 ^ (x + 1)) same,
          )
          | inr last ↦
              let whole : C ≡ c + 1 = omega (arith, last, same, low, few) in
              omega (arith, all, small, top, ap (λ x. 2 ^ x) whole)
        ]
  ]
]

sizes_of : List Entry → List ℕ
sizes_of es = map length (map (λ (e : Entry). e.1) es)

class_few : (C size_max c : ℕ) (es : List Entry) → C ≤ width → size_max < 2 ^ C → c < C
    → AllByRecursion (IsObject size_max) es
    → sum_by (λ size. bytes_in c size) (sizes_of es) ≤ length es * 2 ^ (c + 1)
unfolding sizes_of
class_few C size_max c [] few top low each = omega arith
class_few C size_max c (e ∷ es) few top low each = omega (
  arith,
  sum_by-cons (λ size. bytes_in c size) (length e.1) (sizes_of es),
  few_in_class C size_max c (length e.1) few top each.0.small low,
  class_few C size_max c es few top low each.1,
  suc-mul (length es) (2 ^ (c + 1)),
)

class_none : (C size_max c : ℕ) (es : List Entry) → size_max < 2 ^ C → C ≤ c
    → AllByRecursion (IsObject size_max) es → sum_by (λ size. bytes_in c size) (sizes_of es) ≡ 0
unfolding sizes_of
class_none C size_max c [] top high each = refl
class_none C size_max c (e ∷ es) top high each = omega (
  arith,
  sum_by-cons (λ size. bytes_in c size) (length e.1) (sizes_of es),
  none,
  class_none C size_max c es top high each.1,
)
  where
    none : bytes_in c (length e.1) ≡ 0
    none = elim (cases_lt 0 (length e.1)) [
      | inr nothing ↦
          let e0 : length e.1 ≡ 0 = omega (arith, nothing) in
          omega (arith, ap (bytes_in c) e0, bytes_in-none c)
      | inl some ↦ bytes_in-other c (length e.1) (λ same. absurd (omega (
        arith,
        class_low (length e.1) some,
        each.0.small,
        top,
        power_rises C c high,
        ap (λ x. 2 ^ x) same,
      )))
    ]

-- the numbers of a map are those of a head
pub head_of_map : (C size_max : ℕ) (m : Map) → C ≤ width → size_max < 2 ^ C → CanDump size_max m
    → IsHead C (fin.len m) (volumes m)
unfolding sizes_of
head_of_map C size_max m few top can = record {
  row = record {
    full = length-volumes_of_sizes (map length (fin.values m));
    zero_above = λ c high. volumes_of_sizes-index (map length (fin.values m)) c
        ∙ class_none C size_max c (fin.entries m) top high can.each;
  };
  few = can.few;
  bounds = λ c low. omega (
    arith,
    volumes_of_sizes-index (map length (fin.values m)) c,
    class_few C size_max c (fin.entries m) few top low can.each,
    ap (λ n. n * 2 ^ (c + 1)) (fin.len-entries m),
  );
}
