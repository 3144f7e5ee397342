-- The volumes of a table, by the sizes of its objects.
use Rattle.std.specs.Prelude.{◌≡◌, ℕ, zero, suc, ◌+◌, ◌-◌, ◌*◌, ◌^◌, ◌<◌, ◌≤◌, min, List, [], ◌∷◌, ◌++◌, length, map, option_map, take, slice_get, slice_index, slice_set, sum_by, Some, refl}
use Rattle.std.proofs.Common.{arith, ap, sym, ◌∙◌, inl, inr, subst}
use Rattle.std.proofs.Math.Nat.{mul-le-mul_right, suc-mul}
use Rattle.std.proofs.lemmas.Bool.{cases_Bool, cases_eq, cases_lt, cond-false, cond-true}
use Rattle.std.proofs.lemmas.List.{ext_get_or, get_or-set_other, get_or-set_same, length-map, length-set, length-take, take_all, take_more}
use Rattle.std.proofs.lemmas.List.Sums.{sum_by-cons, sum_by_push}
use Rattle.std.proofs.lemmas.Option.{get_or_from_slice_get, same_Some, slice_get-map, slice_get_within}
use Rattle.std.specs.FinMap as fin
use Rattle.size_class.specs.Classes.{class_of, width, zero_row}
use Rattle.size_class.proofs.ClassLaws.{class_low, length-zero_row, power_rises, zero_row-index}
use Rattle.segment_layout.specs.Books.{is_of_class, volumes_of_sizes}
use Rattle.segment_layout.proofs.BalanceLaws.{bytes_in, bytes_in-none, bytes_in-other, bytes_in-same}
use Rattle.segment_layout.proofs.BookLaws.{length-volumes_of_sizes, volumes_of_sizes-index}
use Rattle.extent_table.specs.declared.spot.Spot.{Spot}
use Rattle.extent_table.specs.Extents.{Spots}
use Rattle.dump_stream.specs.Dumping.{AreSizes, sizes_at}
use Rattle.dump_stream.specs.Heads.{IsHead}
use Rattle.dump_stream.proofs.HeadLaws.{few_in_class}

-- ---- sums

bytes_few : (c size : ℕ) → bytes_in c size ≤ size
bytes_few c size = elim (cases_Bool (is_of_class c size)) [
  | inl is ↦ omega (arith, cond-true (is_of_class c size) size 0 is)
  | inr isnt ↦ omega (arith, cond-false (is_of_class c size) size 0 isnt)
]

sum_few : (c most : ℕ) (sizes : List ℕ) → AreSizes most sizes
    → sum_by (λ size. bytes_in c size) sizes ≤ length sizes * most
sum_few c most [] each = omega arith
sum_few c most (s ∷ sizes) each = omega (
  arith,
  sum_by-cons (λ size. bytes_in c size) s sizes,
  bytes_few c s,
  each.0,
  sum_few c most sizes each.1,
  suc-mul (length sizes) most,
)

in_class_few : (C most c : ℕ) (sizes : List ℕ) → C ≤ width → most < 2 ^ C → c < C → AreSizes most sizes
    → sum_by (λ size. bytes_in c size) sizes ≤ length sizes * 2 ^ (c + 1)
in_class_few C most c [] few top low each = omega arith
in_class_few C most c (s ∷ sizes) few top low each = omega (
  arith,
  sum_by-cons (λ size. bytes_in c size) s sizes,
  few_in_class C most c s few top each.0 low,
  in_class_few C most c sizes few top low each.1,
  suc-mul (length sizes) (2 ^ (c + 1)),
)

pub class_in : (C most size : ℕ) → most < 2 ^ C → size ≤ most → 0 < size → class_of size < C
class_in C most size top small some = elim (cases_lt (class_of size) C) [
  | inl low ↦ low
  | inr high ↦ absurd (omega (arith, class_low size some, small, top, power_rises C (class_of size) high))
]

none_in : (C most c size : ℕ) → most < 2 ^ C → size ≤ most → C ≤ c → bytes_in c size ≡ 0
none_in C most c size top small high = elim (cases_lt 0 size) [
  | inr nothing ↦ let e : size ≡ 0 = omega (arith, nothing) in omega (
    arith,
    ap
        (bytes_in c) e,
    bytes_in-none c,
  )
  | inl some ↦ bytes_in-other c size (λ same. absurd (omega (
    arith,
    same,
    high,
    class_in C most size top small some,
  )))
]

in_class_none : (C most c : ℕ) (sizes : List ℕ) → most < 2 ^ C → C ≤ c → AreSizes most sizes
    → sum_by (λ size. bytes_in c size) sizes ≡ 0
in_class_none C most c [] top high each = refl
in_class_none C most c (s ∷ sizes) top high each = omega (
  arith,
  sum_by-cons (λ size. bytes_in c size) s sizes,
  none_in C most c s top each.0 high,
  in_class_none C most c sizes top high each.1,
)

-- the numbers of sizes are those of a head
pub head_of_sizes : (C most : ℕ) (sizes : List ℕ) → C ≤ width → most < 2 ^ C → length sizes ≤ 65536
    → AreSizes most sizes → IsHead C (length sizes) (volumes_of_sizes sizes)
head_of_sizes C most sizes few top short each = record {
  row = record {
    full = length-volumes_of_sizes sizes;
    zero_above = λ c high. volumes_of_sizes-index sizes c ∙ in_class_none C most c sizes top high each;
  };
  few = short;
  bounds = λ c low. omega (
    arith,
    volumes_of_sizes-index sizes c,
    in_class_few C most c sizes few top low each,
  );
}

-- ---- one size more

module _ (sizes : List ℕ) (size : ℕ) where
  one_more : (c : ℕ) → slice_index (volumes_of_sizes (sizes ++ size ∷ [])) c
      ≡ slice_index (volumes_of_sizes sizes) c + bytes_in c size
  one_more c = omega (
    arith,
    volumes_of_sizes-index (sizes ++ size ∷ []) c,
    volumes_of_sizes-index sizes c,
    sum_by_push (λ s. bytes_in c s) sizes size,
  )

  pub empty_more : size ≡ 0 → volumes_of_sizes sizes ≡ volumes_of_sizes (sizes ++ size ∷ [])
  empty_more none = ext_get_or 0 (volumes_of_sizes sizes) (volumes_of_sizes (sizes ++ size ∷ []))
      (length-volumes_of_sizes sizes ∙ sym (length-volumes_of_sizes (sizes ++ size ∷ [])))
      (λ c _. let same : slice_index (volumes_of_sizes sizes) c
      ≡ slice_index (volumes_of_sizes (sizes ++ size ∷ [])) c =
      omega (arith, one_more c, ap (bytes_in c) none, bytes_in-none c) in same)

  module _ (most : ℕ) (small : size ≤ most) (fits : most ≤ 2 ^ 32) (short : length sizes < 65536)
      (each : AreSizes most sizes) where
    no_more : (c : ℕ) → slice_index (volumes_of_sizes sizes) c + size ≤ 2 ^ 48
    no_more c = omega (
      arith,
      volumes_of_sizes-index sizes c,
      sum_few c most sizes each,
      small,
      fits,
      mul-le-mul_right most (let e : length sizes ≤ 65535 = omega (arith, short) in e),
    )

    pub some_more : 0 < size → class_of size < width
        → slice_set (volumes_of_sizes sizes) (class_of size)
        (min (slice_index (volumes_of_sizes sizes) (class_of size) + size) (2 ^ 64 - 1))
        ≡ volumes_of_sizes (sizes ++ size ∷ [])
    some_more some low =
        let old = volumes_of_sizes sizes in
        let new = volumes_of_sizes (sizes ++ size ∷ []) in
        let k = class_of size in
        let v = min (slice_index old k + size) (2 ^ 64 - 1) in
        let is : v ≡ slice_index old k + size = omega (arith, no_more k) in
        let wide : k < length old = omega (arith, low, length-volumes_of_sizes sizes) in
        ext_get_or 0 (slice_set old k v) new
        (length-set old k v ∙ length-volumes_of_sizes sizes
        ∙ sym (length-volumes_of_sizes (sizes ++ size ∷ [])))
        (λ c _. elim (cases_eq k c) [
          | inl same ↦
              subst (λ x. slice_index (slice_set old k v) x ≡ slice_index new x) same
              (get_or-set_same old k v 0 wide ∙ is
              ∙ ap (λ n. slice_index old k + n) (sym (bytes_in-same size some)) ∙ sym (one_more k))
          | inr other ↦
              let none : slice_index old c ≡ slice_index new c =
              omega (arith, one_more c, bytes_in-other c size other) in
              get_or-set_other old k c v 0 (λ e. other (sym e)) ∙ none
        ])

-- ---- the sizes of a table

pub sizes_take : (most n : ℕ) (sizes : List ℕ) → AreSizes most sizes → AreSizes most (take n sizes)
sizes_take most zero sizes each = tt
sizes_take most (suc n) [] each = tt
sizes_take most (suc n) (s ∷ sizes) each = (each.0, sizes_take most n sizes each.1)

pub are_sizes : (most : ℕ) (es : List (List ℕ × Spot))
    → ((i : ℕ) (e : List ℕ × Spot) → slice_get es i ≡ Some e → e.1.size ≤ most)
    → AreSizes most (map (λ (e : List ℕ × Spot). e.1.size) es)
are_sizes most [] each = tt
are_sizes most (e ∷ es) each = (each 0 e refl, are_sizes most es (λ i x is. each (suc i) x is))

pub size_there : (spots : Spots) (n : ℕ) (name : List ℕ) (s : Spot)
    → slice_get (fin.entries spots) n ≡ Some (name, s) → slice_get (sizes_at spots) n ≡ Some s.size
size_there spots n name s is =
    slice_get-map (λ (e : List ℕ × Spot). e.1.size) (fin.entries spots) n
    ∙ ap (option_map (λ (e : List ℕ × Spot). e.1.size)) is

size_small : (most i s : ℕ) (sizes : List ℕ) → AreSizes most sizes → slice_get sizes i ≡ Some s → s ≤ most
size_small most i s [] each is = absurd (cc)
size_small most zero s (x ∷ sizes) each is = subst (λ n. n ≤ most) (same_Some x s is) each.0
size_small most (suc i) s (x ∷ sizes) each is = size_small most i s sizes each.1 is

pub size_few : (most : ℕ) (spots : Spots) → AreSizes most (sizes_at spots)
    → (n : ℕ) (name : List ℕ) (s : Spot)
    → slice_get (fin.entries spots) n ≡ Some (name, s) → s.size ≤ most
size_few most spots each n name s is =
    size_small most n s.size (sizes_at spots) each (size_there spots n name s is)

pub sizes_more : (spots : Spots) (n : ℕ) (name : List ℕ) (s : Spot)
    → slice_get (fin.entries spots) n ≡ Some (name, s)
    → take (n + 1) (sizes_at spots) ≡ take n (sizes_at spots) ++ s.size ∷ []
sizes_more spots n name s is =
    let there = size_there spots n name s is in
    take_more (sizes_at spots) n 0 (slice_get_within (sizes_at spots) n s.size there)
    ∙ ap (λ v. take n (sizes_at spots) ++ v ∷ []) (get_or_from_slice_get (sizes_at spots) n s.size 0 there)

pub sizes_count : (spots : Spots) → length (sizes_at spots) ≡ fin.len spots
sizes_count spots = length-map (fin.entries spots) (λ (e : List ℕ × Spot). e.1.size)
    ∙ sym (fin.len-entries spots)

pub sizes_short : (spots : Spots) (n : ℕ) → n < fin.len spots → fin.len spots ≤ 65536
    → length (take n (sizes_at spots)) < 65536
sizes_short spots n low few = omega (arith, length-take n (sizes_at spots), sizes_count spots, low, few)

pub sizes_all : (spots : Spots) (n : ℕ) → fin.len spots ≤ n
    → volumes_of_sizes (take n (sizes_at spots)) ≡ volumes_of_sizes (sizes_at spots)
sizes_all spots n end = ap volumes_of_sizes (take_all n (sizes_at spots) (omega
    (arith, sizes_count spots, end)))

-- no object is none
pub no_volumes : zero_row ≡ volumes_of_sizes []
no_volumes = ext_get_or 0 zero_row (volumes_of_sizes [])
    (length-zero_row ∙ sym (length-volumes_of_sizes []))
    (λ c _. zero_row-index c ∙ sym (volumes_of_sizes-index [] c))
