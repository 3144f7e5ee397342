-- Where laying puts items: in the order of class and place, with room for the slack behind.
use Rattle.std.specs.Prelude.{◌≡◌, ◌≢◌, ◌⊎◌, ℕ, ◌+◌, ◌-◌, ◌<◌, ◌≤◌, ◌==◌, nat_lt, Bool, true, false, ◌&&◌, cond, List, Contains, filter, sum_by, refl}
use Rattle.std.proofs.Common.{arith, sym, ◌∙◌, ap, inl, inr}
use Rattle.std.proofs.lemmas.Bool.{cases_lt, cases_eq, cases_order, cases_Bool, cond-true, cond-false, lt-ltb, le-ltb, eq-eqb, ne_eqb, and_from, and_left, and_right}
use Rattle.byte_ranges.specs.Lists.{counting_from}
use Rattle.size_class.specs.Classes.{width}
use Rattle.size_class.proofs.ClassLaws.{class_below}
use Rattle.segment_layout.specs.Shapes.{buffer_of}
use Rattle.flush_model.specs.declared.item.Item.{Item}
use Rattle.flush_model.specs.declared.item.Numbers.{Numbers}
use Rattle.flush_model.specs.Plans.{class_total, final_place, IsBefore, laid_length, total, weight, in_class}
use Rattle.flush_model.specs.Phases.{AreItems}
use Rattle.flush_model.proofs.ListLaws.{counting_split, counting_term, sum_by_both, sum_by_le_in, sum_by_more_in, sum_by_swap}
use Rattle.flush_model.proofs.ItemLaws.{same_or_apart, total_is}

-- ---- the bytes before an item in its class

abbrev pub is_earlier : ℕ → ℕ → Item → Bool
is_earlier c place it = (it.class == c) && nat_lt it.place place

abbrev pub earlier : ℕ → ℕ → Item → ℕ
earlier c place it = cond (is_earlier c place it) it.size 0

pub earlier_counts : (c place : ℕ) (it : Item) → it.class ≡ c → it.place < place
    → earlier c place it ≡ it.size
earlier_counts c place it same less =
    cond-true (is_earlier c place it) it.size 0
    (and_from (it.class == c) (nat_lt it.place place) (eq-eqb it.class c same) (lt-ltb it.place place less))

pub earlier_other : (c place : ℕ) (it : Item) → it.class ≢ c → earlier c place it ≡ 0
earlier_other c place it other = cond-false (is_earlier c place it) it.size 0
    (and_left (it.class == c) (nat_lt it.place place) (ne_eqb it.class c other))

pub earlier_later : (c place : ℕ) (it : Item) → place ≤ it.place → earlier c place it ≡ 0
earlier_later c place it later = cond-false (is_earlier c place it) it.size 0
    (and_right (it.class == c) (nat_lt it.place place) (le-ltb it.place place later))

pub in_class_counts : (c : ℕ) (it : Item) → it.class ≡ c → in_class c it ≡ it.size
in_class_counts c it same = cond-true (it.class == c) it.size 0 (eq-eqb it.class c same)

pub earlier_le : (c place : ℕ) (it : Item) → earlier c place it ≤ in_class c it
earlier_le c place it =
    elim (cases_eq it.class c) [
      | inr other ↦ omega (arith, earlier_other c place it other)
      | inl same ↦ elim (cases_lt it.place place) [
        | inl less ↦ omega (arith, earlier_counts c place it same less, in_class_counts c it same)
        | inr later ↦ omega (arith, earlier_later c place it later)
      ]
    ]

abbrev pub earlier_sum : List Item → ℕ → ℕ → ℕ
earlier_sum items c place = total (filter (is_earlier c place) items)

pub earlier_sum_is : (items : List Item) (c place : ℕ)
    → earlier_sum items c place ≡ sum_by (earlier c place) items
earlier_sum_is items c place = total_is (is_earlier c place) items

pub class_total_is : (items : List Item) (c : ℕ) → class_total items c ≡ sum_by (in_class c) items
class_total_is items c = total_is (λ it. it.class == c) items

-- ---- the new layout's length

abbrev pub segment : ℕ → List Item → ℕ → ℕ
segment k items d = class_total items d + buffer_of k (class_total items d)

pub laid_length_split : (k : ℕ) (items : List Item) (b c d : ℕ) → b ≤ c → c ≤ d
    → laid_length k items b d ≡ laid_length k items b c + laid_length k items c d
laid_length_split k items b c d low high =
    let parts = counting_split (segment k items) b (c - b) (d - c) in
    let whole : c - b + (d - c) ≡ d - b = omega (arith, low, high) in
    let from : b + (c - b) ≡ c = omega (arith, low) in
    omega (
      arith,
      parts,
      ap (λ x. sum_by (segment k items) (counting_from b x)) whole,
      ap (λ x. sum_by (segment k items) (counting_from x (d - c))) from,
    )

pub laid_length_class : (k : ℕ) (items : List Item) (c d : ℕ) → c < d
    → class_total items c ≤ laid_length k items c d
laid_length_class k items c d less =
    omega (arith, counting_term (segment k items) c (d - c) c (omega arith) (omega (arith, less)))

-- ---- where laying puts items

module _ (k : ℕ) (n : Numbers) (items : List Item) (are : AreItems n items) where
  class_high : (it : Item) → Contains items it → it.class < width
  class_high it has = omega (arith, are.class it has, class_below it.size)

  abbrev final : Item → ℕ
  final it = final_place k n items it.class it.place

  pub order_total : (a b : Item) → Contains items a → Contains items b → (a ≡ b) ⊎ IsBefore a b ⊎ IsBefore b a
  order_total a b has_a has_b =
      elim (cases_order a.class b.class) [
        | inr (inl less) ↦ inr (inl (inl less))
        | inr (inr more) ↦ inr (inr (inl more))
        | inl same ↦ elim (cases_order a.place b.place) [
          | inr (inl less) ↦ inr (inl (inr (same, less)))
          | inr (inr more) ↦ inr (inr (inr (sym same, more)))
          | inl here ↦ elim (same_or_apart n items are a b has_a has_b) [
            | inl e ↦ inl e
            | inr h ↦ absurd (elim h.1 [
              | inl e ↦ omega (arith, e, here, are.some a has_a)
              | inr e ↦ omega
                  (arith, e, here, are.some b has_b)
            ])
          ]
        ]
      ]

  -- an item's final place is behind that of each item before it
  pub final_rises : (a b : Item) → Contains items a → Contains items b → IsBefore a b
      → final a + a.size ≤ final b
  final_rises a b has_a has_b before =
      elim before [
        | inl less ↦
            let counted = sum_by_more_in (earlier a.class a.place) (in_class a.class) a a.size items has_a
            (omega (arith, earlier_later a.class a.place a (omega arith), in_class_counts a.class a refl))
            (λ x has. earlier_le a.class a.place x) in
            omega (
              arith,
              counted,
              earlier_sum_is items a.class a.place,
              class_total_is items a.class,
              laid_length_split k items n.boundary a.class b.class (are.from a has_a) (omega (arith, less)),
              laid_length_class k items a.class b.class less,
            )
        | inr same ↦
            let counted = sum_by_more_in (earlier a.class a.place) (earlier b.class b.place) a a.size items
            has_a (omega (
              arith,
              earlier_later a.class a.place a (omega arith),
              earlier_counts b.class b.place a same.0 same.1,
            )) (each same.0 same.1) in
            omega (
              arith,
              counted,
              earlier_sum_is items a.class a.place,
              earlier_sum_is items b.class b.place,
              ap (laid_length k items n.boundary) same.0,
            )
      ]
    where
      each : a.class ≡ b.class → a.place < b.place → (x : Item) → Contains items x
          → earlier a.class a.place x ≤ earlier b.class b.place x
      each same less x has = elim (cases_eq x.class a.class) [
        | inr other ↦ omega (arith, earlier_other a.class a.place x other)
        | inl e ↦ elim (cases_lt x.place a.place) [
          | inr later ↦ omega (arith, earlier_later a.class a.place x later)
          | inl low ↦ omega (
            arith,
            earlier_counts a.class a.place x e low,
            earlier_counts b.class b.place x (e ∙ same) (omega (arith, low, less)),
          )
        ]
      ]

  -- The items that pass a test all come behind an item. Then there is room for them behind its final place,
  -- and for
  -- the slack.
  pub lay_room : n.start + laid_length k items n.boundary width + n.slack ≤ n.wall → (it : Item)
      → Contains items it → (q : Item → Bool) → ((x : Item) → Contains items x → q x ≡ true → IsBefore it x)
      → final it + it.size + weight q items + n.slack ≤ n.wall
  lay_room room it has q behind =
      omega (
        arith,
        room,
        counted,
        both,
        swapped,
        rest,
        earlier_sum_is items it.class it.place,
        laid_length_split k items n.boundary it.class width (are.from it has)
            (omega (arith, class_high it has)),
      )
    where
      classes : List ℕ
      classes = counting_from it.class (width - it.class)

      f : Item → ℕ
      f x = earlier it.class it.place x + cond (q x) x.size 0

      g : Item → ℕ
      g x = sum_by (λ d. in_class d x) classes

      whole : (x : Item) → Contains items x → it.class ≤ x.class → x.size ≤ g x
      whole x there from = omega (
        arith,
        counting_term (λ d. in_class d x) it.class (width - it.class) x.class from
            (omega (arith, class_high x there, from)),
        in_class_counts x.class x refl,
      )

      nothing : (x : Item) → q x ≡ false → cond (q x) x.size 0 ≡ 0
      nothing x fails = cond-false (q x) x.size 0 fails

      each : (x : Item) → Contains items x → f x ≤ g x
      each x there = elim (cases_Bool (q x)) [
        | inl passes ↦ elim (behind x there passes) [
          | inl less ↦ omega (
            arith,
            cond-true (q x) x.size 0 passes,
            earlier_other it.class it.place x (λ e. omega (arith, e, less)),
            whole x there (omega (arith, less)),
          )
          | inr same ↦ omega (
            arith,
            cond-true (q x) x.size 0 passes,
            earlier_later it.class it.place x (omega (arith, same.1)),
            whole x there (omega (arith, same.0)),
          )
        ]
        | inr fails ↦ elim (cases_eq x.class it.class) [
          | inr other ↦ omega (arith, nothing x fails, earlier_other it.class it.place x other)
          | inl e ↦ omega (
            arith,
            nothing x fails,
            earlier_le it.class it.place x,
            in_class_counts it.class x e,
            whole x there (omega (arith, e)),
          )
        ]
      ]

      itself : f it + it.size ≤ g it
      itself = elim (cases_Bool (q it)) [
        | inl passes ↦ absurd (elim (behind it has passes) [
          | inl less ↦ omega (arith, less)
          | inr same ↦ omega
              (arith, same.1)
        ])
        | inr fails ↦ omega (
          arith,
          nothing it fails,
          earlier_later it.class it.place it (omega arith),
          whole it has (omega arith),
        )
      ]

      counted : sum_by f items + it.size ≤ sum_by g items
      counted = sum_by_more_in f g it it.size items has itself each

      both : sum_by f items ≡ sum_by (earlier it.class it.place) items + weight q items
      both = sum_by_both (earlier it.class it.place) (λ x. cond (q x) x.size 0) items

      swapped : sum_by g items ≡ sum_by (λ d. sum_by (in_class d) items) classes
      swapped = sum_by_swap (λ x d. in_class d x) items classes

      rest : sum_by (λ d. sum_by (in_class d) items) classes ≤ laid_length k items it.class width
      rest = sum_by_le_in (λ d. sum_by (in_class d) items) (segment k items) classes
          (λ d there. omega (arith, class_total_is items d))
