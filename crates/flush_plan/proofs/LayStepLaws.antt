-- One step of Lay: the first item of the class that isn't laid goes behind those that are.
use Rattle.std.specs.Prelude.{◌≡◌, ◌≢◌, ◌⊎◌, ℕ, ◌+◌, ◌<◌, ◌≤◌, ◌==◌, nat_le, nat_lt, Bool, false, ◌&&◌, List, Contains}
use Rattle.std.proofs.Common.{arith, sym, ◌∙◌, ap, subst, inl, inr}
use Rattle.std.proofs.lemmas.Bool.{both_ways, cases_lt, cases_eq, cond-false, eq-eqb, eqb-true, le-leb, leb-true, lt-ltb, le-ltb, ne_eqb, and_from, and_left, and_parts}
use Rattle.flush_model.specs.declared.item.Item.{Item}
use Rattle.flush_model.specs.declared.item.Move.{Move}
use Rattle.flush_model.specs.declared.item.Numbers.{Numbers}
use Rattle.flush_model.specs.Plans.{class_total, final_place, in_class, IsBefore, IsLaid, IsNextLay, ItemsCanResume, laid_length, mover, relocated, sizes_before}
use Rattle.flush_model.specs.Phases.{AreItems, AreLaying}
use Rattle.flush_model.proofs.ListLaws.{first_of_list, sum_by_le_in, sum_by_more_in, sum_by_none_in, sum_by_same_in}
use Rattle.flush_model.proofs.ItemLaws.{after_is, same_or_apart, target, weight_moves}
use Rattle.flush_model.proofs.PackLaws.{laid_length_after}
use Rattle.flush_model.proofs.FinalLaws.{class_total_is, earlier, earlier_counts, earlier_later, earlier_le, earlier_other, earlier_sum_is, in_class_counts, is_earlier}
use Rattle.flush_model.proofs.FrontLaws.{lower_first}
use Rattle.flush_model.proofs.LayLaws.{cases_laid, lay_down, lay_fits, packed_far, past_far}
use Rattle.flush_model.proofs.LayKeepsLaws.{final_other, laid_other, target_laid}
use Rattle.flush_plan.specs.Shelves.{IsFirstOf}
use Rattle.flush_plan.specs.Lays.{IsFront, IsLaidTo}

abbrev is_of_from : ℕ → ℕ → Item → Bool
is_of_from class place it = (it.class == class) && nat_le place it.place

-- ---- a class from its first object on

module _ (C k : ℕ) (n : Numbers) (items : List Item) (are : AreItems n items) (can : ItemsCanResume k n items)
    (laying : AreLaying k n items) where
  -- what isn't laid stands past its final place
  pub unlaid_far : (it : Item) → Contains items it → (IsLaid k n items it → ⊥)
      → final_place k n items it.class it.place < it.place
  unlaid_far it has waits = elim (cases_lt it.place n.wall) [
    | inr past ↦ omega (
      arith,
      past_far k n items are can.wall can.order it has past,
      are.some it has,
    )
    | inl low ↦ elim (laying.packed it has low) [
      | inl laid ↦ absurd (waits laid)
      | inr packed ↦ omega (
        arith,
        packed_far k n items are can.wall can.order it has low packed,
        can.slack it has,
        are.some it has,
      )
    ]
  ]

  -- The classes before one are laid, and no others are. Then that class begins where its segment does.
  module _ (class : ℕ) (done : (it : Item) → Contains items it → it.class < class → IsLaid k n items it)
      (open_ones : (it : Item) → Contains items it → IsLaid k n items it → it.class < class) where
    abbrev begin : ℕ
    begin = n.start + laid_length k items n.boundary class

    -- none of the class stands before it
    none_before : (it : Item) → Contains items it → it.class ≡ class → it.place < begin → ⊥
    none_before it has same less = elim (cases_laid k n items it) [
      | inl laid ↦ omega (arith, open_ones it has laid, same)
      | inr waits ↦ omega (
        arith,
        unlaid_far it has waits,
        ap (laid_length k items n.boundary) same,
        less,
      )
    ]

    pub none_counts : sizes_before items class begin ≡ 0
    none_counts = earlier_sum_is items class begin ∙ sum_by_none_in (earlier class begin) items each
      where
        each : (it : Item) → Contains items it → earlier class begin it ≡ 0
        each it has = elim (cases_eq it.class class) [
          | inr other ↦ earlier_other class begin it other
          | inl same ↦ elim (cases_lt it.place begin) [
            | inl less ↦ absurd (none_before it has same less)
            | inr from ↦ earlier_later class begin it from
          ]
        ]

    pub class_begins : (to : ℕ) → (class < C → to ≡ begin) → class ≤ C
        → ((it : Item) → Contains items it → it.class < C)
        → IsLaidTo C k n items class to n.wall
    class_begins to is high below =
        record {
          laid = λ it has front. elim front [
            | inl less ↦ done it has less
            | inr same ↦ absurd (none_before it has same.0
                (omega (arith, same.1, is (omega (arith, same.0, below it has)))))
          ];
          waits = λ it has laid. inl (open_ones it has laid);
          goes = λ low. omega (arith, is low, none_counts, ap (sizes_before items class) (is low));
          past = omega arith;
          behind = λ it has same past. past;
        }

  -- a class that has no bytes has no items
  pub class_empty : (c : ℕ) → class_total items c ≡ 0 → (it : Item) → Contains items it → it.class ≢ c
  class_empty c none it has same = omega (
    arith,
    none,
    class_total_is items c,
    sum_by_more_in (λ x. 0) (in_class c) it it.size items has (omega (arith, in_class_counts c it same))
        (λ x there. omega arith),
    are.some it has,
  )

  -- ---- the first item of the class that isn't laid

  module _ (class to ahead : ℕ) (front : IsLaidTo C k n items class to ahead) (low : class < C) where
    -- what stands before a place in the class is at most the class
    pub before_at_most : sizes_before items class to ≤ class_total items class
    before_at_most = omega (
      arith,
      earlier_sum_is items class to,
      class_total_is items class,
      sum_by_le_in (earlier class to) (in_class class) items (λ it has. earlier_le class to it),
    )

    -- where that is all of the class, each item of the class stands before it
    pub all_before : sizes_before items class to ≡ class_total items class → (it : Item) → Contains items it
        → it.class ≡ class → it.place < to
    all_before whole it has same = elim (cases_lt it.place to) [
      | inl less ↦ less
      | inr from ↦ absurd (omega (
        arith,
        whole,
        earlier_sum_is items class to,
        class_total_is items class,
        sum_by_more_in (earlier class to) (in_class class) it it.size items has
            (omega (arith, earlier_later class to it from, in_class_counts class it same))
            (λ x there. earlier_le class to x),
        are.some it has,
      ))
    ]

    -- else there is a first one from it on
    pub first_waits : sizes_before items class to < class_total items class
        → (m : Item) × IsFirstOf items class to m
    first_waits some = elim (first_of_list lower_first total trans (is_of_from class to) items) [
      | inl f ↦
          let parts = and_parts (f.0.class == class) (nat_le to f.0.place) f.2 in (
            f.0,
            record {
              has = f.1;
              same = eqb-true f.0.class class parts.0;
              from = leb-true to f.0.place parts.1;
              first = λ it has same from. f.3 it has (and_from (it.class == class) (nat_le to it.place)
                  (eq-eqb it.class class same) (le-leb to it.place from));
            },
          )
      | inr none ↦ absurd (omega (
        arith,
        some,
        earlier_sum_is items class to,
        class_total_is items class,
        sum_by_same_in (earlier class to) (in_class class) items (each none),
      ))
    ]
      where
        total : (a b : Item) → lower_first a b ⊎ lower_first b a
        total a b = elim (cases_lt a.place b.place) [
          | inl less ↦ inl (omega (arith, less))
          | inr more ↦ inr more
        ]

        trans : (a b c : Item) → lower_first a b → lower_first b c → lower_first a c
        trans a b c ab bc = omega (arith, ab, bc)

        each : ((it : Item) → Contains items it → is_of_from class to it ≡ false) → (it : Item)
            → Contains items it → earlier class to it ≡ in_class class it
        each none it has = elim (cases_eq it.class class) [
          | inr other ↦ earlier_other class to it other
              ∙ sym (cond-false (it.class == class) it.size 0 (ne_eqb it.class class other))
          | inl same ↦ elim (cases_lt it.place to) [
            | inl less ↦ earlier_counts class to it same less ∙ sym (in_class_counts class it same)
            | inr from ↦ absurd (both_ways (is_of_from class to it) (none it has)
                (and_from (it.class == class) (nat_le to it.place) (eq-eqb it.class class same)
                (le-leb to it.place from)))
          ]
        ]

    module _ (m : Item) (next : IsFirstOf items class to m) where
      -- it goes to the place
      pub final_is : final_place k n items m.class m.place ≡ to
      final_is = omega (
        arith,
        front.goes low,
        ap (λ c. final_place k n items c m.place) next.same,
        earlier_sum_is items class to,
        earlier_sum_is items class m.place,
        sum_by_same_in (earlier class m.place) (earlier class to) items each,
      )
        where
          each : (it : Item) → Contains items it → earlier class m.place it ≡ earlier class to it
          each it has = elim (cases_eq it.class class) [
            | inr other ↦ earlier_other class m.place it other ∙ sym (earlier_other class to it other)
            | inl same ↦ elim (cases_lt it.place to) [
              | inl less ↦ earlier_counts class m.place it same (omega (arith, less, next.from))
                  ∙ sym (earlier_counts class to it same less)
              | inr from ↦ earlier_later class m.place it (next.first it has same from)
                  ∙ sym (earlier_later class to it from)
            ]
          ]

      pub not_laid : IsLaid k n items m → ⊥
      not_laid laid = elim (front.waits m next.has laid) [
        | inl less ↦ omega (arith, less, next.same)
        | inr same ↦ omega (arith, same.1, next.from)
      ]

      -- what comes before it in the order is at the front
      front_of : (it : Item) → Contains items it → IsBefore it m → IsFront class to it
      front_of it has before = elim before [
        | inl less ↦ inl (omega (arith, less, next.same))
        | inr same ↦ elim (cases_lt it.place to) [
          | inl less ↦ inr (same.0 ∙ next.same, less)
          | inr from ↦ absurd (omega (arith, same.1, next.first it has (same.0 ∙ next.same) from))
        ]
      ]

      module _ (mv : Move) (is : mover mv ≡ m) (goes : mv.to ≡ to) where
        from_is : mv.from ≡ m.place
        from_is = ap (λ (x : Item). x.place) is

        size_is : mv.size ≡ m.size
        size_is = ap (λ (x : Item). x.size) is

        class_is : mv.class ≡ class
        class_is = ap (λ (x : Item). x.class) is ∙ next.same

        has_mover : Contains items (mover mv)
        has_mover = subst (Contains items) (sym is) next.has

        pub lay_next : IsNextLay k n items mv
        lay_next =
            record {
              item = has_mover;
              moves = λ e. not_laid (omega (arith, e, from_is, goes, final_is));
              target = goes ∙ sym final_is
                  ∙ ap (λ (x : Item). final_place k n items x.class x.place) (sym is);
              laid = λ it has before. front.laid it has (front_of it has (subst (IsBefore it) is before));
            }

        abbrev after : List Item
        after = relocated mv.key mv.to items

        down : to + n.slack ≤ m.place
        down = omega (arith, lay_down k n items are can laying mv lay_next, from_is, goes)

        small : m.size ≤ n.slack
        small = can.slack m next.has

        -- another item of the class stands before the place, or behind the mover
        others : (it : Item) → Contains items it → it.key ≢ mv.key → it.class ≡ class
            → (it.place < to) ⊎ (m.place < it.place)
        others it has other same = elim (cases_lt it.place to) [
          | inl less ↦ inl less
          | inr from ↦ elim (same_or_apart n items are it m has next.has) [
            | inl e ↦ absurd (other (ap (λ (x : Item). x.key) (e ∙ sym is)))
            | inr h ↦ elim h.1 [
              | inl e ↦ absurd (omega (arith, e, next.first it has same from, are.some it has))
              | inr e ↦ inr (omega (arith, e, are.some m next.has))
            ]
          ]
        ]

        goes_after : to + m.size ≡ final_place k n after class (to + m.size)
        goes_after = omega (
          arith,
          front.goes low,
          laid_length_after n items are mv has_mover k n.boundary class,
          earlier_sum_is items class to,
          earlier_sum_is after class (to + m.size),
          weight_moves n items are mv has_mover (is_earlier class to) (is_earlier class (to + m.size)) each,
          earlier_later class to (mover mv) (omega (arith, from_is, next.from)),
          earlier_counts class (to + m.size) (target mv) class_is
              (omega (arith, goes, are.some m next.has)),
          size_is,
        )
          where
            each : (it : Item) → Contains items it → it.key ≢ mv.key
                → is_earlier class to it ≡ is_earlier class (to + m.size) it
            each it has other = elim (cases_eq it.class class) [
              | inr differ ↦ and_left (it.class == class) (nat_lt it.place to) (ne_eqb it.class class differ)
                  ∙ sym (and_left (it.class == class) (nat_lt it.place (to + m.size))
                  (ne_eqb it.class class differ))
              | inl same ↦ ap (λ b. (it.class == class) && b) (elim (others it has other same) [
                | inl less ↦ lt-ltb it.place to less
                    ∙ sym (lt-ltb it.place (to + m.size) (omega (arith, less)))
                | inr more ↦ le-ltb it.place to (omega (arith, more, next.from))
                    ∙ sym (le-ltb it.place (to + m.size) (omega (arith, more, down, small)))
              ])
            ]

        -- the items are laid up to its end then
        pub lay_moves : (further : ℕ) → n.wall ≤ further
            → ((it : Item) → Contains items it → it.key ≢ mv.key → it.class ≡ class → n.wall ≤ it.place
            → further ≤ it.place)
            → IsLaidTo C k n after class (to + m.size) further
        lay_moves further past behind =
            record {
              laid = λ it has at_front. elim (after_is n items are mv has_mover it has) [
                | inl e ↦ subst (IsLaid k n after) (sym e) (target_laid k n items are can laying mv lay_next)
                | inr old ↦ laid_other k n items are can laying mv lay_next it old.0 old.1
                    (front.laid it old.0 (elim at_front [
                      | inl less ↦ inl less
                      | inr same ↦ elim (others it old.0 old.1 same.0) [
                        | inl less ↦ inr (same.0, less)
                        | inr more ↦ absurd (omega (arith, more, same.1, down, small))
                      ]
                    ]))
              ];
              waits = λ it has laid. elim (after_is n items are mv has_mover it has) [
                | inl e ↦ inr (
                  ap (λ (x : Item). x.class) e ∙ class_is,
                  omega (arith, ap (λ (x : Item). x.place) e, goes, are.some m next.has),
                )
                | inr old ↦ elim (front.waits it old.0
                    (laid ∙ final_other k n items are can laying mv lay_next it old.0 old.1)) [
                      | inl less ↦ inl less
                      | inr same ↦ inr (same.0, omega (arith, same.1))
                    ]
              ];
              goes = λ below. goes_after;
              past = past;
              behind = λ it has same high. elim (after_is n items are mv has_mover it has) [
                | inl e ↦ absurd (omega (arith, high, ap (λ (x : Item). x.place) e, lands_below))
                | inr old ↦ behind it old.0 old.1 same high
              ];
            }
          where
            lands_below : mv.to < n.wall
            lands_below = omega (
              arith,
              lay_fits k n items are can laying mv lay_next,
              size_is,
              are.some m next.has,
            )
