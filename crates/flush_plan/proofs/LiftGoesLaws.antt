-- How Lift goes on, move by move, and where it begins and ends.
use Rattle.std.specs.Prelude.{◌≡◌, ◌⊎◌, ℕ, ◌+◌, ◌^◌, ◌<◌, ◌≤◌, ◌/◌, true, false, List, length, slice_get, slice_index, Some, Contains, IsTrue, Option, None, IfSome, IsPermutation}
use Rattle.std.proofs.Common.{arith, ◌∙◌, ap, inl, inr}
use Rattle.std.proofs.lemmas.List.Sorted.{Contains-permutation, IsPermutation-sym}
use Rattle.std.proofs.lemmas.Bool.{cases_lt, cases_order, not_from_false}
use Rattle.size_class.specs.Classes.{IsRow, width}
use Rattle.segment_layout.specs.Shapes.{buffer_start, end_of, start_of}
use Rattle.segment_layout.proofs.ShapeLaws.{start_of-le, start_of-rises}
use Rattle.flush_model.specs.declared.item.Item.{Item}
use Rattle.flush_model.specs.declared.item.Move.{Move}
use Rattle.flush_model.specs.declared.item.Numbers.{Numbers}
use Rattle.flush_model.specs.Plans.{AreSmall, IsInBuffer, IsNextLift, lifted_bytes, relocated, stands_in_payload}
use Rattle.flush_model.specs.Phases.{IsLifted, IsLifting, lifted_in, PlanState, stands_below}
use Rattle.flush_model.specs.Begins.{Begins, pending_size, with_pending}
use Rattle.flush_model.specs.Steps.{IsLiftStep}
use Rattle.flush_model.proofs.BeginLaws.{begun, begun_below, begun_small, HasBegun, push_each}
use Rattle.flush_model.proofs.ItemLaws.{after_is, same_or_apart}
use Rattle.flush_model.proofs.LargestLaws.{largest-permuted}
use Rattle.flush_model.proofs.LiftLaws.{lift_ends_before, lift_past, lifted_after, lifted_in_none, payload_parts}
use Rattle.flush_model.proofs.PhaseLaws.{below_after, lifting_moved, small_after}
use Rattle.flush_model.proofs.SortLaws.{below_permuted, items_permuted, lifted_permuted, lifting_permuted, small_permuted, suits_permuted, total_permuted}
use Rattle.flush_model.proofs.StepLaws.{lift_step}
use Rattle.flush_plan.specs.Lifts.{ArePassed, IsFirstUnlifted, KeepsLifting, Lift, Lifts}
use Rattle.flush_plan.specs.Shelves.{PlanFrame, course_of, IsRank, phase_on}
use Rattle.flush_plan.proofs.ShelfLaws.{first_is_least, first_item, none_is_left}

-- the value of Lift at a place, with the next target
abbrev pub lift_at : PlanFrame → ℕ → ℕ → Lift
lift_at course from to = record { course = course; from = from; to = to }

module _ (C : ℕ) (v : Lift) (items : List Item) (keeps : KeepsLifting C v items) where
  abbrev k : ℕ
  k = v.course.k

  abbrev caps : List ℕ
  caps = v.course.caps

  abbrev n : Numbers
  n = v.course.numbers

  abbrev p : PlanState
  p = phase_on v.course items

  is : IsLifting p
  is = keeps.lifting

  -- an item below the wall, and the payload segment of its class, end below 2 ^ 64
  end_low : end_of k caps < 2 ^ 64
  end_low = omega (arith, is.lifting.old_end, is.lifting.reaches, keeps.small.0)

  module _ (m : Item) (has : Contains items m) where
    pub waits_low : m.place < n.wall → m.place + m.size < 2 ^ 64
    waits_low low = omega (arith, is.lifting.waits m has low, end_low)

    in_layout : m.class < length caps
    in_layout = omega (arith, keeps.classes m has, keeps.fits, is.classes)

    pub segment_low : start_of k caps m.class + slice_index caps m.class < 2 ^ 64
    segment_low = omega (arith, end_low, start_of-le k caps m.class in_layout)

    -- Where an item stands in its payload segment, so does each below the wall from there to the end of that
    -- segment.
    module _ (stands : stands_in_payload k caps m ≡ true) where
      parts : (start_of k caps m.class ≤ m.place) × (m.place + m.size ≤ buffer_start k caps m.class)
      parts = payload_parts k caps m stands

      pub segment_behind : m.place < start_of k caps m.class + slice_index caps m.class
      segment_behind = omega (arith, parts.1, is.items.some m has)

      beside : (it : Item) (j : ℕ) → 1 ≤ it.size → IsInBuffer k caps j it → m.place ≤ it.place
          → it.place < start_of k caps m.class + slice_index caps m.class → ⊥
      beside it j some in_buffer low high = elim (cases_order j m.class) [
        | inl e ↦ omega (arith, in_buffer.low, high, ap (buffer_start k caps) e)
        | inr (inl before) ↦ omega (
          arith,
          in_buffer.high,
          start_of-rises k caps j m.class before (omega (arith, in_layout)),
          parts.0,
          low,
          some,
        )
        | inr (inr behind) ↦ omega (
          arith,
          in_buffer.low,
          start_of-rises k caps m.class j behind (omega (arith, in_buffer.within, is.classes)),
          high,
        )
      ]

      pub segment_stands : (it : Item) → Contains items it → m.place ≤ it.place
          → it.place < start_of k caps m.class + slice_index caps m.class → it.place < n.wall
          → IsTrue (stands_in_payload k caps it)
      segment_stands it there low high below = elim (keeps.stands it there below) [
        | inl payload ↦ payload
        | inr buffer ↦ absurd (beside it buffer.0 (is.items.some it there) buffer.1 low high)
      ]

  -- ---- a move

  module _ (m : Item) (found : IsFirstUnlifted v.course items m) where
    abbrev mv : Move
    mv = record { key = m.key; class = m.class; from = m.place; to = v.to; size = m.size }

    next : IsNextLift k caps n v.course.pending items mv
    next = record {
      item = found.has;
      below = found.below;
      buffered = not_from_false (stands_in_payload k caps m) found.outside;
      first = λ it has less. found.first it has less (omega (arith, less, found.below));
      target = keeps.goes;
    }

    pub lift_is_step : IsLiftStep p mv
    lift_is_step = lift_step p mv is next

    pub lift_fits : v.to + m.size ≤ n.reach
    lift_fits = omega (
      arith,
      lift_ends_before k caps n v.course.pending items is.items is.lifting mv next,
    )

    past : n.wall ≤ v.to
    past = lift_past k caps n v.course.pending items is.items is.lifting mv next

    -- one that stood where the mover did would be the mover
    alone : (it : Item) → Contains items it → it.place ≡ m.place → it.key ≡ m.key
    alone it has same = elim (same_or_apart n items is.items it m has found.has) [
      | inl e ↦ ap (λ (x : Item). x.key) e
      | inr h ↦ absurd (elim h.1 [
        | inl ends ↦ omega (arith, ends, same, is.items.some it has)
        | inr ends ↦ omega (arith, ends, same, is.items.some m found.has)
      ])
    ]

    pub lift_goes_on : KeepsLifting C (lift_at v.course (m.place + 1) (v.to + m.size))
        (relocated m.key v.to items)
    lift_goes_on =
        record {
          fits = keeps.fits;
          boundary = keeps.boundary;
          divisor = keeps.divisor;
          lifting = lifting_moved p mv is next;
          classes = below_after C p mv is.items found.has keeps.classes;
          small = small_after p mv is.items found.has (omega (arith, lift_fits)) keeps.small;
          stands = λ it there low. elim (after_is n items is.items mv found.has it there) [
            | inl e ↦ absurd (omega (arith, low, ap (λ (x : Item). x.place) e, past))
            | inr old ↦ keeps.stands it old.0 low
          ];
          low = omega (arith, is.items.start m found.has);
          passed = λ it there before low. elim (after_is n items is.items mv found.has it there) [
            | inl e ↦ absurd (omega (arith, low, ap (λ (x : Item). x.place) e, past))
            | inr old ↦ elim (cases_lt it.place m.place) [
              | inl less ↦ found.first it old.0 less low
              | inr more ↦ absurd (old.1 (alone it old.0 (omega (arith, before, more))))
            ]
          ];
          goes = omega (
            arith,
            keeps.goes,
            lifted_after k caps n v.course.pending items is.items is.lifting mv next,
          );
        }

-- ---- what is found on the shelf

module _ (C : ℕ) (v : Lift) (items xs : List Item) (lifts : Lifts C v items xs) (from rank : ℕ)
    (low : v.course.numbers.start ≤ from) (passed : ArePassed v.course items from) (at : IsRank xs from rank)
  where
    -- where no object is left, or none below the wall, all is lifted
    pub lift_ended : length xs ≤ rank → IsLifted (phase_on v.course items)
    lift_ended ended it has below =
        passed it has (none_is_left v.course.numbers.start items xs lifts.on from rank low at ended it has)
        below

    module _ (m : Item) (got : slice_get xs rank ≡ Some m) where
      pub found_has : Contains items m
      found_has = first_item v.course.numbers.start items xs lifts.on from rank low at m got

      before_found : ArePassed v.course items m.place
      before_found it has before below = elim (cases_lt it.place from) [
        | inl less ↦ passed it has less below
        | inr more ↦ absurd (omega (
          arith,
          before,
          first_is_least v.course.numbers.start items xs lifts.on from rank low at m got it has more,
        ))
      ]

      pub lift_past_wall : v.course.numbers.wall ≤ m.place → IsLifted (phase_on v.course items)
      lift_past_wall past it has below = before_found it has (omega (arith, below, past)) below

      pub lift_found : m.place < v.course.numbers.wall
          → stands_in_payload v.course.k v.course.caps m ≡ false → IsFirstUnlifted v.course items m
      lift_found below outside =
          record { has = found_has; below = below; outside = outside; first = before_found }

      -- what stands in its payload segment is passed, up to the segment's end
      pub lift_passes : stands_in_payload v.course.k v.course.caps m ≡ true
          → ArePassed v.course items
          (start_of v.course.k v.course.caps m.class + slice_index v.course.caps m.class)
      lift_passes stands it has before below = elim (cases_lt it.place m.place) [
        | inl less ↦ before_found it has less below
        | inr more ↦ segment_stands C v items lifts.keeps m found_has stands it has more before below
      ]

-- ---- where Lift begins

-- the items stand in payload segments or in buffers, and the pending one past the wall
begun_stands : (k : ℕ) (caps : List ℕ) (n : Numbers) (items : List Item) (pending : Option Item)
    → Begins k caps n items pending → (it : Item) → Contains (with_pending items pending) it
    → it.place < n.wall → IsTrue (stands_in_payload k caps it) ⊎ ((j : ℕ) × IsInBuffer k caps j it)
begun_stands k caps n items None begins it has low = begins.0.stands it has
begun_stands k caps n items (Some pending) begins it has low =
    push_each (λ (x : Item). x.place < n.wall
    → IsTrue (stands_in_payload k caps x) ⊎ ((j : ℕ) × IsInBuffer k caps j x)) items pending
    (λ less. absurd (omega (arith, less, begins.2.place))) (λ x there less. begins.0.stands x there) it has
    low

-- Lift begins from a layout, in whatever order the items are told.
module _ (C k : ℕ) (caps : List ℕ) (n : Numbers) (items : List Item) (pending : Option Item) (all : List Item)
    (fits : C ≤ width) (boundary : n.boundary < C) (divisor : 2 ≤ k) (row : IsRow C caps)
    (high : end_of k caps ≤ 2 ^ 54) (class : IfSome pending (λ it. it.class < C))
    (begins : Begins k caps n items pending) (same : IsPermutation (with_pending items pending) all) where
  abbrev course : PlanFrame
  course = course_of k caps n (pending_size pending)

  has : HasBegun k caps n (pending_size pending) (with_pending items pending)
  has = begun k caps n items pending (omega (arith, boundary, fits)) begins

  back : (it : Item) → Contains all it → Contains (with_pending items pending) it
  back it there = Contains-permutation all (with_pending items pending) it
      (IsPermutation-sym (with_pending items pending) all same) there

  small : AreSmall n all
  small = small_permuted (with_pending items pending) all same n
      (begun_small k caps n items pending high begins)

  lifting : IsLifting (phase_on course all)
  lifting =
      let before = with_pending items pending in
      let are = items_permuted before all same n has.items in
      record {
        items = are;
        layout = suits_permuted before all same k caps n has.layout;
        lifting = lifting_permuted before all same k caps n (pending_size pending) has.lifting;
        pays = omega (
          arith,
          has.pays,
          largest-permuted 0 before all same,
          ap (λ bytes. bytes / k) (total_permuted before all same (stands_below (phase_on course all))),
        );
        classes = has.classes;
      }

  pub lift_begins : KeepsLifting C (lift_at course n.start n.wall) all
  lift_begins =
      record {
        fits = fits;
        boundary = omega (arith, boundary);
        divisor = divisor;
        lifting = lifting;
        classes = below_permuted (with_pending items pending) all same C
            (begun_below C k caps n items pending row class begins);
        small = small;
        stands = λ it there low. begun_stands k caps n items pending begins it (back it there) low;
        low = omega arith;
        passed = λ it there before. absurd (omega (arith, before, lifting.items.start it there));
        goes = omega (arith, none_lifted);
      }
    where
      none_lifted : lifted_bytes n (pending_size pending) all ≡ 0
      none_lifted =
          lifted_permuted (with_pending items pending) all same n (pending_size pending) ∙ has.none

  pub lift_begins_with_none : (c : ℕ) → lifted_in (phase_on course all) c ≡ 0
  lift_begins_with_none c = lifted_in_none (phase_on course all)
      (lifted_permuted (with_pending items pending) all same n (pending_size pending) ∙ has.none) c
