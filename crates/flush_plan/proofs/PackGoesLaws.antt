-- How Pack goes on, move by move, and where it begins and ends.
use Rattle.std.specs.Prelude.{◌≡◌, ◌≢◌, ◌⊎◌, ℕ, ◌+◌, ◌-◌, ◌^◌, ◌<◌, ◌≤◌, List, Contains, refl}
use Rattle.std.proofs.Common.{arith, ap, subst, inl, inr}
use Rattle.size_class.specs.Classes.{width}
use Rattle.segment_layout.specs.Shapes.{start_of}
use Rattle.flush_model.specs.declared.item.Item.{Item}
use Rattle.flush_model.specs.declared.item.Move.{Move}
use Rattle.flush_model.specs.declared.item.Numbers.{Numbers}
use Rattle.flush_model.specs.Plans.{AreBelow, AreSmall, IsNextPack, ItemsCanResume, mover, relocated}
use Rattle.flush_model.specs.Phases.{AreItems, IsLifted, IsLifting, IsPackedWhole, IsPacking, PlanState}
use Rattle.flush_model.specs.Steps.{IsPackStep}
use Rattle.flush_model.specs.Resumed.{numbers_again}
use Rattle.flush_model.proofs.PhaseLaws.{below_after, packing_begins, packing_moved, packing_resumes, small_after}
use Rattle.flush_model.proofs.StepLaws.{pack_step}
use Rattle.flush_plan.specs.Shelves.{PlanFrame, course_of, IsLastBefore, IsOnShelf, phase_on}
use Rattle.flush_plan.specs.Packs.{CanGoOn, IsPackedFrom, KeepsPacking, Pack, Packs}
use Rattle.flush_plan.proofs.PackStepLaws.{alone_at_top, ends_before_top, over_is_row, pack_loosens, pack_moves, pack_next, pack_stays, packed_from_wall}

-- the value of Pack at a place
abbrev pub pack_at : PlanFrame → ℕ → Pack
pack_at course top = record { course = course; top = top }

module _ (C : ℕ) (v : Pack) (items : List Item) (keeps : KeepsPacking C v items) where
  abbrev p : PlanState
  p = phase_on v.course items

  is : IsPacking p
  is = keeps.packing

  -- where no item stands before the top all is packed
  pub pack_ended : ((it : Item) → Contains items it → v.top ≤ it.place) → IsPackedWhole p
  pack_ended none it has low = keeps.from_top.packed it has (none it has) low

  module _ (m : Item) (last : IsLastBefore items v.top m) where
    has : Contains items m
    has = last.has

    before : m.place < v.top
    before = last.before

    pub pack_fits : m.place + m.size ≤ v.top
    pack_fits = ends_before_top v.course.k v.course.numbers items is.items is.resumes v.top keeps.from_top m
        last

    -- else one waits
    pub pack_waits : IsPackedWhole p → ⊥
    pack_waits whole = keeps.loose m has before (omega (
      arith,
      whole m has (omega (arith, before, keeps.from_top.high)),
      over_is_row v.course.k v.course.numbers items is.items is.resumes v.top keeps.from_top m
          last,
    ))

    module _ (mv : Move) (same : mover mv ≡ m) (ends : mv.to + mv.size ≡ v.top) where
      next : IsNextPack v.course.numbers items mv
      next = pack_next v.course.k v.course.numbers items is.items is.resumes v.top keeps.from_top m
          last mv same ends (keeps.loose m has before)

      pub pack_is_step : IsPackStep p mv
      pack_is_step = pack_step p mv is next

      pub pack_goes_on : KeepsPacking C (pack_at v.course mv.to) (relocated mv.key mv.to items)
      pack_goes_on =
          record {
            fits = keeps.fits;
            boundary = keeps.boundary;
            divisor = keeps.divisor;
            packing = packing_moved p mv is next;
            classes = below_after C p mv is.items next.item keeps.classes;
            small = small_after p mv is.items next.item
                (omega (arith, ends, keeps.from_top.high, is.reaches)) keeps.small;
            from_top = pack_moves v.course.k v.course.numbers items is.items is.resumes v.top keeps.from_top m
                last mv same ends (keeps.loose m has before);
            loose = pack_loosens v.course.k v.course.numbers items is.items is.resumes v.top keeps.from_top m
                last mv same ends (keeps.loose m has before);
          }

-- the move of an item
abbrev pub move_of : Item → ℕ → Move
move_of m to = record { key = m.key; class = m.class; from = m.place; to = to; size = m.size }

-- one step of Pack on a shelf
module _ (C : ℕ) (v : Pack) (items shelf : List Item) (packs : Packs C v items shelf) where
  pub ends_on_shelf : ((it : Item) → Contains items it → v.top ≤ it.place)
      → IsPackedWhole (phase_on v.course items)
  ends_on_shelf = pack_ended C v items packs.keeps

  module _ (m : Item) (last : IsLastBefore items v.top m) where
    pub fits_on_shelf : m.size ≤ v.top
    fits_on_shelf = omega (arith, pack_fits C v items packs.keeps m last)

    pub waits_on_shelf : IsPackedWhole (phase_on v.course items) → ⊥
    waits_on_shelf = pack_waits C v items packs.keeps m last

    pub step_on_shelf : IsPackStep (phase_on v.course items) (move_of m (v.top - m.size))
    step_on_shelf = pack_is_step C v items packs.keeps m last (move_of m (v.top - m.size)) refl
        (omega (arith, fits_on_shelf))

    pub keeps_on_shelf : KeepsPacking C (pack_at v.course (v.top - m.size))
        (relocated m.key (v.top - m.size) items)
    keeps_on_shelf = pack_goes_on C v items packs.keeps m last (move_of m (v.top - m.size)) refl
        (omega (arith, fits_on_shelf))

-- Pack begins at the wall, where Lift ends: what lies below the wall ends before it.
pub pack_begins : (C : ℕ) (course : PlanFrame) (items : List Item) → C ≤ width → course.numbers.boundary ≤ C
    → 2 ≤ course.k → IsLifting (phase_on course items) → IsLifted (phase_on course items) → AreBelow C items
    → AreSmall course.numbers items → KeepsPacking C (pack_at course course.numbers.wall) items
pack_begins C course items fits boundary divisor is ended classes small =
    record {
      fits = fits;
      boundary = boundary;
      divisor = divisor;
      packing = packing_begins (phase_on course items) is ended;
      classes = classes;
      small = small;
      from_top = packed_from_wall course.numbers items;
      loose = λ it has low ends. absurd (omega (
        arith,
        ends,
        is.lifting.waits it has low,
        is.lifting.old_end,
        is.lifting.slack it has,
        is.items.some it has,
      ));
    }

-- A flush that was interrupted goes on with Pack, from a place from which all is packed.
module _ (C k : ℕ) (caps : List ℕ) (n : Numbers) (items shelf : List Item)
    (can : CanGoOn C k caps n items shelf) where
  pub again_items : AreItems n items
  again_items = record {
    apart = can.objects.apart;
    some = can.objects.some;
    class = can.objects.class;
    from = can.objects.from;
    start = λ it has. elim (can.resumes.side it has) [
      | inl past ↦ omega (arith, past, can.resumes.wall)
      | inr low ↦ low.0
    ];
  }

  module _ (top : ℕ) (down : IsPackedFrom n items top) (m : Item) (last : IsLastBefore items top m) where
    pub again_fits : m.place + m.size < 2 ^ 64
    again_fits = omega (
      arith,
      ends_before_top k n items again_items can.resumes top down m last,
      down.high,
      can.reaches,
      can.small.0,
    )

    pub again_stays : m.place + m.size ≡ top → IsPackedFrom n items m.place
    again_stays = pack_stays k n items again_items can.resumes top down m last

    pub again_loose : m.place + m.size ≢ top → (it : Item) → Contains items it → it.place < top
        → it.place + it.size ≢ top
    again_loose differ it has less ends =
        let same = alone_at_top k n items again_items can.resumes top down m last it has less ends in
        differ (omega (arith, ends, ap (λ (x : Item). x.place) same, ap (λ (x : Item). x.size) same))

  module _ (fits : C ≤ width) (boundary : n.boundary < C) (divisor : 2 ≤ k) where
    abbrev course : PlanFrame
    course = course_of k caps n 0

    pub pack_from : (top : ℕ) → IsPackedFrom n items top
        → ((it : Item) → Contains items it → it.place < top → it.place + it.size ≢ top)
        → KeepsPacking C (pack_at course top) items
    pack_from top down loose =
        record {
          fits = fits;
          boundary = omega (arith, boundary);
          divisor = divisor;
          packing = packing_resumes (phase_on course items) can.objects can.resumes
              (record { boundary = omega (arith, boundary, fits); start = can.start; end = can.end })
              can.reaches;
          classes = can.classes;
          small = can.small;
          from_top = down;
          loose = loose;
        }

-- A flush that is interrupted in Pack or in Lay can go on over the same shelf, by the wall and the slack that
-- it began with.
pub can_go_on : (C k : ℕ) (caps : List ℕ) (v : PlanFrame) (items shelf : List Item)
    → IsPacking (phase_on v items)
    → AreBelow C items → AreSmall v.numbers items → IsOnShelf v.numbers.start items shelf → v.k ≡ k
    → v.numbers.start ≡ start_of k caps v.numbers.boundary
    → CanGoOn C k caps (numbers_again k caps v.numbers.boundary v.numbers.wall v.numbers.slack items) items
    shelf
can_go_on C k caps v items shelf is classes small on same start =
    let can : ItemsCanResume k v.numbers items = subst
    (λ x. ItemsCanResume x v.numbers items) same is.resumes in
    record {
      objects = record {
        apart = is.items.apart;
        some = is.items.some;
        class = is.items.class;
        from = is.items.from;
      };
      resumes = record {
        wall = omega (arith, can.wall, start);
        slack = can.slack;
        side = subst (λ x. (it : Item) → Contains items it → (v.numbers.wall ≤ it.place)
            ⊎ ((x ≤ it.place) × (it.place + it.size ≤ v.numbers.wall))) start can.side;
        order = can.order;
        gap = can.gap;
      };
      start = refl;
      end = refl;
      reaches = omega arith;
      classes = classes;
      small = (omega (arith, small.0, is.reaches), small.1);
      on = subst (λ x. IsOnShelf x items shelf) start on;
    }
