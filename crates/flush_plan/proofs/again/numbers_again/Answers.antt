use Rattle.std.proofs.Common.{arith, refl, sym, ap, subst, ◌∙◌, ◌≡◌, ◌+◌, ◌<◌, ◌≤◌, ℕ, List}
use Rattle.std.specs.Prelude.{slice_index, Contains, ◌^◌}
use Rattle.size_class.specs.Classes.{width}
use Rattle.size_class.specs.Rows.{cells_of}
use Rattle.size_class.specs.declared.row.Row.{Row}
use Rattle.size_class.proofs.RowLaws.{row_shape}
use Rattle.segment_layout.specs.Shapes.{start_of}
use Rattle.segment_layout.specs.Layouts.{caps_of, divisor_of}
use Rattle.segment_layout.specs.declared.layout.Layout.{Layout}
use Rattle.segment_layout.proofs.LayoutLaws.{layout_shape}
use Rattle.flush_model.specs.declared.item.Item.{Item}
use Rattle.flush_model.specs.Plans.{AreBelow, class_total, segments_length}
use Rattle.flush_model.specs.Resumed.{numbers_again}
use Rattle.flush_model.proofs.ResumedLaws.{end_fits_again, length_again, totals_again}
use Rattle.flush_model.proofs.SortLaws.{laid_length_permuted}
use Rattle.flush_model.proofs.SumLaws.{same_numbers}
use Rattle.flush_plan.specs.Packs.{CanGoOn}
use Rattle.flush_plan.specs.Shelves.{from_place, IsOnShelf}
use Rattle.flush_plan.proofs.ShelfLaws.{among_items, below_on_shelf, class_on_shelf}
use Rattle.flush_plan.proofs.again.numbers_again.Goals as goal

module _ {C : ℕ} (layout : Layout C) (b wall slack : ℕ) (xs : List Item) (fits : C ≤ 32) (low : b < C)
    (h : (items : List Item) × CanGoOn C (divisor_of layout) (caps_of layout)
    (numbers_again (divisor_of layout) (caps_of layout) b wall slack items) items xs) where
  abbrev k : ℕ
  k = divisor_of layout

  abbrev caps : List ℕ
  caps = caps_of layout

  -- what is asked of the pass over the shelf
  module _ (start : ℕ) (place : start ≡ start_of k caps b) where
    on : IsOnShelf start h.0 xs
    on = subst (λ s. IsOnShelf s h.0 xs) (sym place) h.1.on

    below : AreBelow C (from_place start xs)
    below = below_on_shelf start h.0 xs on C h.1.classes

    small : (it : Item) → Contains (from_place start xs) it
        → class_total (from_place start xs) it.class < 2 ^ 64
    small it has = omega (
      arith,
      class_on_shelf start h.0 xs on it.class,
      totals_again C k caps b wall slack h.0 fits low h.1.objects h.1.resumes h.1.classes h.1.small it
          (among_items start h.0 xs on it has),
    )

    -- and what it gives
    module _ (row : Row C)
        (so : (c : ℕ) → c < C → slice_index (cells_of row) c ≡ class_total (from_place start xs) c) where
      totals : (c : ℕ) → c < C → slice_index (cells_of row) c ≡ class_total h.0 c
      totals c less = so c less ∙ class_on_shelf start h.0 xs on c

      end_fits : start + segments_length k (slice_index (cells_of row)) b width < 2 ^ 64
      end_fits = omega (
        arith,
        place,
        end_fits_again C k caps b wall slack h.0 fits low h.1.objects h.1.resumes h.1.classes h.1.small
            (cells_of row) (row_shape row) totals,
      )

      -- for the items in whatever order they are told
      end_is : (items : List Item) → IsOnShelf (start_of k caps b) items xs
          → start + segments_length k (slice_index (cells_of row)) b width
          ≡ (numbers_again k caps b wall slack items).end
      end_is items there = omega (
        arith,
        place,
        length_again C k caps b wall slack h.0 fits low h.1.objects h.1.resumes h.1.classes h.1.small
            (cells_of row) (row_shape row) totals,
        laid_length_permuted h.0 (from_place (start_of k caps b) xs) h.1.on.same k b width,
        laid_length_permuted items (from_place (start_of k caps b) xs) there.same k b width,
      )

pub volumes_from-volumes-requires : goal.volumes_from-volumes-requires
volumes_from-volumes-requires g c =
    let r = c.requires in
    let layout = c.args.layout.now in
    let xs = g.S.Shelf.items c.args.shelf.now in
    let start = c.start-start.result in
    let place = c.start-start.ensures.place in (
      omega arith,
      (
        r.fits,
        (
          r.goes_on.1.on.rises,
          (
            below layout c.args.b c.args.wall c.args.slack xs r.fits r.boundary r.goes_on start place,
            small layout c.args.b c.args.wall c.args.slack xs r.fits r.boundary r.goes_on start place,
          ),
        ),
      ),
    )

pub places_of-end-requires : goal.places_of-end-requires
places_of-end-requires g c =
    let r = c.requires in
    let layout = c.args.layout.now in
    let row = c.volumes_from-volumes.result in (
      omega arith,
      (
        r.fits,
        (
          omega (arith, r.boundary),
          (
            omega (arith, (layout_shape layout).k_low, c.k.ensures),
            omega (
              arith,
              end_fits layout c.args.b c.args.wall c.args.slack (g.S.Shelf.items c.args.shelf.now) r.fits
                  r.boundary r.goes_on c.start-start.result c.start-start.ensures.place row
                  c.volumes_from-volumes.ensures,
              ap (λ x. segments_length x (slice_index (cells_of row)) c.args.b width) c.k.ensures,
            ),
          ),
        ),
      ),
    )

pub returns : goal.returns
returns g c = λ items there.
    let r = c.requires in
    let layout = c.args.layout.now in
    let row = c.volumes_from-volumes.result in
    let end : c.places_of-end.result.1 ≡ (numbers_again (divisor_of layout) (caps_of layout) c.args.b
    c.args.wall c.args.slack items).end = omega (
      arith,
      c.places_of-end.ensures.end,
      end_is layout c.args.b c.args.wall c.args.slack (g.S.Shelf.items c.args.shelf.now) r.fits r.boundary
          r.goes_on c.start-start.result c.start-start.ensures.place row c.volumes_from-volumes.ensures items
          there,
      ap (λ x. segments_length x (slice_index (cells_of row)) c.args.b width) c.k.ensures,
    ) in
    same_numbers _
    (numbers_again (divisor_of layout) (caps_of layout) c.args.b c.args.wall c.args.slack items)
    refl c.start-start.ensures.place refl refl refl end
