use Rattle.std.proofs.Common.{arith, sym, ap, ◌∙◌, subst, ◌≡◌, ◌+◌, ◌-◌, ◌<◌, ◌≤◌, ℕ, List, Some, length, slice_get, slice_set}
use Rattle.std.specs.Prelude.{Contains, slice_index}
use Rattle.size_class.specs.Rows.{cells_of}
use Rattle.size_class.specs.declared.row.Row.{Row}
use Rattle.size_class.proofs.RowLaws.{row_shape}
use Rattle.flush_model.specs.declared.item.Item.{Item}
use Rattle.flush_model.specs.Plans.{class_total}
use Rattle.flush_model.specs.Segments.{AreVolumes}
use Rattle.flush_model.proofs.PlaceLaws.{volumes_all, volumes_fit, volumes_more, volumes_none}
use Rattle.flush_plan.specs.Shelves.{from_place}
use Rattle.flush_plan.proofs.ShelfLaws.{from_at, from_length, got_has}
use Rattle.flush_plan.proofs.volumes.volumes_from.Given.{Over}
use Rattle.flush_plan.proofs.volumes.volumes_from.Goals.{After-volumes-1}
use Rattle.flush_plan.proofs.volumes.volumes_from.Goals as goal

full : {C : ℕ} (row : Row C) → C ≤ 32 → C ≤ length (cells_of row)
full row fits = omega (arith, (row_shape row).full, fits)

-- the object that is read is one of those that are counted, and the next to be added
module _ (g : Over) (c : After-volumes-1 g) where
  abbrev items : List Item
  items = from_place c.args.start (g.S.Shelf.items c.args.shelf.now)

  abbrev m : Item
  m = c.item-item.result

  at : slice_get items (c.ranks.rank - c.rank_from-first.result) ≡ Some m
  at = from_at c.args.start (g.S.Shelf.items c.args.shelf.now) c.rank_from-first.result
      c.rank_from-first.ensures c.ranks.rank m c.ranks.invariant.0 c.item-item.ensures

  has : Contains items m
  has = got_has items (c.ranks.rank - c.rank_from-first.result) m at

  class : m.class < g.row.C
  class = c.requires.classes m has

  sum_fits : slice_index (cells_of c.ranks.volumes) m.class + m.size ≤ class_total items m.class
  sum_fits = volumes_fit g.row.C items (c.ranks.rank - c.rank_from-first.result) (cells_of c.ranks.volumes)
      (full c.ranks.volumes c.requires.fits) c.ranks.invariant.1 m at class

  counted : (old : ℕ) (new : List ℕ) → old ≡ slice_index (cells_of c.ranks.volumes) m.class
      → new ≡ slice_set (cells_of c.ranks.volumes) m.class (old + m.size)
      → AreVolumes g.row.C items (c.ranks.rank + 1 - c.rank_from-first.result) new
  counted old new is_old is_new =
      let rank = c.ranks.rank - c.rank_from-first.result in
      let row = cells_of c.ranks.volumes in
      let next : rank + 1 ≡ c.ranks.rank + 1 - c.rank_from-first.result =
      omega (arith, c.ranks.invariant.0) in
      let same : slice_set row m.class (slice_index row m.class + m.size) ≡ new =
      sym (is_new ∙ ap (λ v. slice_set row m.class (v + m.size)) is_old) in
      subst (AreVolumes g.row.C items (c.ranks.rank + 1 - c.rank_from-first.result)) same
      (subst (λ i. AreVolumes g.row.C items i (slice_set row m.class (slice_index row m.class + m.size))) next
      (volumes_more g.row.C items rank row (full c.ranks.volumes c.requires.fits) c.ranks.invariant.1 m at
      class))

pub ranks-init : goal.ranks-init
ranks-init g c =
    let xs = from_place c.args.start (g.S.Shelf.items c.args.shelf.now) in
    let first = c.rank_from-first.result in
    let none : 0 ≡ first - first = omega arith in (
      omega arith,
      subst (λ i. AreVolumes g.row.C xs i (cells_of c.zero-volumes.result)) none
          (subst (AreVolumes g.row.C xs 0) (sym c.zero-volumes.ensures) (volumes_none g.row.C xs)),
    )

pub get-requires : goal.get-requires
get-requires g c =
    (omega arith, (class g (goal.at.get-requires g c).After-volumes-1, c.requires.fits))

pub overflow_add-more : goal.overflow_add-more
overflow_add-more g c =
    let at = (goal.at.overflow_add-more g c).After-volumes-1 in
    omega (arith, sum_fits g at, c.get.ensures, c.requires.small c.item-item.result (has g at))

pub set-requires : goal.set-requires
set-requires g c =
    (omega arith, (class g (goal.at.set-requires g c).After-volumes-1, c.requires.fits))

pub ranks-preserved : goal.ranks-preserved
ranks-preserved g c = (
  omega (arith, c.ranks.invariant.0),
  counted g (goal.at.ranks-preserved g c).After-volumes-1 c.get.result (cells_of c.set.new.self) c.get.ensures
      c.set.ensures,
)

pub returns : goal.returns
returns g c =
    let xs = g.S.Shelf.items c.args.shelf.now in
    let first = c.rank_from-first.result in
    volumes_all g.row.C (from_place c.args.start xs) (c.ranks.rank - first) (cells_of c.ranks.volumes)
    (full c.ranks.volumes c.requires.fits) c.ranks.invariant.1
    (omega (
      arith,
      c.ranks-test.false,
      c.len-count.ensures,
      from_length c.args.start xs first c.rank_from-first.ensures,
    ))
