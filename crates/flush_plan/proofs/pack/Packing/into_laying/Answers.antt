use Rattle.std.proofs.Common.{arith, sym, subst}
use Rattle.size_class.proofs.RowLaws.{row_shape}
use Rattle.size_class.specs.Rows.{cells_of}
use Rattle.flush_model.specs.Phases.{IsPackedWhole}
use Rattle.flush_plan.specs.Shelves.{phase_on}
use Rattle.flush_plan.specs.Packs.{Pack, Packs}
use Rattle.flush_plan.proofs.LayRowLaws.{begins_by_rows, places_fit, shelf_below, shelf_totals}
use Rattle.flush_plan.proofs.pack.Packing.into_laying.Goals as goal

pub volumes_from-volumes-requires : goal.volumes_from-volumes-requires
volumes_from-volumes-requires g c =
    let C = g.row.C in
    let items = c.requires.end.0 in
    let shelf = g.S.Shelf.items c.args.shelf.now in
    let mine = subst (λ (v : Pack). Packs C v items shelf) (sym c.self.view_is) c.requires.end.1 in (
      omega arith,
      (
        mine.keeps.fits,
        (mine.on.rises, (shelf_below C _ items shelf mine, shelf_totals C _ items shelf mine)),
      ),
    )

pub places_of-requires : goal.places_of-requires
places_of-requires g c =
    let C = g.row.C in
    let items = c.requires.end.0 in
    let shelf = g.S.Shelf.items c.args.shelf.now in
    let volumes = c.volumes_from-volumes.result in
    let mine = subst (λ (v : Pack). Packs C v items shelf) (sym c.self.view_is) c.requires.end.1 in (
      omega arith,
      (
        mine.keeps.fits,
        (
          mine.keeps.boundary,
          (
            mine.keeps.divisor,
            places_fit C _ items shelf mine
                (cells_of volumes) c.volumes_from-volumes.ensures (row_shape volumes),
          ),
        ),
      ),
    )

pub returns-clause-keeps : goal.returns-clause-keeps
returns-clause-keeps g c = λ items packs whole.
    let C = g.row.C in
    let shelf = g.S.Shelf.items c.args.shelf.now in
    let volumes = c.volumes_from-volumes in
    let mine = subst (λ (v : Pack). Packs C v items shelf) (sym c.self.view_is) packs in
    let packed = subst (λ (v : Pack). IsPackedWhole (phase_on v.course items)) (sym c.self.view_is) whole in
    begins_by_rows C _ items shelf mine (cells_of volumes.result) volumes.ensures packed
    (cells_of c.places_of.result.0) c.places_of.ensures.places c.next_segment-class.result.0
    c.next_segment-class.ensures.class c.next_segment-class.result.1 c.next_segment-class.ensures.place
