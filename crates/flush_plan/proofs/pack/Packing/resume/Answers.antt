use Rattle.std.proofs.Common.{sym, subst}
use Rattle.segment_layout.specs.Layouts.{caps_of, divisor_of}
use Rattle.segment_layout.proofs.LayoutLaws.{layout_shape}
use Rattle.flush_plan.specs.Packs.{KeepsPacking}
use Rattle.flush_plan.specs.Shelves.{course_of}
use Rattle.flush_plan.proofs.PackGoesLaws.{pack_at, pack_from}
use Rattle.flush_plan.proofs.pack.Packing.resume.Goals as goal

pub returns-clause-keeps : goal.returns-clause-keeps
returns-clause-keeps g c = λ items can.
    let layout = c.args.layout.now in
    let n = c.args.numbers in
    let top = c.packed_down-top.result.0 in
    subst (λ xs. KeepsPacking g.row.C (pack_at (course_of c.k.result xs n 0) top) items) (sym c.caps.ensures)
    (subst (λ x. KeepsPacking g.row.C (pack_at (course_of x (caps_of layout) n 0) top) items)
    (sym c.k.ensures)
    (pack_from g.row.C (divisor_of layout) (caps_of layout) n items (g.S.Shelf.items c.args.shelf.now) can
    c.requires.fits c.requires.boundary (layout_shape layout).k_low top
    (c.packed_down-top.ensures.packed items can) (c.packed_down-top.ensures.loose items can)))
