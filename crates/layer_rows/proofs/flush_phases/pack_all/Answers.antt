use Rattle.std.proofs.Common.{arith}
use Rattle.layer_rows.proofs.ListedLaws.{handed_on, packs_on}
use Rattle.layer_rows.proofs.flush_phases.pack_all.Goals as goal

pub at_end-requires : goal.at_end-requires
at_end-requires g c = (omega arith, (c.in_ok-packing.ensures.items, packs_on c.in_ok-packing.ensures))

pub into_laying-requires : goal.into_laying-requires
into_laying-requires g c =
    let h = c.in_ok-packing.ensures in
    let whole = (c.at_end.ensures h.items (packs_on h)).0 c.if-not-at_end.false in
    (omega arith, (omega arith, (h.items, packs_on h, whole)))

pub returns : goal.returns
returns g c =
    let h = c.in_ok-packing.ensures in
    let whole = (c.at_end.ensures h.items (packs_on h)).0 c.if-not-at_end.false in
    handed_on h c.into_laying.ensures.course (c.into_laying.ensures.keeps h.items (packs_on h) whole)
