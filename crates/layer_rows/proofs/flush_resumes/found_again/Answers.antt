use Rattle.std.proofs.Common.{arith, sym}
use Rattle.layer_rows.proofs.ListedLaws.{found}
use Rattle.layer_rows.proofs.flush_resumes.found_again.Goals as goal

pub resumed-requires : goal.resumed-requires
resumed-requires g c =
    let h = c.requires in
    let start = found h h.keeps.packing h.keeps.classes h.keeps.small (sym c.numbers.ensures) in
    (omega arith, (omega arith, start))
