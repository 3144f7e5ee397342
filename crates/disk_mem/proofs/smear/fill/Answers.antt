use Rattle.std.proofs.Common.{◌∙◌, arith}
use Rattle.disk_mem.proofs.Filling.{filled_is}
use Rattle.disk_mem.proofs.smear.fill.Goals as goal

pub returns : goal.returns
returns c =
    c.fill_within.ensures ∙ filled_is c.args.byte c.args.pos c.args.n c.min-start.result c.min-stop.result
    c.args.file.now c.min-start.ensures (omega (arith, c.min-stop.ensures, c.saturating_add.ensures))
