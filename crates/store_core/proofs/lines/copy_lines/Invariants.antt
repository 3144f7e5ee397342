use Rattle.std.specs.Prelude.{length}
use Rattle.store_model.proofs.LineLaws.{IsCopied}
use Rattle.store_core.proofs.lines.copy_lines.Given as goal

abbrev pub invariant-names : goal.invariant-names
invariant-names l = IsCopied l.out (length l.fn.out) l.end l.table.now l.n
