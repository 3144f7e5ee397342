use Rattle.std.proofs.Common.{ap, sym, ◌∙◌}
use Rattle.extent_table.specs.Kept.{is_change, kept_in}
use Rattle.extent_table.proofs.KeptLemmas.{listed_still}
use Rattle.extent_table.proofs.sides.hold.Goals as goal

pub returns-then-is_change-clause-noted : goal.returns-then-is_change-clause-noted
returns-then-is_change-clause-noted c = listed_still (c.requires.changes.whole c.args.key
    (ap is_change (sym (c.read.ensures ∙ ap (λ k. kept_in k c.args.key) c.deref.ensures.value))
    ∙ sym c.is_change.ensures ∙ c.if-is_change.true))
