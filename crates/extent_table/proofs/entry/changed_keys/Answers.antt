use Rattle.std.proofs.Common.{ap, ◌∙◌}
use Rattle.extent_table.specs.Entries.{Shelf}
use Rattle.extent_table.proofs.EntriesLemmas.{unlisted_kept}
use Rattle.extent_table.proofs.entry.changed_keys.Goals as goal

pub returns-clause-others : goal.returns-clause-others
returns-clause-others c = rw (← c.entries.view_is) (λ k none. unlisted_kept c.entries.inside.standing.slots
    c.entries.invariant.changes k none)

pub returns-clause-value : goal.returns-clause-value
returns-clause-value c = c.deref.ensures.value ∙ ap (λ (s : Shelf). s.changed) c.entries.view_is
