use Rattle.std.proofs.Common.{IsSome, subst}
use Rattle.extent_table.specs.Kept.{kept_in}
use Rattle.extent_table.proofs.EntriesLemmas.{same_entries, some_name}
use Rattle.extent_table.proofs.SeenLemmas.{seen}
use Rattle.extent_table.proofs.entry.mark.Goals as goal

pub hold-requires-clause-here : goal.hold-requires-clause-here
hold-requires-clause-here c = some_name (kept_in c.entries.inside.kept.items c.args.key) _
    (subst (λ e. IsSome e) (seen c.entries.inside c.entries.view_is c.args.key) c.requires)

pub returns-clause-slots : goal.returns-clause-slots
returns-clause-slots c = rw (← c.entries.view_is) (same_entries _ _ _ c.hold.ensures.same)
