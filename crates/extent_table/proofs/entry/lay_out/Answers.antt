use Rattle.std.proofs.Common.{IsSome, get_or, subst}
use Rattle.extent_table.specs.Kept.{kept_in}
use Rattle.extent_table.proofs.EntriesLemmas.{some_name}
use Rattle.extent_table.proofs.RelaidLemmas.{relaid_entries}
use Rattle.extent_table.proofs.SeenLemmas.{seen}
use Rattle.extent_table.proofs.entry.lay_out.Goals as goal

pub copy_each-requires-clause-there : goal.copy_each-requires-clause-there
copy_each-requires-clause-there c = λ i lt.
    let k = get_or c.args.from.now i 0 in
    some_name (kept_in c.entries.inside.kept.items k) _
    (subst (λ e. IsSome e) (seen c.entries.inside c.entries.view_is k) (c.requires.there i lt))

pub returns-clause-relaid : goal.returns-clause-relaid
returns-clause-relaid c =
    rw (c.clear-3.ensures.items, c.swap.ensures.x_after, ← c.entries.view_is)
    (relaid_entries c.entries.inside.kept.items c.copy_each.ensures.relaid
    (rw (← c.entries.view_is) at c.requires.kept))
