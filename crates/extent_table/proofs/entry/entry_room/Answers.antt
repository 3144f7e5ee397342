use Rattle.std.proofs.Common.{IsSome, ap, subst, ◌∙◌, arith}
use Rattle.extent_table.specs.Kept.{kept_in}
use Rattle.extent_table.specs.Entries.{Shelf}
use Rattle.extent_table.proofs.EntriesLemmas.{below, some_name}
use Rattle.extent_table.proofs.SeenLemmas.{seen}
use Rattle.extent_table.proofs.entry.entry_room.Goals as goal

pub returns-clause-value : goal.returns-clause-value
returns-clause-value c = c.capacity.ensures.value ∙ ap (λ (s : Shelf). s.capacity) c.entries.view_is

pub returns-clause-keys : goal.returns-clause-keys
returns-clause-keys c = λ key there.
    let stands = some_name (kept_in c.entries.inside.kept.items key) _
    (subst (λ e. IsSome e) (seen c.entries.inside c.entries.view_is key) there) in
    omega (arith, below c.entries.inside.standing.slots key stands, c.capacity.ensures.slots)
