use Rattle.std.proofs.Common.{IsSome, get_or, None, refl, subst, inl}
use Rattle.extent_table.specs.Kept.{kept_in}
use Rattle.extent_table.proofs.EntriesLemmas.{some_name, some_from, written}
use Rattle.extent_table.proofs.SeenLemmas.{seen}
use Rattle.extent_table.proofs.entry.put_spot.Goals as goal
use Rattle.extent_table.proofs.entry.put_spot.Goals.{After-entries}

-- the name is there
here : (c : After-entries) → IsSome (get_or c.entries.inside.standing.slots c.args.key None)
here c = some_name (kept_in c.entries.inside.kept.items c.args.key) _
    (subst (λ e. IsSome e) (seen c.entries.inside c.entries.view_is c.args.key) c.requires)

pub hold-requires-clause-here : goal.hold-requires-clause-here
hold-requires-clause-here c = here (goal.at.hold-requires-clause-here c).After-entries

pub write_now-requires : goal.write_now-requires
write_now-requires c = here (goal.at.write_now-requires c).After-entries

pub returns-clause-edit : goal.returns-clause-edit
returns-clause-edit c =
    let s = some_from (get_or c.entries.inside.standing.slots c.args.key None)
    (here (goal.at.returns-clause-edit c).After-entries) in
    let updates = rw s.1 at c.write_now.ensures.updates in
    rw (← c.entries.view_is)
    (written _ _ _ _ c.args.key c.hold.ensures.same updates.others s.0 _ s.1 updates.changed
    c.hold.ensures.change (inl refl))
