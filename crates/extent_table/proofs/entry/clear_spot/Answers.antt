use Rattle.std.proofs.Common.{◌≡◌, IsSome, get_or, None, refl, ap, sym, subst, ◌∙◌, inr}
use Rattle.extent_table.specs.declared.kept.Kept.TheVariants.{Old}
use Rattle.extent_table.specs.Kept.{kept_in}
use Rattle.extent_table.proofs.EntriesLemmas.{some_name, some_from, written, taken, new_of}
use Rattle.extent_table.proofs.SeenLemmas.{seen}
use Rattle.extent_table.proofs.entry.clear_spot.Goals as goal
use Rattle.extent_table.proofs.entry.clear_spot.Goals.{After-entries}

-- the name is there
here : (c : After-entries) → IsSome (get_or c.entries.inside.standing.slots c.args.key None)
here c = some_name (kept_in c.entries.inside.kept.items c.args.key) _
    (subst (λ e. IsSome e) (seen c.entries.inside c.entries.view_is c.args.key) c.requires)

pub hold-requires-clause-here : goal.hold-requires-clause-here
hold-requires-clause-here c = here (goal.at.hold-requires-clause-here c).After-entries

pub write_now-requires : goal.write_now-requires
write_now-requires c = here (goal.at.write_now-requires c).After-entries

pub remove-requires : goal.remove-requires
remove-requires c = here (goal.at.remove-requires c).After-entries

pub returns-in-Old-clause-edit : goal.returns-in-Old-clause-edit
returns-in-Old-clause-edit c =
    let s = some_from (get_or c.entries.inside.standing.slots c.args.key None)
    (here (goal.at.returns-in-Old-clause-edit c).After-entries) in
    let updates = rw s.1 at c.write_now.ensures.updates in
    let record_is : kept_in c.hold.new.kept.items c.args.key ≡ Old c.in-Old.field-0 =
    sym (c.read.ensures ∙ ap (λ k. kept_in k c.args.key) c.deref.ensures.value) ∙ c.in-Old.is in
    rw (← c.entries.view_is)
    (written _ _ _ _ c.args.key c.hold.ensures.same updates.others s.0 _ s.1 updates.changed
    c.hold.ensures.change (inr (rw record_is refl)))

pub returns-in_default-clause-edit : goal.returns-in_default-clause-edit
returns-in_default-clause-edit c =
    let record_is : c.read.result ≡ kept_in c.hold.new.kept.items c.args.key =
    c.read.ensures ∙ ap (λ k. kept_in k c.args.key) c.deref.ensures.value in
    rw (← c.entries.view_is)
    (taken _ _ _ _ c.args.key c.hold.ensures.same c.remove.ensures.updates.others
    c.remove.ensures.updates.changed
    (new_of _ c.hold.ensures.change (λ s is. c.in_default.not-Old s (record_is ∙ is))))
