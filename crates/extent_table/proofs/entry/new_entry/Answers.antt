use Rattle.std.proofs.Common.{ap, ◌∙◌, arith}
use Rattle.extent_table.specs.Kept.{kept_in}
use Rattle.extent_table.specs.Entries.{Standing, entry_of}
use Rattle.extent_table.proofs.EntriesLemmas.{count_of, entered}
use Rattle.extent_table.proofs.SeenLemmas.{seen}
use Rattle.extent_table.proofs.entry.new_entry.Goals as goal

pub insert_reserved-key-requires : goal.insert_reserved-key-requires
insert_reserved-key-requires c =
    let room = rw (← c.entries.view_is) at c.requires.room in
    omega (arith, room, count_of c.entries.inside.standing.slots c.entries.inside.kept.items)

pub returns-clause-vacant : goal.returns-clause-vacant
returns-clause-vacant c = seen c.entries.inside c.entries.view_is c.insert_reserved-key.result
    ∙ ap (entry_of (kept_in c.entries.inside.kept.items c.insert_reserved-key.result))
    c.insert_reserved-key.ensures.was_vacant

pub returns-clause-edit : goal.returns-clause-edit
returns-clause-edit c =
    let is = c.new.ensures.value in
    rw (← c.entries.view_is, ← ap (λ (s : Standing). s.name) is)
    (entered _ _ _ _ c.insert_reserved-key.result _ c.note.ensures.others
    c.insert_reserved-key.ensures.updates.others
    c.insert_reserved-key.ensures.was_vacant c.insert_reserved-key.ensures.updates.changed
    (ap (λ (s : Standing). s.now) is) c.note.ensures.here)
