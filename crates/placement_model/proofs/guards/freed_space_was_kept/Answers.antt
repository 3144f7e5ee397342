use Rattle.placement_model.proofs.guards.freed_space_was_kept.Goals as goal

pub returns : goal.returns
returns c spans now kept a freed there = let o = freed.only a there in (o.0, o.1, o.2, o.4)
