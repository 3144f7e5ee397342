use Rattle.held_guard.proofs.guard.Guard.freed.Given as goal

abbrev pub ghosts-place_of : goal.ghosts-place_of
ghosts-place_of a = record { name = a.blank.name; parts = a.blank.parts }
