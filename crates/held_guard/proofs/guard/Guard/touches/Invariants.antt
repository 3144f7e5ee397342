use Rattle.held_guard.proofs.guard.Guard.touches.Given as goal

abbrev pub ghosts-has_touched : goal.ghosts-has_touched
ghosts-has_touched a = record { name = a.blank.name; parts = a.blank.parts }
