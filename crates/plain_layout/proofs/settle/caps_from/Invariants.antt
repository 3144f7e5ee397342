use Rattle.segment_layout.specs.Books.{volumes_of_sizes}
use Rattle.segment_layout.proofs.SettleLaws.{TakenUpTo}
use Rattle.plain_layout.proofs.settle.caps_from.Given as goal

abbrev pub invariant-classes : goal.invariant-classes
invariant-classes l = TakenUpTo l.b l.c l.initial.caps (volumes_of_sizes l.after) l.caps
