use Rattle.segment_layout.specs.Books.{volumes_of_sizes}
use Rattle.segment_layout.proofs.SettleLaws.{TakenUpTo}
use Rattle.table_rules.specs.Tables.{sizes}
use Rattle.plain_layout.proofs.table.Table.with_volumes.Given as goal

abbrev pub invariant-classes : goal.invariant-classes
invariant-classes l = TakenUpTo l.boundary l.c l.initial.caps (volumes_of_sizes (sizes l.self.records.items))
    l.caps
