use Rattle.std.proofs.Common.{refl}
use Rattle.size_class.specs.declared.TheConstants.{CLASSES, SIZE_MAX}
use Rattle.file_commands.proofs.DumpableLaws.{can_dump, names_fit}
use Rattle.file_commands.proofs.laws.a_map_of_a_file_has_a_dump.Goals as goal

pub returns-clause-dump : goal.returns-clause-dump
returns-clause-dump c = λ file m b o. record {
  can = can_dump CLASSES SIZE_MAX o.table file m b o.opens;
  same = refl;
}

pub returns-clause-few : goal.returns-clause-few
returns-clause-few c = names_fit CLASSES SIZE_MAX
