use Rattle.logged_pair.proofs.TableLaws.{records_are, table_is}
use Rattle.logged_pair.proofs.laws.the_table_is_that_of_the_file.Goals as goal

pub returns-clause-table : goal.returns-clause-table
returns-clause-table c = table_is

pub returns-clause-records : goal.returns-clause-records
returns-clause-records c = records_are
