use Rattle.table_rules.proofs.ReadingLaws.{plain_reads, plain_reads_by}
use Rattle.table_rules.proofs.laws.a_file_that_opens_is_read.Goals as goal

pub returns-clause-by : goal.returns-clause-by
returns-clause-by c = plain_reads_by

pub returns-clause-read : goal.returns-clause-read
returns-clause-read c = plain_reads
