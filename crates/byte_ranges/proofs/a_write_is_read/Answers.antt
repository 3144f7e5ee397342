use Rattle.byte_ranges.proofs.RangeLaws.{bytes_at-overwritten, overwritten-outside}
use Rattle.byte_ranges.proofs.a_write_is_read.Goals as goal

pub returns-clause-read : goal.returns-clause-read
returns-clause-read c = bytes_at-overwritten

pub returns-clause-outside : goal.returns-clause-outside
returns-clause-outside c = overwritten-outside
