use Rattle.std.proofs.Common.{false, sym}
use Rattle.slot_codec.specs.Reading.{is_logged}
use Rattle.size_class.specs.declared.TheConstants.{CLASSES, SIZE_MAX}
use Rattle.file_commands.proofs.MapLaws.{bytes_counted, names_counted}
use Rattle.file_commands.proofs.laws.told_of_the_map.Goals as goal

pub returns-clause-names : goal.returns-clause-names
returns-clause-names c = λ t file m b opens. sym (names_counted false CLASSES SIZE_MAX t file m b opens)

pub returns-clause-bytes : goal.returns-clause-bytes
returns-clause-bytes c = λ t file m b opens. sym (bytes_counted false CLASSES SIZE_MAX t file m b opens)

pub returns-clause-names_read : goal.returns-clause-names_read
returns-clause-names_read c = λ t file m b reads.
    sym (names_counted (is_logged file) CLASSES SIZE_MAX t file m b reads)

pub returns-clause-bytes_read : goal.returns-clause-bytes_read
returns-clause-bytes_read c = λ t file m b reads.
    sym (bytes_counted (is_logged file) CLASSES SIZE_MAX t file m b reads)
