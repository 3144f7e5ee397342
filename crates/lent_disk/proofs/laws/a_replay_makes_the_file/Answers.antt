use Rattle.std.proofs.Common.{◌∙◌, ap, sym}
use Rattle.disk_history.specs.Histories.{file_of}
use Rattle.lent_disk.specs.Calls.{replayed}
use Rattle.lent_disk.specs.Notings.{changes}
use Rattle.lent_disk.proofs.LogLaws.{content_of_log}
use Rattle.lent_disk.proofs.SpellingLaws.{one_list}
use Rattle.lent_disk.proofs.laws.a_replay_makes_the_file.Goals as goal

pub returns : goal.returns
returns c = λ start h text calls l spells fits.
    content_of_log start h text l
    ∙ ap (λ x. replayed x (file_of start))
    (one_list (changes l.calls) calls l.fits fits (sym l.spells ∙ spells))
