use Rattle.lent_disk.proofs.WordLaws.{same_history}
use Rattle.lent_disk.proofs.laws.a_word_tells_a_history.Goals as goal

pub returns : goal.returns
returns c = same_history
