-- The law is proved over plain values.
use Rattle.desk_core.proofs.MadeLaws.{images_made}
use Rattle.desk_core.proofs.laws.a_desk_leaves_what_was_asked_for.Goals as goal

pub returns : goal.returns
returns c = images_made
