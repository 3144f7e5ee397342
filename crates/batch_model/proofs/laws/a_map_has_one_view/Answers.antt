-- The laws are proved over plain values.
use Rattle.batch_model.proofs.TextLaws.{batch_one}
use Rattle.batch_model.proofs.ViewLaws.{view_one}
use Rattle.batch_model.proofs.laws.a_map_has_one_view.Goals as goal

pub returns-clause-batch : goal.returns-clause-batch
returns-clause-batch c = batch_one

pub returns-clause-view : goal.returns-clause-view
returns-clause-view c = view_one
