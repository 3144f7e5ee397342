use Rattle.map_model.proofs.MapLaws.{largest-empty, largest-insert, largest-remove}
use Rattle.map_model.proofs.the_largest_object_follows.Goals as goal

pub returns : goal.returns
returns c = record {
  empty = largest-empty;
  put = largest-insert;
  remove = largest-remove;
}
