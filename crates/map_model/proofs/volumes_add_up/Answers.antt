use Rattle.map_model.proofs.MapLaws.{volume-empty, volume-insert, volume-remove}
use Rattle.map_model.proofs.volumes_add_up.Goals as goal

pub returns : goal.returns
returns c = record {
  empty = volume-empty;
  put = volume-insert;
  remove = volume-remove;
}
