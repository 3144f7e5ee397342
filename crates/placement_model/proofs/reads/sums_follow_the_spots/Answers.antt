use Rattle.placement_model.proofs.SpotSumLaws.{records_sum-insert, records_sum-remove, volume_of-weights}
use Rattle.placement_model.proofs.reads.sums_follow_the_spots.Goals as goal

pub returns : goal.returns
returns c = record {
  put = records_sum-insert;
  remove = records_sum-remove;
  volume = volume_of-weights;
}
