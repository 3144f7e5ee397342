use Rattle.placement_model.proofs.ReadLaws.{get-read_at, read_at-insert, read_at-remove, read_at-moved, read_at-written}
use Rattle.placement_model.proofs.reads.reads_follow_the_spots.Goals as goal

pub returns : goal.returns
returns c = record {
  get = get-read_at;
  put = read_at-insert;
  remove = read_at-remove;
  moved = read_at-moved;
  written = read_at-written;
}
