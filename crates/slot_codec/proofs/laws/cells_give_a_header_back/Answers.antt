use Rattle.slot_codec.proofs.CellLaws.{cells_few, cells_give}
use Rattle.slot_codec.proofs.laws.cells_give_a_header_back.Goals as goal

pub returns : goal.returns
returns c = record {
  are = λ h start full. (cells_give h start full).are;
  header = λ h start full. (cells_give h start full).header;
  few = cells_few;
}
