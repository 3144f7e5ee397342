use Rattle.disk_face.proofs.ImageLaws.{image_after_length}
use Rattle.disk_face.proofs.laws.a_length_leaves_what_lies_below.Goals as goal

pub returns : goal.returns
returns c = image_after_length
