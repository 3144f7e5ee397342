use Rattle.disk_face.proofs.ImageLaws.{image_after_range}
use Rattle.disk_face.proofs.laws.a_write_leaves_what_lies_outside.Goals as goal

pub returns : goal.returns
returns c = image_after_range
