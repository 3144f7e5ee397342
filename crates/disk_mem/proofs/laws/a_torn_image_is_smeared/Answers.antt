use Rattle.disk_mem.proofs.TearingLaws.{torn_smeared}
use Rattle.disk_mem.proofs.laws.a_torn_image_is_smeared.Goals as goal

pub returns : goal.returns
returns c = torn_smeared
