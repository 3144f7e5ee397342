use Rattle.disk_history.specs.Lawful.{present_is_image}
use Rattle.disk_history.proofs.laws.what_reads_give_is_an_image.Goals as goal

pub returns : goal.returns
returns c = λ h. present_is_image h.base h.calls
