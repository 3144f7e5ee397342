use Rattle.disk_face.specs.Devices.{devices}
use Rattle.costore_top.proofs.CalmLaws.{upgrade_answers}
use Rattle.costore_top.proofs.laws.an_upgrade_has_its_answer.Goals as goal

pub returns : goal.returns
returns g c = λ found file status old new out after holds causes mount there calm sink_calm.
    upgrade_answers file status (devices (g.B.Disk.state old) (g.O.Sink.state out))
    (devices (g.B.Disk.state new) (g.O.Sink.state after)) causes mount there calm sink_calm found holds
