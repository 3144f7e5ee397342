use Rattle.store_model.proofs.OpeningLaws.{no_memory}
use Rattle.store_core.proofs.open.open_moving.Goals as goal

pub returns-in_default : goal.returns-in_default
returns-in_default g c = no_memory g.row.C (g.D.Disk.state c.args.disk.now) c.requires.ready

pub returns : goal.returns
returns g c = c.go_on.ensures
