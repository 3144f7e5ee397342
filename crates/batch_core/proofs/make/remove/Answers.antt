use Rattle.store_model.specs.Quiet.{del_of}
use Rattle.batch_core.specs.StoresOn.{store_on}
use Rattle.batch_core.proofs.MakeLaws.{change_makes}
use Rattle.batch_core.proofs.make.remove.Goals as goal

pub returns : goal.returns
returns g c m stands = change_makes (store_on c.args.store.now (g.D.Disk.state c.args.disk.now))
    (store_on c.del-answer.new.self (g.D.Disk.state c.del-answer.new.disk))
    (del_of c.args.name.now) c.del-answer.result c.done.result c.done.ensures
    c.requires.go c.del-answer.ensures.change c.del-answer.ensures.step c.is_sound.ensures m stands
    c.requires.may
