use Rattle.store_model.specs.Quiet.{put_of}
use Rattle.batch_core.specs.StoresOn.{store_on}
use Rattle.batch_core.proofs.MakeLaws.{change_makes}
use Rattle.batch_core.proofs.make.put_object.Goals as goal

pub returns : goal.returns
returns g c m stands = change_makes (store_on c.args.store.now (g.D.Disk.state c.args.disk.now))
    (store_on c.put-answer.new.self (g.D.Disk.state c.put-answer.new.disk))
    (put_of c.args.name.now c.args.object.now) c.put-answer.result c.done.result c.done.ensures
    c.requires.go c.put-answer.ensures.change c.put-answer.ensures.step c.is_sound.ensures m stands
    c.requires.may
