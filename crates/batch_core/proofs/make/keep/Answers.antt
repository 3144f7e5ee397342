use Rattle.batch_core.specs.StoresOn.{store_on}
use Rattle.batch_core.proofs.MakeLaws.{keep_makes, keeps_now}
use Rattle.batch_core.proofs.make.keep.Goals as goal

pub returns-clause-makes : goal.returns-clause-makes
returns-clause-makes g c m stands = keep_makes (store_on c.args.store.now (g.D.Disk.state c.args.disk.now))
    (store_on c.keep-answer.new.self (g.D.Disk.state c.keep-answer.new.disk))
    c.keep-answer.result c.done.result c.done.ensures c.requires.go c.requires.may
    c.keep-answer.ensures.answer c.keep-answer.ensures.kept c.keep-answer.ensures.step
    c.keep-answer.ensures.over c.keep-answer.ensures.broken c.is_sound.ensures m stands

pub returns-clause-kept : goal.returns-clause-kept
returns-clause-kept g c = keeps_now (store_on c.args.store.now (g.D.Disk.state c.args.disk.now))
    (store_on c.keep-answer.new.self (g.D.Disk.state c.keep-answer.new.disk))
    c.keep-answer.result c.done.result c.done.ensures c.requires.go c.requires.may
    c.keep-answer.ensures.answer c.keep-answer.ensures.kept c.keep-answer.ensures.step
    c.keep-answer.ensures.over c.keep-answer.ensures.broken c.is_sound.ensures
