use Rattle.reopen.proofs.ItemLaws.{TakenThrough}
use Rattle.reopen.proofs.items.take_items.Given as goal

abbrev pub invariant-items : goal.invariant-items
invariant-items l = TakenThrough l.items l.cap l.text l.i l.initial.progress l.progress l.initial.header
    l.header
    l.initial.load l.load
