use Rattle.store_costs.proofs.ChangeLaws.{nothing_pays}
use Rattle.store_costs.proofs.OtherLaws.{back_has_less, back_pays, keep_moves_nothing, refused_moves_nothing}
use Rattle.store_costs.proofs.laws.other_calls_move_nothing.Goals as goal

pub returns-clause-keep : goal.returns-clause-keep
returns-clause-keep g c C old new before now result call =
    keep_moves_nothing old new (g.D.Disk.state before) (g.D.Disk.state now) result call

pub returns-clause-refused : goal.returns-clause-refused
returns-clause-refused g c C change old new before now result call refused =
    refused_moves_nothing change old new (g.D.Disk.state before) (g.D.Disk.state now) result call refused

pub returns-clause-nothing : goal.returns-clause-nothing
returns-clause-nothing g c = nothing_pays

pub returns-clause-less : goal.returns-clause-less
returns-clause-less g c C cost s h = back_has_less s cost h

pub returns-clause-back : goal.returns-clause-back
returns-clause-back g c C cost s h = back_pays s cost h
