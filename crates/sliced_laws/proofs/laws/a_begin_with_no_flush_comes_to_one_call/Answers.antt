use Rattle.sliced_laws.proofs.SlicedLaws.{begun_done, begun_failed}
use Rattle.sliced_laws.proofs.laws.a_begin_with_no_flush_comes_to_one_call.Goals as goal

pub returns-clause-done : goal.returns-clause-done
returns-clause-done g k C c old new before now x = begun_done c old new (g.D.Disk.state before)
    (g.D.Disk.state now) x

pub returns-clause-refused : goal.returns-clause-refused
returns-clause-refused g k C c old new before now why x = begun_failed c old new (g.D.Disk.state before)
    (g.D.Disk.state now) why x
