use Rattle.work_command.proofs.StepsLaws.{jobs_done}
use Rattle.work_command.proofs.laws.jobs_are_done.Goals as goal

pub returns : goal.returns
returns g c = λ t m b file asked status old new out after opens works so mount there calm
    sink_calm.
    jobs_done file status (g.B.Disk.state old) (g.B.Disk.state new) (g.O.Sink.state out)
    (g.O.Sink.state after) (works t m b opens).far.known so.keeps mount there calm sink_calm
