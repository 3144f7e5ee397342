use Rattle.std.proofs.Common.{length}
use Rattle.work_maker.specs.Making.{jobs_left}
use Rattle.work_session.specs.Servers.{IsServing, words_of}
use Rattle.work_session.proofs.jobs.do_jobs.Given as goal

abbrev pub invariant-jobs : goal.invariant-jobs
invariant-jobs g l = IsServing (words_of g.S.Server.store g.S.Server.knows g.S.Server.becomes g.row.C)
    l.fn.server
    l.server (jobs_left l.fn.work) (jobs_left l.work) (g.D.Disk.state l.fn.disk) (g.D.Disk.state l.disk)
    l.tally

abbrev pub decreases-jobs : goal.decreases-jobs
decreases-jobs g l = length (jobs_left l.work)
