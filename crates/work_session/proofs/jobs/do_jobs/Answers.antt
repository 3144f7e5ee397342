use Rattle.std.proofs.Common.{refl, sym, subst}
use Rattle.work_maker.specs.Making.{asked_by, jobs_left}
use Rattle.work_session.specs.Servers.{IsServing, words_of}
use Rattle.work_session.specs.declared.tally.Tally.{Tally}
use Rattle.work_session.proofs.PatternLaws.{short_next}
use Rattle.work_session.proofs.ServingLaws.{as_left, serving_more, serving_none, serving_stopped}
use Rattle.work_session.proofs.jobs.do_jobs.Goals as goal

pub jobs-init : goal.jobs-init
jobs-init g c = subst (λ (t : Tally). IsServing
    (words_of g.S.Server.store g.S.Server.knows g.S.Server.becomes g.row.C)
    c.args.server.now c.args.server.now (jobs_left c.args.work.now) (jobs_left c.args.work.now)
    (g.D.Disk.state c.args.disk.now) (g.D.Disk.state c.args.disk.now) t)
    (sym c.none-tally.ensures)
    (serving_none g.S.Server.store g.S.Server.knows g.S.Server.becomes c.args.server.now
    (jobs_left c.args.work.now) (g.D.Disk.state c.args.disk.now) c.requires.fresh c.requires.over
    c.requires.ready c.requires.knows)

pub do_job-requires : goal.do_job-requires
do_job-requires g c =
    let before = c.jobs.invariant.working.ran in
    record {
      ready = before.frame.stays.ready;
      over = before.over;
      whole = before.unbroken;
      sound = before.sound;
      knows = c.jobs.invariant.known;
      pattern = c.requires.pattern;
      short = short_next c.jobs.work c.in-Some.job (jobs_left c.next.new.self) c.in-Some.ensures.next;
    }

pub jobs-preserved : goal.jobs-preserved
jobs-preserved g c = subst (λ (t : Tally). IsServing
    (words_of g.S.Server.store g.S.Server.knows g.S.Server.becomes g.row.C) c.args.server.now
    c.do_job.new.server
    (jobs_left c.args.work.now) (jobs_left c.next.new.self) (g.D.Disk.state c.args.disk.now)
    (g.D.Disk.state c.do_job.new.disk) t)
    (sym c.add.ensures)
    (serving_more g.S.Server.store g.S.Server.knows g.S.Server.becomes c.args.server.now c.jobs.server
    c.do_job.new.server (jobs_left c.args.work.now)
    (jobs_left c.next.new.self) (asked_by c.in-Some.job) (g.D.Disk.state c.args.disk.now)
    (g.D.Disk.state c.jobs.disk) (g.D.Disk.state c.do_job.new.disk) c.jobs.tally
    (as_left g.S.Server.store g.S.Server.knows g.S.Server.becomes c.jobs.invariant c.in-Some.ensures.next)
    c.in-Ok.reply c.in-Ok.ensures c.requires.few)

pub returns-in-Err-clause-stopped : goal.returns-in-Err-clause-stopped
returns-in-Err-clause-stopped g c =
    serving_stopped g.S.Server.store g.S.Server.knows g.S.Server.becomes c.args.server.now c.jobs.server
    c.do_job.new.server (jobs_left c.args.work.now)
    (jobs_left c.next.new.self) (asked_by c.in-Some.job) (g.D.Disk.state c.args.disk.now)
    (g.D.Disk.state c.jobs.disk) (g.D.Disk.state c.do_job.new.disk) c.jobs.tally
    (as_left g.S.Server.store g.S.Server.knows g.S.Server.becomes c.jobs.invariant c.in-Some.ensures.next)
    _ c.in-Err.ensures

pub returns-clause-done : goal.returns-clause-done
returns-clause-done g c =
    as_left g.S.Server.store g.S.Server.knows g.S.Server.becomes c.jobs.invariant
    (c.in_default.ensures.end.0 refl)
