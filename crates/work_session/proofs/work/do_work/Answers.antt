use Rattle.std.proofs.Common.{arith, ap, sym, subst, length, ◌∙◌}
use Rattle.std.proofs.lemmas.Grind.{common_steps}
use Rattle.std.specs.Prelude.{List, [], ℕ}
use Rattle.map_model.specs.Requests.{Request}
use Rattle.work_maker.specs.Jobs.{jobs}
use Rattle.work_session.specs.Jobs.{HasTally, IsPattern}
use Rattle.work_session.specs.Servers.{IsServing, words_of}
use Rattle.work_session.proofs.WholeLaws.{jobs_long}
use Rattle.work_session.proofs.ServingLaws.{has_served}
use Rattle.work_session.proofs.work.do_work.Goals as goal

pub do_jobs-requires : goal.do_jobs-requires
do_jobs-requires g c = record {
  ready = c.requires.serves.ready;
  over = c.requires.serves.over;
  fresh = c.requires.serves.fresh;
  knows = c.requires.serves.knows;
  pattern = subst IsPattern (sym c.as_slice.ensures.value) c.in-Ok.ensures;
  few = omega (
    arith,
    ap length c.new-work.ensures,
    jobs_long c.args.number c.args.count c.args.names,
    c.requires.counts,
  );
}

pub returns-in-Ok-do_jobs-clause-done : goal.returns-in-Ok-do_jobs-clause-done
returns-in-Ok-do_jobs-clause-done g c =
    let names = (g.S.Server.store c.args.server.now).in_use.block.names in
    has_served g.S.Server.store g.S.Server.knows g.S.Server.becomes c.args.server.now c.do_jobs.new.server
    (jobs c.args.number c.args.count names) (g.D.Disk.state c.args.disk.now)
    (g.D.Disk.state c.do_jobs.new.disk) c.in-Ok-do_jobs.tally c.sum_up.result
    (subst (λ (rs : List Request). IsServing (words_of g.S.Server.store g.S.Server.knows
    g.S.Server.becomes g.row.C)
    c.args.server.now c.do_jobs.new.server rs [] (g.D.Disk.state c.args.disk.now)
    (g.D.Disk.state c.do_jobs.new.disk) c.in-Ok-do_jobs.tally)
    (c.new-work.ensures ∙ ap (jobs c.args.number c.args.count) c.requires.names)
    c.in-Ok-do_jobs.ensures.done)
    (subst (λ (n : ℕ). HasTally c.in-Ok-do_jobs.tally n c.sum_up.result)
    (sym (jobs_long c.args.number c.args.count names)) c.sum_up.ensures.tally)
    c.sum_up.ensures.end c.sum_up.ensures.lines c.sum_up.ensures.zeros

pub returns : goal.returns
returns g c = grind (arith, common_steps)

pub returns-in_default : goal.returns-in_default
returns-in_default g c = grind (arith, common_steps)
