use Rattle.std.proofs.Common.{ap, arith, subst, sym, ◌∙◌}
use Rattle.std.specs.Prelude.{◌≡◌, ◌≤◌, ◌+◌, ◌-◌, List, ℕ, drop, take}
use Rattle.store_model.specs.Quiet.{put_of}
use Rattle.map_model.specs.Requests as ask
use Rattle.work_maker.specs.Making.{asked_by}
use Rattle.work_maker.specs.declared.job.Job.{Job}
use Rattle.work_session.specs.Jobs.{IsShort}
use Rattle.work_session.specs.Servers.{ServesJob, words_of}
use Rattle.work_session.proofs.PatternLaws.{part_is}
use Rattle.work_session.proofs.job.do_job.Goals as goal

pub returns-in-Put : goal.returns-in-Put
returns-in-Put g c =
    let short : c.in-Put.size ≤ 8192 = subst IsShort c.in-Put.is c.requires.short in
    let all : c.in-Put.first + c.in-Put.size - c.in-Put.first ≡ c.in-Put.size = omega arith in
    subst (λ (x : Job). ServesJob (words_of g.S.Server.store g.S.Server.knows g.S.Server.becomes g.row.C)
    (asked_by x) c.args.server.now c.put_object.new.self
    (g.D.Disk.state c.args.disk.now) (g.D.Disk.state c.put_object.new.disk) c.put_object.result)
    (sym c.in-Put.is)
    (subst (λ (object : List ℕ). ServesJob (words_of g.S.Server.store g.S.Server.knows g.S.Server.becomes
    g.row.C) (ask.change (put_of c.in-Put.name object))
    c.args.server.now c.put_object.new.self (g.D.Disk.state c.args.disk.now)
    (g.D.Disk.state c.put_object.new.disk) c.put_object.result)
    (ap (λ (n : ℕ). take n (drop c.in-Put.first c.args.pattern.now)) all
    ∙ part_is c.args.pattern.now c.in-Put.first c.in-Put.size c.requires.pattern (omega arith) short)
    (subst (λ (name : List ℕ). ServesJob (words_of g.S.Server.store g.S.Server.knows g.S.Server.becomes
    g.row.C) (ask.change (put_of name (take (c.in-Put.first + c.in-Put.size
    - c.in-Put.first) (drop c.in-Put.first c.args.pattern.now)))) c.args.server.now c.put_object.new.self
    (g.D.Disk.state c.args.disk.now) (g.D.Disk.state c.put_object.new.disk) c.put_object.result)
    c.as_bytes.ensures.value c.put_object.ensures))
