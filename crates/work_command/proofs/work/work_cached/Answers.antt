use Rattle.std.proofs.Common.{◌≡◌, ◌++◌, ◌∙◌, Err, Some, ap, refl, subst, sym}
use Rattle.size_class.specs.declared.TheConstants.{CLASSES}
use Rattle.store_model.specs.Connection.{IsConnected, StoreValue}
use Rattle.store_model.specs.Opened.{IsFresh}
use Rattle.read_cache.specs.Coherence.{IsCoherent}
use Rattle.read_cache.specs.Lists.{Listing}
use Rattle.work_session.specs.declared.work.WorkFault.TheVariants as fault
use Rattle.work_command.specs.Asked.{jobs_numbered}
use Rattle.work_command.specs.Summaries.{cache_lines, summary_text}
use Rattle.work_command.proofs.CachedLaws.{cached_all, cached_stop}
use Rattle.work_command.proofs.StepsLemmas.{steps_nothing}
use Rattle.work_command.proofs.work.work_cached.Goals as goal

pub do_work-requires : goal.do_work-requires
do_work-requires g c =
    let d = g.D.Disk.state c.args.disk.now in
    let cached = c.in-Ok.cached in
    let same = sym c.in-Ok.ensures.store in
    record {
      serves = record {
        ready = c.requires.ready;
        over = subst (λ (x : StoreValue). IsConnected CLASSES x d) same c.requires.over;
        fresh = subst (λ (x : StoreValue). IsFresh CLASSES x) same c.requires.fresh;
        knows = subst (λ (l : Listing). IsCoherent cached.store l.pairs d) (sym c.in-Ok.ensures.list)
            (λ whole. tt);
      };
      names = c.names-names.ensures ∙ ap (λ (x : StoreValue). x.in_use.block.names) same;
      counts = (c.requires.least, c.requires.most);
    }

pub returns-in_default : goal.returns-in_default
returns-in_default g c = λ first opening.
    steps_nothing g.D.Disk.state (jobs_numbered c.args.number c.args.count (Some c.args.entries)) first
    c.args.disk.now c.args.disk.now (g.O.Sink.state c.args.output.now) (g.O.Sink.state c.args.output.now)
    c.args.store opening refl refl

pub returns-in-Err-Disk : goal.returns-in-Err-Disk
returns-in-Err-Disk g c = λ first opening.
    let why : c.do_work.result ≡ Err fault.Disk = cc in
    cached_stop g.D.Disk.state c.args.number c.args.count c.args.entries first c.args.disk.now
    c.do_work.new.disk (g.O.Sink.state c.args.output.now) (g.O.Sink.state c.args.output.now) c.args.store
    c.in-Ok.cached c.in-Ok.ensures.store opening (c.do_work.ensures.stopped why) refl

pub returns-in-Err-NoMemory : goal.returns-in-Err-NoMemory
returns-in-Err-NoMemory g c = λ first opening.
    let why : c.do_work.result ≡ Err fault.NoMemory = cc in
    steps_nothing g.D.Disk.state (jobs_numbered c.args.number c.args.count (Some c.args.entries)) first
    c.args.disk.now c.do_work.new.disk (g.O.Sink.state c.args.output.now)
    (g.O.Sink.state c.args.output.now) c.args.store opening
    (ap g.D.Disk.state (c.do_work.ensures.memory why)) refl

pub returns : goal.returns
returns g c = λ first opening.
    let text : c.as_slice.result.now
    ≡ summary_text c.in-Ok-do_work.summary ++ cache_lines c.do_work.new.server.list = cc in
    cached_all g.D.Disk.state c.args.number c.args.count c.args.entries first c.args.disk.now
    c.do_work.new.disk (g.O.Sink.state c.args.output.now) (g.O.Sink.state c.put_whole.new.output)
    c.args.store c.in-Ok.cached c.in-Ok.ensures.store opening c.do_work.new.server
    c.in-Ok-do_work.summary c.as_slice.result.now c.put_whole.result c.in-Ok.ensures.list
    c.in-Ok-do_work.ensures.done text c.put_whole.ensures.put c.put_whole.ensures.only
    c.put_whole.ensures.told c.put_whole.ensures.cause
