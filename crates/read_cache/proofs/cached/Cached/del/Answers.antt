use Rattle.std.specs.Prelude.{Bool, if◌then◌else◌}
use Rattle.std.proofs.Common.{subst, sym}
use Rattle.store_model.specs.Connection.{StoreValue}
use Rattle.store_model.specs.Quiet.{del_of}
use Rattle.read_cache.specs.CacheValues.{CacheValue}
use Rattle.read_cache.specs.Coherence.{IsCoherent}
use Rattle.read_cache.specs.Lists.{Listing, without}
use Rattle.read_cache.proofs.CoherenceLaws.{change_coherent}
use Rattle.read_cache.proofs.cached.Cached.del.Goals as goal

pub returns-clause-coherent : goal.returns-clause-coherent
returns-clause-coherent g c =
    let a = g.D.Disk.state c.args.disk.now in
    let d = g.D.Disk.state c.del-removed.new.disk in
    let old = c.self.inside.recent in
    let s = c.del-removed.new.self in
    let change = del_of c.args.name.now in
    subst (λ (t : StoreValue). IsCoherent t c.forget_changed.new.self.list.pairs d)
    (sym c.forget_changed.ensures.store)
    (subst (λ (l : Listing). IsCoherent s l.pairs d) (sym c.forget_changed.ensures.list)
    (subst (λ (b : Bool). IsCoherent s (if b then without c.args.name.now old else old).pairs d)
    (sym c.is_ok.ensures.value)
    (change_coherent c.self.inside.store s old change a d
    (subst (λ (x : CacheValue). IsCoherent x.store x.list.pairs a) (sym c.self.view_is)
    c.requires.coherent) c.forget_changed.ensures.distinct c.del-removed.result
    c.del-removed.ensures.change c.del-removed.ensures.step)))
