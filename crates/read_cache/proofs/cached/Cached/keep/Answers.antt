use Rattle.std.proofs.Common.{subst, sym}
use Rattle.read_cache.specs.CacheValues.{CacheValue}
use Rattle.read_cache.specs.Coherence.{IsCoherent}
use Rattle.read_cache.proofs.CoherenceLaws.{keep_coherent}
use Rattle.read_cache.proofs.cached.Cached.keep.Goals as goal

pub returns-clause-coherent : goal.returns-clause-coherent
returns-clause-coherent g c =
    let a = g.D.Disk.state c.args.disk.now in
    keep_coherent c.self.inside.store c.keep.new.self c.self.inside.recent.pairs a
    (g.D.Disk.state c.keep.new.disk)
    (subst (λ (x : CacheValue). IsCoherent x.store x.list.pairs a) (sym c.self.view_is)
    c.requires.coherent) c.keep.result c.keep.ensures.answer c.keep.ensures.refused c.keep.ensures.kept
    c.keep.ensures.step c.keep.ensures.broken
