use Rattle.std.specs.Prelude.{[], Err}
use Rattle.std.proofs.Common.{ap, subst, sym, ◌∙◌}
use Rattle.std.specs.FinMap as fin
use Rattle.disk_face.specs.Devices.{devices}
use Rattle.map_model.specs.Requests as ask
use Rattle.store_model.specs.Answers.{size_at}
use Rattle.store_model.specs.Readings.{IsRead}
use Rattle.store_model.specs.Stores.{IsStore}
use Rattle.store_model.proofs.HalfLaws.{standing_of}
use Rattle.read_cache.specs.CacheValues.{CacheValue}
use Rattle.read_cache.specs.Coherence.{IsCoherent}
use Rattle.read_cache.proofs.CoherenceLaws.{get_coherent}
use Rattle.read_cache.proofs.GetLaws.{read_none}
use Rattle.read_cache.proofs.cached.Cached.get.Goals as goal

pub returns-in-Some-clause-coherent : goal.returns-in-Some-clause-coherent
returns-in-Some-clause-coherent g c =
    let a = g.D.Disk.state c.args.disk.now in
    get_coherent c.self.inside.store c.get_there.new.store c.self.inside.recent c.get_there.new.recent
    c.in-Some.key a (g.D.Disk.state c.get_there.new.disk) (g.O.Sink.state c.args.sink.now)
    (g.O.Sink.state c.get_there.new.sink) c.get_there.result
    (subst (λ (x : CacheValue). IsCoherent x.store x.list.pairs a) (sym c.self.view_is)
    c.requires.coherent) c.get_there.ensures.read c.get_there.ensures.list

pub returns-in-Err-clause-read : goal.returns-in-Err-clause-read
returns-in-Err-clause-read g c =
    let a = g.D.Disk.state c.args.disk.now in
    let out = g.O.Sink.state c.args.sink.now in
    subst (λ (x : CacheValue). IsRead (ask.get c.args.name.now) [] x.store x.store (devices a out)
    (devices a out) (Err c.in-Err.refusal)) c.self.view_is
    (read_none c.self.inside.store c.args.name.now a out
    (size_at (fin.get c.self.inside.store.now c.args.name.now)) c.in-Err.refusal c.in-Err.ensures
    (λ whole. standing_of c.self.inside.store
    (subst (λ (x : CacheValue). IsStore g.row.C x.store) (sym c.self.view_is)
    (c.is_broken.ensures.sound (c.is_broken.ensures.same
    ∙ ap (λ (x : CacheValue). x.store.is_broken) (sym c.self.view_is) ∙ whole)))) c.requires.ready)
