use Rattle.std.proofs.Common.{subst, sym, refl}
use Rattle.cache_rows.specs.Served.{MayGoOn}
use Rattle.cache_rows.proofs.ServedLaws.{over_alike}
use Rattle.cache_rows.proofs.trials.CacheTrial.failing.Goals as goal

pub invariant_of-result : goal.invariant_of-result
invariant_of-result g c =
    let h = subst (λ d. MayGoOn c.self.inside.cached (g.D.Disk.state d))
    (sym c.stop_after.ensures.disk) c.self.invariant in
    over_alike c.self.inside.cached (g.D.Disk.state c.stop_after.result.inner) _ h h.ready refl refl
