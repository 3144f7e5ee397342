use Rattle.std.proofs.Common.{◌≡◌, [], ◌∷◌, ◌++◌, All, subst, sym, rules}
use Rattle.std.proofs.lemmas.List.Elements.{All-push}
use Rattle.extent_table.specs.Extents.{IsLive}
use Rattle.bench.proofs.table.by_key.live_keys.Goals as goal

pub ranks-preserved : goal.ranks-preserved
ranks-preserved c =
    let added : c.push.new.self.items ≡ c.ranks.keys.items ++ c.in_order-entry.result.0 ∷ [] = search rules in
    subst (All (IsLive c.args.table.now)) (sym added)
    (All-push (IsLive c.args.table.now) c.ranks.keys.items c.in_order-entry.result.0 c.ranks.invariant
    (c.in_order-entry.result.1, c.in_order-entry.ensures.key))
