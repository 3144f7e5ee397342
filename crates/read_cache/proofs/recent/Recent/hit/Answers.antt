use Rattle.std.specs.Prelude.{◌≡◌, List, false, is_some}
use Rattle.std.proofs.Common.{ap, ◌∙◌}
use Rattle.std.specs.Map.{lookup}
use Rattle.lru.specs.LruCache.{lru_cache}
use Rattle.read_cache.specs.Lists.{Pair, is_name}
use Rattle.read_cache.proofs.ListLaws.{listing_at, promoted_none}
use Rattle.read_cache.proofs.recent.Recent.hit.Goals as goal

pub returns-then-not-promote-clause-list : goal.returns-then-not-promote-clause-list
returns-then-not-promote-clause-list c =
    let none : is_some (lookup (is_name c.args.name.now) c.self.inside.pairs.entries) ≡ false = cc in
    ap (listing_at c.self.inside.hits c.self.inside.misses c.self.inside.drops)
    (c.promote.ensures.entries ∙ ap (λ (es : List Pair). lru_cache es c.self.inside.pairs.cap)
    (promoted_none (is_name c.args.name.now) c.self.inside.pairs.entries none))
    ∙ c.self.view_is
