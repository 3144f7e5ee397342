use Rattle.std.proofs.Common.{All, subst, sym}
use Rattle.extent_table.specs.Extents.{IsLive}
use Rattle.bench.proofs.table.by_key.one_round.Goals as goal

pub sum_of_kept-kept-requires : goal.sum_of_kept-kept-requires
sum_of_kept-kept-requires c = subst (All (IsLive c.args.table.now)) (sym c.deref.ensures.value)
    c.in_ok-keys.ensures.live
