use Rattle.std.proofs.Common.{◌≡◌, IsSome, ap, sym, subst, ◌∙◌}
use Rattle.extent_table.specs.Kept.{kept_in}
use Rattle.extent_table.specs.Entries.{entry_of}
use Rattle.extent_table.specs.Parts.{at, now_of}
use Rattle.extent_table.proofs.EntriesLemmas.{now_name, read_some, some_read_of}
use Rattle.extent_table.proofs.SeenLemmas.{seen}
use Rattle.extent_table.proofs.entry.spot_at.Goals as goal
use Rattle.extent_table.proofs.entry.spot_at.Goals.{After-unwrap}

pub unwrap-requires : goal.unwrap-requires
unwrap-requires c =
    some_read_of c.get.result (subst (λ o. IsSome o) (sym c.get.ensures)
    (now_name (kept_in c.entries.inside.kept.items c.args.key) _
    (subst (λ e. IsSome (now_of e)) (seen c.entries.inside c.entries.view_is c.args.key) c.requires)))

here : (c : After-unwrap) → now_of (at c.args.entries.now.slots c.args.key) ≡ c.unwrap.result.now.now
here c = ap now_of (seen c.entries.inside c.entries.view_is c.args.key
    ∙ ap (entry_of (kept_in c.entries.inside.kept.items c.args.key))
    (read_some c.get.ensures c.unwrap.ensures))

pub spot-requires : goal.spot-requires
spot-requires c = subst (λ o. IsSome o) (here (goal.at.spot-requires c).After-unwrap) c.requires

pub returns : goal.returns
returns c = here (goal.at.returns c).After-unwrap ∙ c.spot.ensures
