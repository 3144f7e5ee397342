use Rattle.std.proofs.Common.{IsSome, ap, sym, subst, ◌∙◌}
use Rattle.extent_table.specs.Kept.{kept_in}
use Rattle.extent_table.specs.Entries.{entry_of}
use Rattle.extent_table.specs.Parts.{name_of}
use Rattle.extent_table.proofs.EntriesLemmas.{read_some, some_name, some_read_of}
use Rattle.extent_table.proofs.SeenLemmas.{seen}
use Rattle.extent_table.proofs.entry.name_at.Goals as goal

pub unwrap-requires : goal.unwrap-requires
unwrap-requires c =
    some_read_of c.get.result (subst (λ o. IsSome o) (sym c.get.ensures)
    (some_name (kept_in c.entries.inside.kept.items c.args.key) _
    (subst (λ e. IsSome e) (seen c.entries.inside c.entries.view_is c.args.key) c.requires)))

pub returns : goal.returns
returns c = c.name.ensures ∙ sym (ap name_of (seen c.entries.inside c.entries.view_is c.args.key
    ∙ ap (entry_of (kept_in c.entries.inside.kept.items c.args.key))
    (read_some c.get.ensures c.unwrap.ensures)))
