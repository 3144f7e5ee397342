use Rattle.std.proofs.Common.{ap, sym, ◌∙◌}
use Rattle.extent_table.specs.Kept.{kept_in}
use Rattle.extent_table.specs.Entries.{entry_of}
use Rattle.extent_table.specs.Parts.{now_of}
use Rattle.extent_table.proofs.EntriesLemmas.{read_some, read_none}
use Rattle.extent_table.proofs.SeenLemmas.{seen}
use Rattle.extent_table.proofs.entry.now_at.Goals as goal

pub returns-in-Some : goal.returns-in-Some
returns-in-Some c = c.now.ensures ∙ sym (ap now_of (seen c.entries.inside c.entries.view_is c.args.key
    ∙ ap (entry_of (kept_in c.entries.inside.kept.items c.args.key)) (read_some c.get.ensures c.in-Some.is)))

pub returns-in-None : goal.returns-in-None
returns-in-None c = sym (ap now_of (seen c.entries.inside c.entries.view_is c.args.key
    ∙ ap (entry_of (kept_in c.entries.inside.kept.items c.args.key)) (read_none c.get.ensures c.in-None.is)))
