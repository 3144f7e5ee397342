use Rattle.std.proofs.Common.{Some, sym, ap, ◌∙◌}
use Rattle.extent_table.specs.Parts.{digest_in}
use Rattle.extent_table.proofs.FoundLemmas.{found_live, map_found}
use Rattle.extent_table.proofs.table.Table.digest_of.Goals as goal

pub returns-clause-value : goal.returns-clause-value
returns-clause-value c =
    rw (← c.self.view_is) (λ name is.
    map_found c.self.invariant.sound.now (found_live c.self.invariant.sound.now is)
    (digest_in c.self.inside.digests.items)
    ∙ ap Some (sym (c.digest_at.ensures.value
    ∙ ap (λ xs. digest_in xs c.args.key) c.deref.ensures.value)))
