use Rattle.std.proofs.Common.{Some, sym, ap, ◌∙◌}
use Rattle.extent_table.specs.Parts.{now_of, digest_in}
use Rattle.extent_table.proofs.SideLemmas.{rising_names, get_in_gap}
use Rattle.extent_table.proofs.FoundLemmas.{found_key, map_found}
use Rattle.extent_table.proofs.table.Table.digest.Goals as goal

pub search-requires-clause-rising : goal.search-requires-clause-rising
search-requires-clause-rising c = rw c.deref.ensures.value (rising_names c.self.invariant.sound.now)

pub returns-in-Ok : goal.returns-in-Ok
returns-in-Ok c =
    let found = found_key now_of c.deref.ensures.value c.in-Ok.ensures.within c.in-Ok.ensures.found
    c.index-key.ensures in
    rw (← c.self.view_is)
    (ap Some (c.digest_at.ensures.value
    ∙ ap (λ xs. digest_in xs c.index-key.result.now) c.deref-in-Ok.ensures.value)
    ∙ sym (map_found c.self.invariant.sound.now found (digest_in c.self.inside.digests.items)))

pub returns-in-Err : goal.returns-in-Err
returns-in-Err c =
    rw (← c.self.view_is)
    (sym (get_in_gap c.self.invariant.sound.now c.args.name.now
    (rw c.deref.ensures.value at c.in-Err.ensures.below)
    (rw c.deref.ensures.value at c.in-Err.ensures.above) (digest_in c.self.inside.digests.items)))
