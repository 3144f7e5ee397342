use Rattle.std.proofs.Common.{refl, sym, ap, ◌∙◌}
use Rattle.std.specs.FinMap as fin
use Rattle.extent_table.specs.Parts.{now_of, spot_at, spots_of}
use Rattle.extent_table.proofs.SideLemmas.{rising_names, get_in_gap, get_here}
use Rattle.extent_table.proofs.load.BulkLoad.has.Goals as goal

pub search-requires-clause-rising : goal.search-requires-clause-rising
search-requires-clause-rising c = rw c.deref.ensures.value (rising_names c.self.invariant.sound.now)

pub returns-in-Ok : goal.returns-in-Ok
returns-in-Ok c =
    let spots = spots_of now_of c.self.inside.entries.slots c.self.inside.order.items in
    let found = rw c.deref.ensures.value at c.in-Ok.ensures.found in
    let within = rw c.deref.ensures.value at c.in-Ok.ensures.within in
    let there = ap (fin.get spots) (sym found)
    ∙ get_here c.self.invariant.sound.now (spot_at now_of c.self.inside.entries.slots) c.in-Ok._place within
    in
    rw (← c.self.view_is, there) (λ _. refl, λ _. refl)

pub returns-in-Err : goal.returns-in-Err
returns-in-Err c =
    let absent = get_in_gap c.self.invariant.sound.now c.args.name.now
    (rw c.deref.ensures.value at c.in-Err.ensures.below)
    (rw c.deref.ensures.value at c.in-Err.ensures.above) (spot_at now_of c.self.inside.entries.slots) in
    rw (← c.self.view_is, absent) (λ t. absurd (cc), λ some. absurd (cc))
