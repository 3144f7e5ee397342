use Rattle.std.proofs.Common.{◌≡◌, ◌+◌, ◌-◌, ◌∙◌, subst, take, arith, option_map, slice_get}
use Rattle.disk_mem.specs.Entries.{stamp_of, newest_first}
use Rattle.disk_mem.specs.Turns.{at_turn}
use Rattle.disk_mem.proofs.Walks.{turn_found, turn_more, turn_none}
use Rattle.disk_mem.proofs.turns.ended_by.Goals as goal

pub returns-then-saturating_add-turn-clause-turn : goal.returns-then-saturating_add-turn-clause-turn
returns-then-saturating_add-turn-clause-turn c =
    let back : c.later.count - 1 + 1 ≡ c.later.count = omega arith in
    let next = option_map stamp_of (slice_get c.args.entries.now c.later.count) in
    c.later.invariant.turn
    ∙ subst (λ n. at_turn c.args.turn next (newest_first (take n c.args.entries.now))
    ≡ (next, newest_first (take n c.args.entries.now))) back
    (turn_found c.args.entries.now (c.later.count - 1) c.index-entries-count.result (omega arith)
    c.index-entries-count.is c.args.turn next (omega (arith, c.saturating_add.ensures)))

pub later-preserved : goal.later-preserved
later-preserved c =
    let back : c.later.count - 1 + 1 ≡ c.later.count = omega arith in
    let next = option_map stamp_of (slice_get c.args.entries.now c.later.count) in
    record {
      within = omega arith;
      turn = c.later.invariant.turn
          ∙ subst (λ n. at_turn c.args.turn next (newest_first (take n c.args.entries.now))
          ≡ at_turn c.args.turn (option_map stamp_of (slice_get c.args.entries.now (c.later.count - 1)))
          (newest_first (take (c.later.count - 1) c.args.entries.now))) back
          (turn_more c.args.entries.now (c.later.count - 1) c.index-entries-count.result (omega arith)
          c.index-entries-count.is c.args.turn next (omega (arith, c.saturating_add.ensures)));
    }

pub returns-clause-turn : goal.returns-clause-turn
returns-clause-turn c =
    let none : 0 ≡ c.later.count = omega arith in
    let next = option_map stamp_of (slice_get c.args.entries.now c.later.count) in
    c.later.invariant.turn ∙ subst (λ n. at_turn c.args.turn next (newest_first (take n c.args.entries.now))
    ≡ (next, newest_first (take n c.args.entries.now))) none
    (turn_none c.args.turn next c.args.entries.now)
