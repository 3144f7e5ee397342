-- A store that was opened is over its disk.
use Rattle.std.specs.Prelude.{IsTrue}
use Rattle.std.proofs.Common.{inl, rules, subst}
use Rattle.store_rows.proofs.slices.sliced_on.Goals as goal

-- the disk is ready, and the store is over its file, with nothing in hand
pub invariant_of-result : goal.invariant_of-result
invariant_of-result g c = record {
  ready = c.open.ensures.frame.stays.ready;
  over = inl (record {
    idle = search rules;
    over = λ whole told.
        let before = subst IsTrue c.open.ensures.frame.stays.told told in
        search rules;
  });
}
