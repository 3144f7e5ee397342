-- A store that was opened is over its disk.
use Rattle.std.specs.Prelude.{IsTrue}
use Rattle.std.proofs.Common.{rules, subst, sym}
use Rattle.store_rows.proofs.trials.store_on.Goals as goal

-- the disk is ready and tells as before, and the store is over its file, with nothing in hand
pub invariant_of-result : goal.invariant_of-result
invariant_of-result g c = record {
  ready = c.open.ensures.frame.stays.ready;
  tells = subst IsTrue (sym c.open.ensures.frame.stays.told) c.requires.tells;
  over = record { idle = search rules; over = λ _ _. search rules };
}
