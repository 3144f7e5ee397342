use Rattle.std.proofs.Common.{◌+◌, take, drop, sym, ◌∙◌, ap, arith}
use Rattle.disk_mem.specs.Entries.{newest_first}
use Rattle.disk_mem.specs.Tearing.{up_to_sync, since_sync}
use Rattle.disk_mem.proofs.Records.{newest_first_none}
use Rattle.disk_mem.proofs.Walks.{at_sync, no_sync}
use Rattle.disk_mem.proofs.turns.synced_by.Goals as goal
use Rattle.disk_mem.proofs.turns.synced_by.Goals.{then-is_sync, else-is_sync}

pub calls-init : goal.calls-init
unfolding up_to_sync since_sync
calls-init c = record {
  within = omega arith;
  up_to = newest_first_none ∙ ap up_to_sync (sym newest_first_none);
  since = newest_first_none ∙ ap since_sync (sym newest_first_none);
}

pub calls-preserved : goal.calls-preserved
calls-preserved c = elim c.if-is_sync.branch [
  | then-is_sync w ↦
      let both = at_sync c.args.entries.now c.calls.i c.index-entries-i.result c.calls-test.true
      c.index-entries-i.is (sym c.is_sync.ensures ∙ w.if-is_sync.true) in
      record {
        within = omega (arith, w.synced-is);
        up_to = ap (λ n. newest_first (take n c.args.entries.now)) w.synced-is ∙ both.0;
        since = ap (λ n. newest_first (drop n (take (c.calls.i + 1) c.args.entries.now))) w.synced-is
            ∙ both.1;
      }
  | else-is_sync w ↦
      let both = no_sync c.args.entries.now c.calls.i c.index-entries-i.result c.calls-test.true
      c.index-entries-i.is c.calls.synced c.calls.invariant.within
      (sym c.is_sync.ensures ∙ w.if-is_sync.false) c.calls.invariant.up_to c.calls.invariant.since in
      record {
        within = omega (arith, w.synced-is);
        up_to = ap (λ n. newest_first (take n c.args.entries.now)) w.synced-is ∙ both.0;
        since = ap (λ n. newest_first (drop n (take (c.calls.i + 1) c.args.entries.now))) w.synced-is
            ∙ both.1;
      }
]
