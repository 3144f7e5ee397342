use Rattle.std.proofs.Common.{◌∙◌, ◌≡◌, ap, arith, sym}
use Rattle.slot_pair.proofs.HeadLaws.{one_counted, with_kind}
use Rattle.slot_pair.proofs.head.change_counts.Goals as goal
use Rattle.slot_pair.proofs.head.change_counts.Goals.{in-Gone, in-Moved, in-Put, in-Same}

pub changes-preserved : goal.changes-preserved
changes-preserved g c =
    let so_far = with_kind c.changes.counts in
    let counts : c.match-change_kind.counts ≡ so_far c.change_kind.result =
    elim c.match-change_kind.branch [
      | in-Same w ↦ w.counts-is ∙ sym (ap so_far w.in-Same.is)
      | in-Moved w ↦ w.counts-is ∙ sym (ap so_far w.in-Moved.is)
      | in-Gone w ↦ w.counts-is ∙ sym (ap so_far w.in-Gone.is)
      | in-Put w ↦ w.counts-is ∙ sym (ap so_far w.in-Put.is)
    ] in
    one_counted c.changes.counts _ _ c.changes.number _ (omega arith) c.change_kind.ensures counts
    c.changes.invariant
