use Rattle.std.proofs.Common.{◌∙◌, ap, length}
use Rattle.slot_codec.specs.declared.entry.EntryHead.{EntryHead}
use Rattle.slot_pair.specs.Appends.{head_for}
use Rattle.logged_pair.specs.Pairs.{InLog}
use Rattle.logged_pair.specs.Saves.{next_in_log}
use Rattle.logged_pair.proofs.NextLaws.{next_sequence}
use Rattle.logged_pair.proofs.pair.LoggedPair.save.Goals as goal

pub returns-clause-pair : goal.returns-clause-pair
returns-clause-pair g c =
    let count = length (g.T.Roll.records c.args.delta.now) in
    let head : EntryHead = head_for c.args.header.now (g.T.Delta.changes c.args.delta.now) in
    let is = c.next.view_is ∙ c.after-next.ensures
    ∙ ap (λ h. next_in_log c.args.self.now h c.count.result) c.entry_head-head.ensures.head in
    record {
      answer = ap (λ (v : InLog). v.in_use.sequence) is ∙ next_sequence c.args.self.now head c.count.result;
      pair = is ∙ ap (next_in_log c.args.self.now head) c.count.ensures;
    }
