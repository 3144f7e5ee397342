use Rattle.logged_pair.proofs.NextLaws.{few_records}
use Rattle.logged_pair.proofs.pair.LoggedPair.after.Goals as goal

pub first_gate-gate-requires-clause-count : goal.first_gate-gate-requires-clause-count
first_gate-gate-requires-clause-count c =
    few_records _ _ c.args.count c.self.view_is c.self.invariant.0.names_high c.requires.count
