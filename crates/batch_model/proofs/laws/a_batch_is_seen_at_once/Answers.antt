-- The laws are proved over plain values.
use Rattle.batch_model.proofs.ViewLaws.{view_bare, view_done, view_half}
use Rattle.batch_model.proofs.laws.a_batch_is_seen_at_once.Goals as goal

pub returns-clause-kept : goal.returns-clause-kept
returns-clause-kept c = view_half

pub returns-clause-gone : goal.returns-clause-gone
returns-clause-gone c = view_done

pub returns-clause-bare : goal.returns-clause-bare
returns-clause-bare c = view_bare
