use Rattle.std.proofs.Common.{rules}
use Rattle.slot_pair.proofs.LogEndLaws.{ends_here, more_entries, no_entries}
use Rattle.slot_pair.proofs.log_end.find_log_end.Goals as goal

pub entries-init : goal.entries-init
entries-init g c = no_entries c.args.at c.args.top (g.D.Disk.state c.args.disk.now) c.requires.ready

pub entries-preserved : goal.entries-preserved
entries-preserved g c = more_entries c.entries.invariant c.in-Some.room (search rules) (search rules)
    c.room_of_open.ensures.frame (search rules)

pub returns-clause-found : goal.returns-clause-found
returns-clause-found g c = λ told. ends_here c.entries.invariant (search rules) told
