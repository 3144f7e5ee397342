use Rattle.std.proofs.Common.{length}
use Rattle.plain_layout.proofs.objects.+spot_in.Given as goal

abbrev pub decreases-spot_in : goal.decreases-spot_in
decreases-spot_in l = length l.records.now
