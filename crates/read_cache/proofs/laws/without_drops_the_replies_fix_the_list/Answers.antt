use Rattle.read_cache.proofs.DropLaws.{without_drops}
use Rattle.read_cache.proofs.laws.without_drops_the_replies_fix_the_list.Goals as goal

pub returns : goal.returns
returns c = without_drops
