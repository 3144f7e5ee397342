use Rattle.std.proofs.Common.{refl}
use Rattle.lent_store.proofs.RestLaws.{begin_rests, change_rests, keep_rests, upgrade_rests}
use Rattle.lent_store.proofs.laws.a_store_goes_on_to_rest.Goals as goal

pub returns-clause-change : goal.returns-clause-change
returns-clause-change c = λ change old new result is whole rests.
    change_rests refl change result is whole rests

pub returns-clause-begin : goal.returns-clause-begin
returns-clause-begin c = λ change old new result is whole idle rests.
    begin_rests refl change result is whole idle rests

pub returns-clause-keep : goal.returns-clause-keep
returns-clause-keep c = λ old new result refused kept whole rests.
    keep_rests refl result refused kept whole rests

pub returns-clause-upgrade : goal.returns-clause-upgrade
returns-clause-upgrade c = λ old new result is whole rests.
    upgrade_rests refl result is.idle is.upgrades whole rests
