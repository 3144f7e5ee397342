-- A line that announces an object or a list is the first line of that reply alone.
use Rattle.std.proofs.Common.{◌∙◌, sym, arith}
use Rattle.watched_streams.proofs.TallyLemmas.{data_told, list_told}
use Rattle.watched_streams.proofs.tally.Tally.begin.Goals as goal

pub returns-in-Some : goal.returns-in-Some
returns-in-Some c = λ r told is.
    data_told c.args.is_back c.args.self.now c.in-Some.size c.saturating_add-self-in-Some.result r
    (omega arith) told
    (sym c.in-Some.ensures ∙ is) c.saturating_add-self-in-Some.ensures

pub returns-in-Some-count_in : goal.returns-in-Some-count_in
returns-in-Some-count_in c = λ r told is.
    list_told c.args.is_back c.args.self.now c.in-Some-count_in.count r (omega arith) told
    (sym c.in-Some-count_in.ensures ∙ is)
