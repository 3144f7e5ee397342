-- A first line is what it spells.
use Rattle.std.proofs.Common.{◌≡◌, ◌-◌, ◌++◌, rules, List, ℕ, sym, subst, take, drop, length}
use Rattle.std.specs.Prelude.{codes}
use Rattle.dump_stream.specs.Heads.{Splits}
use Rattle.dump_stream.proofs.ReadLaws.{from_on, stops_many, stops_with}
use Rattle.dump_stream.proofs.head.read_head.Goals as goal

pub returns-then-count-gt-MOST-clause-fault : goal.returns-then-count-gt-MOST-clause-fault
returns-then-count-gt-MOST-clause-fault g c =
    let front : c.args.line.now ≡ codes "dump " ++ c.in-Some.words.now = search rules in
    stops_many g.row.C c.in-Some-first_number.count c.args.line.now
    c.in-Some.words.now (drop c.in-Some-first_number.at c.in-Some.words.now) front
    c.in-Some-first_number.ensures.found c.if-count-gt-MOST.true

pub returns-clause-fault : goal.returns-clause-fault
returns-clause-fault g c =
    let words = c.in-Some.words.now in
    let at = c.in-Some-first_number.at in
    let front : c.args.line.now ≡ codes "dump " ++ c.in-Some.words.now = search rules in
    stops_with c.in-Some-first_number.count c.args.line.now words (take (length words - at) (drop at words))
    front
    (subst (λ (xs : List ℕ). Splits words c.in-Some-first_number.count xs) (sym (from_on at words))
    c.in-Some-first_number.ensures.found) c.read_volumes.result c.read_volumes.ensures.fault
