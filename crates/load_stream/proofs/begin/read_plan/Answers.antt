use Rattle.std.proofs.Common.{◌≡◌, ◌++◌, ◌∷◌, Ok, IfOk, arith, rules, subst}
use Rattle.std.specs.Prelude.{Some, IfSome}
use Rattle.size_class.specs.declared.TheConstants.{CLASSES}
use Rattle.dump_stream.specs.Heads.{IsHead, head_line, volumes_of_head}
use Rattle.load_stream.proofs.FirstLaws.{too_many}
use Rattle.load_stream.proofs.begin.read_plan.Goals as goal

pub returns-in_default-clause-none : goal.returns-in_default-clause-none
returns-in_default-clause-none g c told n is = c.first_line.ensures.none told (search rules)

pub returns-then-names-head-clause-many : goal.returns-then-names-head-clause-many
returns-then-names-head-clause-many g c told n is =
    let head = c.in-Some.head in
    let input = c.args.ahead.now ++ (g.I.Source.state c.args.input.now).left in
    let rest = c.first_line.new.ahead ++ (g.I.Source.state c.first_line.new.input).left in
    let found : c.first_line.result ≡ Ok (Some head) = search rules in
    let is_head : IsHead CLASSES head.count (volumes_of_head head) =
    subst (λ r. IfOk r (λ f. IfSome f (λ h. IsHead CLASSES h.count (volumes_of_head h)))) found
    c.first_line.ensures.head in
    let line : input ≡ head_line CLASSES head.count (volumes_of_head head) ++ 10 ∷ rest =
    subst (λ r. IfOk r (λ f. IfSome f (λ h. input
    ≡ head_line CLASSES h.count (volumes_of_head h) ++ 10 ∷ rest))) found (c.first_line.ensures.line told) in
    too_many c.args.names input rest head.count n (volumes_of_head head) is_head line (omega arith)
    (search rules)
