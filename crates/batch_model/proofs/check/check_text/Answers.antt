use Rattle.std.proofs.Common.{◌-◌, ap, arith, length, sym}
use Rattle.map_model.specs.Weights.{same_name}
use Rattle.batch_model.specs.Batches.{batch_name}
use Rattle.batch_model.specs.Parts.{change_of, is_behind}
use Rattle.batch_model.proofs.CheckLaws.{checked_more, following, not_following, stops_at, stops_none, text_some}
use Rattle.batch_model.proofs.check.check_text.Goals as goal

pub returns-in_default-clause-stops : goal.returns-in_default-clause-stops
returns-in_default-clause-stops c = stops_none c.args.text.now c.parts.rest.now c.parts.before c.parts.n
    c.parts.invariant (λ none. omega (arith, ap length none, c.parts-test.true)) c.in_default.ensures

pub returns-then-not-may_follow-clause-stops : goal.returns-then-not-may_follow-clause-stops
returns-then-not-may_follow-clause-stops c = stops_at c.args.text.now c.parts.rest.now c.parts.before
    c.parts.n
    c.parts.invariant (change_of c.in-Some.part) c.in-Some.part.rest.now c.in-Some.ensures.0
    c.in-Some.ensures.1 (λ none. omega (arith, ap length none, c.parts-test.true))
    (not_following (same_name batch_name c.in-Some.part.name) (is_behind c.parts.before c.in-Some.part.name)
    (length c.args.text.now - length c.in-Some.part.rest.now) (sym c.if-not-may_follow.ensures))

pub parts-preserved : goal.parts-preserved
parts-preserved c =
    let f = following (same_name batch_name c.in-Some.part.name)
    (is_behind c.parts.before c.in-Some.part.name)
    (length c.args.text.now - length c.in-Some.part.rest.now) (sym c.if-not-may_follow.ensures) in
    checked_more c.args.text.now c.parts.rest.now c.parts.before c.parts.n c.parts.invariant
    (change_of c.in-Some.part) c.in-Some.part.rest.now c.in-Some.ensures.0 c.in-Some.ensures.1 f.0 f.1 f.2
    (text_some (change_of c.in-Some.part))
