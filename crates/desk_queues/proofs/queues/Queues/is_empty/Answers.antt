-- Where no bytes wait no request does.
use Rattle.std.proofs.Common.{◌∙◌, ap, sym, arith, subst}
use Rattle.std.proofs.lemmas.Bool.{eq-eqb, eqb-true}
use Rattle.std.proofs.lemmas.List.{nil_from_length}
use Rattle.std.specs.Prelude.{length}
use Rattle.desk_queues.specs.Queues.{Holds}
use Rattle.desk_queues.proofs.QueueLaws.{IsRingOf, empty_alike}
use Rattle.desk_queues.proofs.RingLaws.{length-bytes}
use Rattle.desk_queues.proofs.queues.Queues.is_empty.Goals as goal

pub returns-clause-requests : goal.returns-clause-requests
returns-clause-requests c = λ qs h.
    let rings = c.self.inside.rings.items in
    let b = c.index.result.now in
    let its : IsRingOf rings c.args.session b = record {
      few = c.requires.session;
      within = omega (arith, c.requires.session, c.self.invariant.held.rings, length-bytes rings);
      is = c.index.ensures;
    } in
    let both = empty_alike rings c.self.inside.waiting c.args.session b its qs
    (subst (λ v. Holds v qs) (sym c.self.view_is) h) in (
      (λ is. both.0 (nil_from_length b.items (eqb-true (length b.items) 0 (sym c.is_empty.ensures ∙ is)))),
      (λ none. c.is_empty.ensures ∙ eq-eqb (length b.items) 0 (ap length (both.1 none))),
    )
