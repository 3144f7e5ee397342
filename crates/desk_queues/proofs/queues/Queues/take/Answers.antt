-- The first request of the session is gone.
use Rattle.std.proofs.Common.{◌∙◌, ap, sym, arith, subst}
use Rattle.std.specs.Prelude.{ℕ, slice_set}
use Rattle.circular_buffer.specs.Buffer.{Buffer}
use Rattle.desk_model.specs.Desks.{texts_of}
use Rattle.desk_queues.specs.Queues.{Holds, ring_of}
use Rattle.desk_queues.proofs.QueueLaws.{IsRingOf, bytes_are, first_of, first_text, room_stays, some_text, taken_holds}
use Rattle.desk_queues.proofs.RingLaws.{length-bytes}
use Rattle.desk_queues.proofs.queues.Queues.take.Goals as goal

pub take_first-requires-clause-text : goal.take_first-requires-clause-text
take_first-requires-clause-text c =
    let rings = c.self.inside.rings.items in
    let b = c.index_mut.result.now in
    let its : IsRingOf rings c.args.session b = record {
      few = c.requires.session;
      within = omega (arith, c.requires.session, c.self.invariant.held.rings, length-bytes rings);
      is = c.index_mut.ensures.value;
    } in
    some_text rings c.self.inside.waiting c.args.session b its c.self.invariant.requests c.self.invariant.held
    (λ none. c.requires.some (ap (λ v. ring_of v c.args.session) (sym c.self.view_is)
    ∙ bytes_are rings c.self.inside.waiting c.args.session b its ∙ none))

pub invariant_of-self : goal.invariant_of-self
invariant_of-self c =
    let rings = c.self.inside.rings.items in
    let n = c.self.inside.waiting in
    let b = c.index_mut.result.now in
    let its : IsRingOf rings c.args.session b = record {
      few = c.requires.session;
      within = omega (arith, c.requires.session, c.self.invariant.held.rings, length-bytes rings);
      is = c.index_mut.ensures.value;
    } in
    let qs = c.self.invariant.requests in
    let h = c.self.invariant.held in
    let first = first_of rings n c.args.session b its qs h (λ none. c.requires.some
    (ap (λ v. ring_of v c.args.session) (sym c.self.view_is) ∙ bytes_are rings n c.args.session b its
    ∙ none)) in
    let text = first_text rings n c.args.session b its qs first.0 first.1.0 h first.1.1 in
    let left = c.take_first.ensures.left first.0 (texts_of first.1.0) text.0 text.1 in
    record {
      room = room_stays rings n c.args.session b its c.take_first.new.ring
          (ap (λ (x : Buffer ℕ). x.capacity) left) c.self.invariant.room;
      requests = slice_set qs c.args.session first.1.0;
      held = taken_holds rings n c.args.session b its qs first.0 first.1.0 c.take_first.new.ring h first.1.1
          left;
    }

pub returns-clause-left : goal.returns-clause-left
returns-clause-left c = λ qs r rest holds is.
    let rings = c.self.inside.rings.items in
    let n = c.self.inside.waiting in
    let b = c.index_mut.result.now in
    let its : IsRingOf rings c.args.session b = record {
      few = c.requires.session;
      within = omega (arith, c.requires.session, c.self.invariant.held.rings, length-bytes rings);
      is = c.index_mut.ensures.value;
    } in
    let h = subst (λ v. Holds v qs) (sym c.self.view_is) holds in
    let text = first_text rings n c.args.session b its qs r rest h is in
    taken_holds rings n c.args.session b its qs r rest c.take_first.new.ring h is
    (c.take_first.ensures.left r (texts_of rest) text.0 text.1)
