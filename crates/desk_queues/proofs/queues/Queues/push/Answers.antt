-- The text stands behind the others of its session.
use Rattle.std.proofs.Common.{ap, sym, arith, subst}
use Rattle.std.specs.Prelude.{ℕ, [], ◌∷◌, ◌++◌, slice_set}
use Rattle.circular_buffer.specs.Buffer.{Buffer}
use Rattle.desk_queues.specs.Queues.{Holds, requests_at}
use Rattle.desk_queues.proofs.HoldLaws.{count_few}
use Rattle.desk_queues.proofs.QueueLaws.{IsRingOf, pushed_holds, pushed_ring, queued, room_stays}
use Rattle.desk_queues.proofs.RingLaws.{length-bytes}
use Rattle.desk_queues.proofs.queues.Queues.push.Goals as goal

pub overflow_add-self : goal.overflow_add-self
overflow_add-self c = omega (
  arith,
  count_few (queued c.self.inside.rings.items c.self.inside.waiting) c.self.invariant.requests
      c.self.invariant.held,
)

pub invariant_of-self : goal.invariant_of-self
invariant_of-self c =
    let rings = c.self.inside.rings.items in
    let b = c.index_mut.result.now in
    let now = c.fill_from_slice.new.self in
    let its : IsRingOf rings c.args.session b = record {
      few = c.requires.session;
      within = omega (arith, c.requires.session, c.self.invariant.held.rings, length-bytes rings);
      is = c.index_mut.ensures.value;
    } in
    let ring = pushed_ring rings c.self.inside.waiting c.args.session c.args.self.now b now c.args.text.now
    c.fill_from_slice.result c.self.view_is its c.self.invariant.room c.requires.fits
    c.fill_from_slice.ensures.count c.fill_from_slice.ensures.items in
    let qs = c.self.invariant.requests in
    let r = c.requires.text.0 in
    record {
      room = room_stays rings c.self.inside.waiting c.args.session b its now
          (ap (λ (x : Buffer ℕ). x.capacity) ring.1) c.self.invariant.room;
      requests = slice_set qs c.args.session (requests_at qs c.args.session ++ r ∷ []);
      held = pushed_holds rings c.self.inside.waiting c.args.session b its qs r c.args.text.now now
          c.self.invariant.held c.requires.text.1 c.requires.text.2 ring.0 ring.1;
    }

pub returns : goal.returns
returns c = λ qs r h has is.
    let rings = c.self.inside.rings.items in
    let b = c.index_mut.result.now in
    let now = c.fill_from_slice.new.self in
    let its : IsRingOf rings c.args.session b = record {
      few = c.requires.session;
      within = omega (arith, c.requires.session, c.self.invariant.held.rings, length-bytes rings);
      is = c.index_mut.ensures.value;
    } in
    let ring = pushed_ring rings c.self.inside.waiting c.args.session c.args.self.now b now c.args.text.now
    c.fill_from_slice.result c.self.view_is its c.self.invariant.room c.requires.fits
    c.fill_from_slice.ensures.count c.fill_from_slice.ensures.items in
    pushed_holds rings c.self.inside.waiting c.args.session b its qs r c.args.text.now now
    (subst (λ v. Holds v qs) (sym c.self.view_is) h) has is ring.0 ring.1
