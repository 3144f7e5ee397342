use Rattle.std.proofs.Common.{lit<, refl}
use Rattle.size_class.specs.Rows.{cells_of}
use Rattle.segment_layout.specs.Layouts.{caps_of, divisor_of, grid_of}
use Rattle.flush_run.specs.Parts.{parts_of}
use Rattle.store_model.proofs.BegunLaws.{placed_begun, placed_ends, placed_ready, room_for, waiting_begun, waiting_high, waiting_new, waiting_ready, waiting_some}
use Rattle.store_model.proofs.DigestLaws.{digest_given}
use Rattle.store_model.proofs.CopyChargesLaws.{charges_after}
use Rattle.store_core.proofs.begin.start_put.Goals as goal

pub boundary-boundary-requires : goal.boundary-boundary-requires
boundary-boundary-requires g c = (
  lit< tt,
  (c.requires.charged.in_use c.requires.needs_flush, c.requires.fits),
)

pub start_placed-requires : goal.start_placed-requires
start_placed-requires g c =
    let may = c.requires.before.1 in
    let layout = c.args.charged.now.layout in
    let r = c.args.charged.now.outcome in
    let ch = charges_after c.take_out.ensures c.requires.charged c.boundary-boundary.ensures.same in (
      lit< tt,
      (
        lit< tt,
        (
          c.requires.fits,
          (
            room_for may c.args.name.now c.take_out.new.hands.table c.take_out.ensures.without
                (c.requires.can.room refl),
            (
              placed_ends may c.args.name.now (parts_of c.take_out.new.hands) c.take_out.ensures
                  c.requires.can.named c.args.bytes.now c.requires.can.small
                  (cells_of c.add_size.new.ledger.moved)
                  (cells_of c.add_size.new.ledger.asked) c.add_size.ensures.moved c.add_size.ensures.asked
                  _ refl (divisor_of layout) (caps_of layout)
                  (grid_of layout) r.gone r.place r.class
                  c.boundary-boundary.result ch c.requires.needs_flush c.in-Some.place c.in-Some.is,
              placed_ready may c.args.name.now (parts_of c.take_out.new.hands) c.take_out.ensures
                  c.requires.can.named c.args.bytes.now c.requires.can.small
                  (cells_of c.add_size.new.ledger.moved)
                  (cells_of c.add_size.new.ledger.asked) c.add_size.ensures.moved c.add_size.ensures.asked
                  _ refl (divisor_of layout) (caps_of layout)
                  (grid_of layout) r.gone r.place r.class
                  c.boundary-boundary.result ch c.requires.needs_flush c.in-Some.place c.in-Some.is,
            ),
          ),
        ),
      ),
    )

pub start_waiting-requires : goal.start_waiting-requires
start_waiting-requires g c =
    let may = c.requires.before.1 in
    let layout = c.args.charged.now.layout in
    let r = c.args.charged.now.outcome in
    let ch = charges_after c.take_out.ensures c.requires.charged c.boundary-boundary.ensures.same in (
      lit< tt,
      (
        lit< tt,
        (
          c.requires.fits,
          (
            c.requires.wide,
            (
              waiting_some may c.args.name.now (parts_of c.take_out.new.hands) c.take_out.ensures
                  c.requires.can.named c.args.bytes.now c.requires.can.small
                  (cells_of c.add_size.new.ledger.moved)
                  (cells_of c.add_size.new.ledger.asked) c.add_size.ensures.moved c.add_size.ensures.asked
                  _ refl (divisor_of layout) (caps_of layout)
                  (grid_of layout) r.gone r.place r.class
                  c.boundary-boundary.result ch c.requires.needs_flush c.in-None.is,
              (
                c.requires.can.small,
                (
                  waiting_high may c.args.name.now (parts_of c.take_out.new.hands) c.take_out.ensures
                      c.requires.can.named c.args.bytes.now c.requires.can.small
                      (cells_of c.add_size.new.ledger.moved) (cells_of c.add_size.new.ledger.asked)
                      c.add_size.ensures.moved c.add_size.ensures.asked _ refl (divisor_of layout)
                      (caps_of layout)
                      (grid_of layout) r.gone r.place r.class
                      c.boundary-boundary.result ch c.requires.needs_flush c.in-None.is,
                  (
                    waiting_new may c.args.name.now (parts_of c.take_out.new.hands) c.take_out.ensures
                        c.requires.can.named c.args.bytes.now c.requires.can.small
                        (cells_of c.add_size.new.ledger.moved) (cells_of c.add_size.new.ledger.asked)
                        c.add_size.ensures.moved c.add_size.ensures.asked _ refl (divisor_of layout)
                        (caps_of layout)
                        (grid_of layout) r.gone r.place r.class
                        c.boundary-boundary.result ch c.requires.needs_flush c.in-None.is,
                    (
                      room_for may c.args.name.now c.take_out.new.hands.table c.take_out.ensures.without
                          (c.requires.can.room refl),
                      waiting_ready may c.args.name.now (parts_of c.take_out.new.hands) c.take_out.ensures
                          c.requires.can.named c.args.bytes.now c.requires.can.small
                          (cells_of c.add_size.new.ledger.moved) (cells_of c.add_size.new.ledger.asked)
                          c.add_size.ensures.moved c.add_size.ensures.asked _ refl (divisor_of layout)
                          (caps_of layout)
                          (grid_of layout) r.gone r.place r.class
                          c.boundary-boundary.result ch c.requires.needs_flush c.in-None.is,
                    ),
                  ),
                ),
              ),
            ),
          ),
        ),
      ),
    )

pub returns-in-Some-clause-begun : goal.returns-in-Some-clause-begun
returns-in-Some-clause-begun g c =
    let may = c.requires.before.1 in
    let layout = c.args.charged.now.layout in
    let r = c.args.charged.now.outcome in
    let ch = charges_after c.take_out.ensures c.requires.charged c.boundary-boundary.ensures.same in
    placed_begun may c.args.name.now (parts_of c.take_out.new.hands) c.take_out.ensures
    c.requires.can.named c.args.bytes.now c.requires.can.small
    (cells_of c.add_size.new.ledger.moved)
    (cells_of c.add_size.new.ledger.asked) c.add_size.ensures.moved c.add_size.ensures.asked _ refl
    (divisor_of layout) (caps_of layout) (grid_of layout)
    r.gone r.place r.class c.boundary-boundary.result ch c.requires.needs_flush
    c.in-Some.place c.in-Some.is (parts_of c.start_placed.new.hands) _
    c.start_placed.result.place c.start_placed.ensures.place c.start_placed.ensures.starts
    (digest_given c.args.hands.now.version c.args.hands.now.table.digests c.args.bytes.now
    c.digest_of-digest.result c.digest_of-digest.ensures.own)
    (room_for may c.args.name.now c.take_out.new.hands.table c.take_out.ensures.without
    (c.requires.can.room refl))

pub returns-in-None-clause-begun : goal.returns-in-None-clause-begun
returns-in-None-clause-begun g c =
    let may = c.requires.before.1 in
    let layout = c.args.charged.now.layout in
    let r = c.args.charged.now.outcome in
    let ch = charges_after c.take_out.ensures c.requires.charged c.boundary-boundary.ensures.same in
    waiting_begun may c.args.name.now (parts_of c.take_out.new.hands) c.take_out.ensures
    c.requires.can.named c.args.bytes.now c.requires.can.small
    (cells_of c.add_size.new.ledger.moved)
    (cells_of c.add_size.new.ledger.asked) c.add_size.ensures.moved c.add_size.ensures.asked _ refl
    (divisor_of layout) (caps_of layout) (grid_of layout)
    r.gone r.place r.class c.boundary-boundary.result ch c.requires.needs_flush
    c.in-None.is (parts_of c.start_waiting.new.hands) _
    c.start_waiting.result.place c.start_waiting.ensures.starts
    (digest_given c.args.hands.now.version c.args.hands.now.table.digests c.args.bytes.now
    c.digest_of-digest.result c.digest_of-digest.ensures.own)
    (room_for may c.args.name.now c.take_out.new.hands.table c.take_out.ensures.without
    (c.requires.can.room refl))
