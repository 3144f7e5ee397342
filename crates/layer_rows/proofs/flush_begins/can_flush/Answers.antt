use Rattle.std.proofs.Common.{arith}
use Rattle.size_class.proofs.RowLaws.{row_shape}
use Rattle.segment_layout.specs.Layouts.{divisor_of, caps_of}
use Rattle.flush_model.specs.declared.item.Item.{Item}
use Rattle.layer_rows.proofs.FlushBeginLaws.{can_flush_all, can_flush_more, got_front}
use Rattle.std.proofs.lemmas.Option.{slice_get-get_or}
use Rattle.std.specs.Prelude.{slice_index_or}
use Rattle.layer_rows.proofs.flush_begins.can_flush.Goals as goal

pub items-preserved : goal.items-preserved
items-preserved g c =
    let layout = c.args.layout.now in
    let items = c.args.items.now in
    let none : Item = record { key = 0; class = 0; place = 0; size = 0 } in
    let m = slice_index_or items c.items.i none in
    let well = c.stands_well.ensures in
    let stands = c.if-not-stands_well.false in
    let apart = c.is_apart.ensures c.if-not-is_apart.false in
    can_flush_more (divisor_of layout) (caps_of layout) c.args.b items c.items.i c.items.invariant m
    (slice_get-get_or items c.items.i none c.items-test.true) (record {
      some = well.some stands;
      class = well.class stands;
      from = well.from stands;
      stands = well.stands stands;
    }) (λ x it low at. apart x it (got_front items c.items.i x it low at))

pub returns : goal.returns
returns g c = λ is. can_flush_all (divisor_of c.args.layout.now) (caps_of c.args.layout.now) c.args.b
    c.args.items.now c.items.i c.items.invariant (row_shape c.args.layout.now.caps).full
    (omega (arith, c.items-test.false))
