use Rattle.std.proofs.Common.{arith, sym, ◌∙◌}
use Rattle.size_class.specs.Classes.{class_of}
use Rattle.size_class.proofs.ClassLaws.{class_below}
use Rattle.segment_layout.proofs.ChargeLaws.{buffer_is, buffer_is_none}
use Rattle.plain_layout.proofs.book.Book.buffer_for.Goals as goal

pub returns-then-has_room-clause-buffer : goal.returns-then-has_room-clause-buffer
returns-then-has_room-clause-buffer c =
    let self = c.args.self.now in
    buffer_is self.k self.caps self.used (class_of c.args.size) c.args.size (class_below c.args.size)
    c.buffers.j (omega arith) (omega arith) (sym c.has_room.ensures.room ∙ c.if-has_room.true)
    c.buffers.invariant

pub returns-clause-buffer : goal.returns-clause-buffer
returns-clause-buffer c =
    let self = c.args.self.now in
    buffer_is_none self.k self.caps self.used (class_of c.args.size) c.args.size (class_below c.args.size)
    (λ i low high. c.buffers.invariant i low (omega arith))
