use Rattle.std.proofs.Common.{arith, refl, sym, ◌∙◌}
use Rattle.std.proofs.lemmas.Grind.{common_steps}
use Rattle.flush_run.proofs.CanMoveLaws.{move_apart, move_room}
use Rattle.flush_run.proofs.MadeMoveLaws.{copy_flight, copy_left, guard_pushed, guard_stays, relocated_is}
use Rattle.flush_run.proofs.moves.move_one.Goals as goal

pub returns-in_err-move_object-clause-left : goal.returns-in_err-move_object-clause-left
returns-in_err-move_object-clause-left g c f u told base free was =
    let h = c.args.hands.now in
    copy_left f u h.table c.args.mv.now h.base told base c.requires.can.table free
    c.move_object.ensures.writes was

pub freed-requires-clause-room : goal.freed-requires-clause-room
freed-requires-clause-room g c =
    let h = c.args.hands.now in
    omega (
      arith,
      move_room c.args.mv.now h.table h.guard.spans c.requires.can
          (λ name keyed. sym c.if-stood.true ∙ c.stands_kept-stood.ensures name keyed),
      c.requires.room,
    )

pub freed-requires-clause-apart : goal.freed-requires-clause-apart
freed-requires-clause-apart g c =
    let h = c.args.hands.now in
    move_apart c.args.mv.now h.table h.guard.spans c.requires.can
    (λ name keyed. sym c.if-stood.true ∙ c.stands_kept-stood.ensures name keyed)

pub returns-then-stood : goal.returns-then-stood
returns-then-stood g c =
    let h = c.args.hands.now in
    let r = c.relocate.ensures in
    let relocated = relocated_is h.table c.relocate.new.self c.args.mv.now r.now r.kept r.keys r.names
    r.digests r.rest in
    record {
      moved = record {
        table = r.table;
        now = relocated;
        guard = guard_pushed h.table c.args.mv.now h.guard.spans c.freed.new.self.spans _
            (λ name keyed. sym c.if-stood.true ∙ c.stands_kept-stood.ensures name keyed) refl refl
            (c.freed.ensures.joins (omega (arith, c.requires.low)));
      };
      flies = λ f u told base free high was. copy_flight f u h.table c.relocate.new.self c.args.mv.now h.base
          told base c.requires.can.table c.requires.can.mover free high c.move_object.ensures.writes
          (c.in_ok-move_object.ensures.moved told) relocated was;
      left = λ f u told base free was. copy_left f u h.table c.args.mv.now h.base told base
          c.requires.can.table free c.move_object.ensures.writes was;
      most = grind (arith, common_steps);
      ledger = grind (arith, common_steps);
      table = tt;
      unmoved = tt;
      keeps = grind (arith, common_steps);
      slots = refl;
      cause = grind (arith, common_steps);
    }

pub returns-else-stood : goal.returns-else-stood
returns-else-stood g c =
    let h = c.args.hands.now in
    let r = c.relocate.ensures in
    let relocated = relocated_is h.table c.relocate.new.self c.args.mv.now r.now r.kept r.keys r.names
    r.digests r.rest in
    record {
      moved = record {
        table = r.table;
        now = relocated;
        guard = guard_stays h.table c.args.mv.now h.guard.spans h.guard.spans
            (λ name keyed. sym c.if-stood.false ∙ c.stands_kept-stood.ensures name keyed) refl;
      };
      flies = λ f u told base free high was. copy_flight f u h.table c.relocate.new.self c.args.mv.now h.base
          told base c.requires.can.table c.requires.can.mover free high c.move_object.ensures.writes
          (c.in_ok-move_object.ensures.moved told) relocated was;
      left = λ f u told base free was. copy_left f u h.table c.args.mv.now h.base told base
          c.requires.can.table free c.move_object.ensures.writes was;
      most = grind (arith, common_steps);
      ledger = grind (arith, common_steps);
      table = tt;
      unmoved = tt;
      keeps = grind (arith, common_steps);
      slots = refl;
      cause = grind (arith, common_steps);
    }
