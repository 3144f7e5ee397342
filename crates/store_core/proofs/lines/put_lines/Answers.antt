use Rattle.std.proofs.Common.{◌∙◌, rules, arith, IsTrue}
use Rattle.data_area.proofs.CauseLaws.{sink_cause_after, sink_cause_as}
use Rattle.store_model.proofs.LineLaws.{gathered_all, gathered_front, gathered_more}
use Rattle.store_core.proofs.lines.put_lines.Goals as goal

pub returns-in_err-make_room-clause-put : goal.returns-in_err-make_room-clause-put
returns-in_err-make_room-clause-put g c told =
    let there : IsTrue (g.O.Sink.state c.names.sink).tells = grind (arith, c.names.invariant.told) in
    let front = gathered_front (c.names.invariant.so_far told) (c.in_err-make_room.ensures.front there) in
    search rules

pub returns-in_err-make_room-clause-cause : goal.returns-in_err-make_room-clause-cause
returns-in_err-make_room-clause-cause g c =
    sink_cause_as (sink_cause_after c.names.invariant.calm c.names.invariant.told
    c.in_err-make_room.ensures.cause) (λ is. grind arith) (λ is. grind arith)

pub names-preserved : goal.names-preserved
names-preserved g c = record {
  so_far = λ told.
      let there : IsTrue (g.O.Sink.state c.names.sink).tells = grind (arith, c.names.invariant.told) in
      gathered_more c.in_order-name.result.1 c.in_order-name.result.2 (c.names.invariant.so_far told)
      (c.in_ok-make_room.ensures.moved there) c.push_line.ensures c.in_order-name.ensures.entry;
  calm = c.in_ok-make_room.ensures.cause.calm (λ is. absurd (cc)) ∙ c.names.invariant.calm;
  told = grind (arith, c.make_room.ensures.cause.told, c.names.invariant.told);
}

pub returns-clause-put : goal.returns-clause-put
returns-clause-put g c told =
    let there : IsTrue (g.O.Sink.state c.names.sink).tells = grind (arith, c.names.invariant.told) in
    gathered_all (c.names.invariant.so_far told) (omega arith) _ _ (c.put_rest.ensures.put there)

pub returns-clause-cause : goal.returns-clause-cause
returns-clause-cause g c =
    sink_cause_after c.names.invariant.calm c.names.invariant.told c.put_rest.ensures.cause
