use Rattle.std.proofs.Common.{◌∙◌, ◌-◌, ◌≤◌, true, IsTrue, Ok, ap, arith, length, subst, sym}
use Rattle.std.proofs.lemmas.Result.{on_err_weaker, on_ok_weaker}
use Rattle.slot_codec.specs.Spelling.{cap, head_len}
use Rattle.slot_codec.proofs.CapLaws.{cap-low}
use Rattle.slot_codec.proofs.ChoiceLaws.{in_use_long_in, slot_low}
use Rattle.slot_codec.proofs.SlotLaws.{other_low}
use Rattle.slot_pair.specs.Finding.{in_use_of}
use Rattle.logged_pair.specs.Pairs.{InLog}
use Rattle.logged_pair.specs.declared.pair.LoggedPair.TheInside.{Inside}
use Rattle.logged_pair.proofs.WholeTables.{base_inside, in_front}
use Rattle.logged_pair.proofs.WholePhases.{Begins, IsClosed, IsWritten, is_closed, is_written, left_closing, left_filling, left_opening, on_ok_both, save_done, whole_asks}
use Rattle.logged_pair.proofs.rewrite.write_whole.Given.{Over}
use Rattle.logged_pair.proofs.rewrite.write_whole.Goals as goal
use Rattle.logged_pair.proofs.rewrite.write_whole.Goals.{After-close_if_open, In_ok-close_if_open, In_ok-write_base}

-- a pair by its fields
abbrev pair_of : Inside → InLog
pair_of pair = record { in_use = in_use_of pair.found; end = pair.end }

-- the save begins
begun : (g : Over) (c : After-close_if_open g) → IsTrue (g.D.Disk.state c.args.disk.now).tells
    → Begins (pair_of c.pair.inside) c.args.header.now (g.T.Roll.records c.args.delta.now)
    (g.D.Disk.state c.args.disk.now)
begun g c told =
    let view = c.pair.view_is in
    record {
      told = told;
      front = in_front _ _ (c.requires.in_use told ∙ ap Ok (sym view));
      asked = record {
        names = c.pair.invariant.0.names_high;
        fresh = omega (arith, c.requires.save.fresh, ap (λ (u : InLog). u.in_use.sequence) view);
        version = c.requires.save.version;
        whole = c.header_is_whole.ensures;
        numbers = c.requires.save.ranges;
        count = omega (arith, c.requires.save.count, ap (λ (u : InLog). cap u.in_use.block.names 3) view);
        roll = g.met.T.Roll.in_order c.args.delta.now;
        ranges = c.requires.save.records;
        digests = g.met.T.Roll.digested c.args.delta.now;
      };
    }

-- the other slot is closed
closed : (g : Over) (c : In_ok-close_if_open g)
    → Begins (pair_of c.pair.inside) c.args.header.now (g.T.Roll.records c.args.delta.now)
    (g.D.Disk.state c.args.disk.now)
    → IsClosed (pair_of c.pair.inside) c.args.header.now (g.T.Delta.before c.args.delta.now)
    (g.T.Roll.records c.args.delta.now) (g.D.Disk.state c.args.disk.now)
    (g.D.Disk.state c.close_if_open.new.disk)
closed g c begins = is_closed begins c.close_if_open.ensures.same c.close_if_open.ensures.writes
    c.in_ok-close_if_open.ensures.closed c.in_ok-close_if_open.ensures.rests

-- the table is written behind it
written : (g : Over) (c : In_ok-write_base g)
    → IsClosed (pair_of c.pair.inside) c.args.header.now (g.T.Delta.before c.args.delta.now)
    (g.T.Roll.records c.args.delta.now) (g.D.Disk.state c.args.disk.now)
    (g.D.Disk.state c.close_if_open.new.disk)
    → IsWritten (pair_of c.pair.inside) c.args.header.now (g.T.Delta.before c.args.delta.now)
    (g.T.Roll.records c.args.delta.now) (g.D.Disk.state c.args.disk.now)
    (g.D.Disk.state c.write_base.new.disk)
written g c is = is_written c.slot_at.ensures c.log_top.ensures c.count.ensures is
    (base_inside _ _ _ c.slot_at.ensures c.log_top.ensures is.begins.asked.count)
    c.write_base.ensures.writes c.in_ok-write_base.ensures.base c.in_ok-write_base.ensures.rests

-- the records fit, and the file reaches to the data part
few : (g : Over) (c : After-close_if_open g)
    → length (g.T.Roll.records c.args.delta.now) ≤ cap c.pair.inside.found.block.names 3
few g c =
    omega (arith, c.requires.save.count, ap (λ (u : InLog). cap u.in_use.block.names 3) c.pair.view_is)

long : (g : Over) (c : After-close_if_open g) → IsTrue (g.D.Disk.state c.args.disk.now).tells
    → head_len c.pair.inside.found.block.names ≤ length (g.D.Disk.state c.args.disk.now).file
long g c told = in_use_long_in true _ _ (begun g c told).front.slot

pub returns-in_err-close_if_open-clause-left : goal.returns-in_err-close_if_open-clause-left
returns-in_err-close_if_open-clause-left g c =
    let at = goal.at.returns-in_err-close_if_open-clause-left g c in
    λ told. rw (← c.pair.view_is) (left_closing (begun g at.After-close_if_open told)
    c.close_if_open.ensures.same c.close_if_open.ensures.writes)

pub write_base-requires-clause-fits : goal.write_base-requires-clause-fits
write_base-requires-clause-fits g c =
    let at = goal.at.write_base-requires-clause-fits g c in
    let names = c.pair.inside.found.block.names in
    omega (
      arith,
      few g at.After-close_if_open,
      cap-low names 3,
      c.slot_at.ensures,
      slot_low names (1 - c.pair.inside.found.slot) (other_low c.pair.inside.found.slot),
      c.pair.invariant.0.names_high,
    )

pub write_base-requires-clause-within : goal.write_base-requires-clause-within
write_base-requires-clause-within g c = λ told.
    let at = goal.at.write_base-requires-clause-within g c in
    let names = c.pair.inside.found.block.names in
    let other = 1 - c.pair.inside.found.slot in
    let at_first : IsTrue (g.D.Disk.state c.args.disk.now).tells =
    subst IsTrue c.close_if_open.ensures.writes.stays.told told in
    omega (
      arith,
      base_inside names other (length (g.T.Roll.records c.args.delta.now)) c.slot_at.ensures c.log_top.ensures
          (few g at.After-close_if_open),
      slot_low names other (other_low c.pair.inside.found.slot),
      long g at.After-close_if_open at_first,
      (c.close_if_open.ensures.writes.others at_first).same_length,
    )

pub returns-in_err-write_base-clause-asks : goal.returns-in_err-write_base-clause-asks
returns-in_err-write_base-clause-asks g c =
    rw (← c.pair.view_is) (whole_asks _ _ _ c.pair.inside.found.other_open c.slot_at.ensures c.log_top.ensures
    c.close_if_open.ensures.asks c.write_base.ensures.asks
    (record { weight = omega arith; longest = omega arith }))

pub returns-in_err-write_base-clause-left : goal.returns-in_err-write_base-clause-left
returns-in_err-write_base-clause-left g c =
    let at = goal.at.returns-in_err-write_base-clause-left g c in
    λ told. rw (← c.pair.view_is) (left_filling
    (closed g at.In_ok-close_if_open (begun g at.After-close_if_open told)) (omega (arith, c.slot_at.ensures))
    (base_inside _ _ _ c.slot_at.ensures c.log_top.ensures (few g at.After-close_if_open))
    c.write_base.ensures.writes)

pub open_gate-requires-clause-within : goal.open_gate-requires-clause-within
open_gate-requires-clause-within g c = λ told.
    let at = goal.at.open_gate-requires-clause-within g c in
    let in_middle : IsTrue (g.D.Disk.state c.close_if_open.new.disk).tells =
    subst IsTrue c.write_base.ensures.writes.stays.told told in
    let at_first : IsTrue (g.D.Disk.state c.args.disk.now).tells =
    subst IsTrue c.close_if_open.ensures.writes.stays.told in_middle in
    omega (
      arith,
      long g at.After-close_if_open at_first,
      (c.close_if_open.ensures.writes.others at_first).same_length,
      (c.write_base.ensures.writes.others in_middle).same_length,
    )

pub returns-clause-calls : goal.returns-clause-calls
returns-clause-calls g c = rw (← c.pair.view_is) (record {
  all = on_ok_weaker c.open_gate.result (λ is. omega (
    arith,
    c.in_ok-close_if_open.ensures.calls.all,
    c.in_ok-write_base.ensures.calls.all,
    is,
  )) c.open_gate.ensures.calls.all;
  most = omega (
    arith,
    c.close_if_open.ensures.calls.most,
    c.write_base.ensures.calls.most,
    c.open_gate.ensures.calls.most,
  );
  cause = record {
    later = omega (
      arith,
      c.in_ok-close_if_open.ensures.calls.cause.calm,
      c.in_ok-write_base.ensures.calls.cause.calm,
      c.open_gate.ensures.calls.cause.later,
    );
    rose = on_err_weaker c.open_gate.result (λ is. omega (
      arith,
      c.in_ok-close_if_open.ensures.calls.cause.calm,
      c.in_ok-write_base.ensures.calls.cause.calm,
      is,
    )) c.open_gate.ensures.calls.cause.rose;
    calm = on_ok_weaker c.open_gate.result (λ is. is ∙ c.in_ok-write_base.ensures.calls.cause.calm
        ∙ c.in_ok-close_if_open.ensures.calls.cause.calm) c.open_gate.ensures.calls.cause.calm;
  };
})

pub returns-clause-asks : goal.returns-clause-asks
returns-clause-asks g c =
    rw (← c.pair.view_is) (whole_asks _ _ _ c.pair.inside.found.other_open c.slot_at.ensures c.log_top.ensures
    c.close_if_open.ensures.asks c.write_base.ensures.asks c.open_gate.ensures.asks)

pub returns-clause-done : goal.returns-clause-done
returns-clause-done g c =
    let at = goal.at.returns-clause-done g c in
    λ told.
    let k = written g at.In_ok-write_base
    (closed g at.In_ok-close_if_open (begun g at.After-close_if_open told)) in
    rw (← c.pair.view_is) (on_ok_both c.open_gate.result (save_done k c.open_gate.ensures.writes)
    (c.open_gate.ensures.opened k.told) (c.open_gate.ensures.rests k.told))

pub returns-clause-left : goal.returns-clause-left
returns-clause-left g c =
    let at = goal.at.returns-clause-left g c in
    λ told. rw (← c.pair.view_is) (left_opening
    (written g at.In_ok-write_base (closed g at.In_ok-close_if_open (begun g at.After-close_if_open told)))
    c.open_gate.ensures.writes)
