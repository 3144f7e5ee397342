use Rattle.std.proofs.Common.{◌≡◌, ◌∙◌, ◌-◌, ◌≤◌, IsTrue, Err, Ok, ap, arith, length, rules, subst, sym}
use Rattle.std.proofs.lemmas.Grind.{common_steps}
use Rattle.slot_codec.specs.Choice.{InUse}
use Rattle.slot_codec.proofs.CapLaws.{records_fit}
use Rattle.slot_codec.proofs.ChoiceLaws.{in_use_long, slot_low}
use Rattle.slot_codec.proofs.SlotLaws.{other_low}
use Rattle.slot_codec.specs.Spelling.{cap, head_len}
use Rattle.slot_pair.specs.Finding.{in_use_of}
use Rattle.slot_pair.specs.Saves.{IsSaveDone, SaveLeaves}
use Rattle.slot_pair.proofs.SavePhases.{Begins, IsClosed, IsWritten, is_closed, is_written, left_closing, left_filling, left_opening, save_done}
use Rattle.slot_pair.proofs.pair.SlotPair.save.Given.{Over}
use Rattle.slot_pair.proofs.pair.SlotPair.save.Goals as goal
use Rattle.slot_pair.proofs.pair.SlotPair.save.Goals.{After-close_other, In_ok-close_other, In_ok-write_table}

-- the save begins
begun : (g : Over) (c : After-close_other g) → IsTrue (g.D.Disk.state c.args.disk.now).tells
    → Begins (in_use_of c.self.inside.found) c.args.header.now (g.R.Roll.records c.args.roll.now)
    (g.D.Disk.state c.args.disk.now)
begun g c told =
    let view = c.self.view_is in
    record {
      told = told;
      in_use = c.requires.in_use told ∙ ap (λ x. Ok x) (sym view);
      names = c.self.invariant.0.names_high;
      sequence = omega (arith, c.requires.save.fresh, ap (λ (u : InUse). u.sequence) view);
      few = omega (
        arith,
        c.requires.save.count,
        ap
            (λ (u : InUse). cap u.block.names c.args.header.now.version) view,
      );
      version = c.requires.save.version;
      whole = c.header_is_whole.ensures;
      numbers = c.requires.save.ranges;
      roll = g.met.R.Roll.in_order c.args.roll.now;
      ranges = c.requires.save.records;
      digests = g.met.R.Roll.digested c.args.roll.now;
    }

-- the other slot is closed
closed : (g : Over) (c : In_ok-close_other g)
    → Begins (in_use_of c.self.inside.found) c.args.header.now (g.R.Roll.records c.args.roll.now)
    (g.D.Disk.state c.args.disk.now)
    → IsClosed (in_use_of c.self.inside.found) c.args.header.now (g.R.Roll.records c.args.roll.now)
    (g.D.Disk.state c.args.disk.now) (g.D.Disk.state c.close_other.new.disk)
closed g c begins = is_closed begins c.close_other.ensures.writes c.in_ok-close_other.ensures.closed
    c.in_ok-close_other.ensures.rests

-- the table is written behind it
written : (g : Over) (c : In_ok-write_table g)
    → IsClosed (in_use_of c.self.inside.found) c.args.header.now (g.R.Roll.records c.args.roll.now)
    (g.D.Disk.state c.args.disk.now) (g.D.Disk.state c.close_other.new.disk)
    → IsWritten (in_use_of c.self.inside.found) c.args.header.now (g.R.Roll.records c.args.roll.now)
    (g.D.Disk.state c.args.disk.now) (g.D.Disk.state c.write_table.new.disk)
written g c is = is_written c.slot_at.ensures c.count.ensures is c.write_table.ensures.writes
    c.in_ok-write_table.ensures.table c.in_ok-write_table.ensures.rests

-- the records that are written lie within the slot's bytes for them
pub write_table-requires-clause-fits : goal.write_table-requires-clause-fits
write_table-requires-clause-fits g c =
    let u = in_use_of c.self.inside.found in
    let v = c.args.header.now.version in
    let rs = g.R.Roll.records c.args.roll.now in
    let few : length rs ≤ cap u.block.names v =
    omega (arith, c.requires.save.count, ap (λ (x : InUse). cap x.block.names v) c.self.view_is) in
    omega (
      arith,
      records_fit u.block.names v (length rs) few,
      slot_low u.block.names (1 - u.slot) (other_low u.slot),
      c.slot_at.ensures,
      c.self.invariant.0.names_high,
    )

pub write_table-requires-clause-within : goal.write_table-requires-clause-within
write_table-requires-clause-within g c = λ told.
    let u = in_use_of c.self.inside.found in
    let v = c.args.header.now.version in
    let rs = g.R.Roll.records c.args.roll.now in
    let at_first : IsTrue (g.D.Disk.state c.args.disk.now).tells =
    subst IsTrue c.close_other.ensures.writes.stays.told told in
    let few : length rs ≤ cap u.block.names v =
    omega (arith, c.requires.save.count, ap (λ (x : InUse). cap x.block.names v) c.self.view_is) in
    omega (
      arith,
      records_fit u.block.names v (length rs) few,
      slot_low u.block.names (1 - u.slot) (other_low u.slot),
      c.slot_at.ensures,
      in_use_long _ _ (c.requires.in_use at_first),
      ap (λ (x : InUse). head_len x.block.names) c.self.view_is,
      (c.close_other.ensures.writes.others at_first).same_length,
    )

pub close_other-requires : goal.close_other-requires
close_other-requires g c =
    let long : IsTrue (g.D.Disk.state c.args.disk.now).tells
    → head_len c.args.self.now.block.names ≤ length (g.D.Disk.state c.args.disk.now).file =
    λ told. in_use_long _ _ (c.requires.in_use told) in
    grind (arith, common_steps, long)

pub slot_at-requires : goal.slot_at-requires
slot_at-requires g c = grind (arith, common_steps)

pub open_gate-requires : goal.open_gate-requires
open_gate-requires g c =
    let long : IsTrue (g.D.Disk.state c.args.disk.now).tells
    → head_len c.args.self.now.block.names ≤ length (g.D.Disk.state c.args.disk.now).file =
    λ told. in_use_long _ _ (c.requires.in_use told) in
    grind (arith, common_steps, long)

-- Each exit is answered whole, with what is left there.
pub returns-in_err-close_other : goal.returns-in_err-close_other
returns-in_err-close_other g c =
    let at = goal.at.returns-in_err-close_other g c in
    let left : IsTrue (g.D.Disk.state c.args.disk.now).tells
    → SaveLeaves c.args.self.now c.args.header.now (g.R.Roll.records c.args.roll.now)
    (g.D.Disk.state c.args.disk.now) (g.D.Disk.state c.close_other.new.disk) =
    λ told. rw (← c.self.view_is) (left_closing (begun g at.After-close_other told)
    c.close_other.ensures.writes)
    in
    grind (arith, common_steps, left)

pub returns-in_err-write_table : goal.returns-in_err-write_table
returns-in_err-write_table g c =
    let at = goal.at.returns-in_err-write_table g c in
    let left : IsTrue (g.D.Disk.state c.args.disk.now).tells
    → SaveLeaves c.args.self.now c.args.header.now (g.R.Roll.records c.args.roll.now)
    (g.D.Disk.state c.args.disk.now) (g.D.Disk.state c.write_table.new.disk) =
    λ told. rw (← c.self.view_is) (left_filling c.slot_at.ensures
    (closed g at.In_ok-close_other (begun g at.After-close_other told)) c.write_table.ensures.writes)
    in
    grind (arith, common_steps, left)

-- Here grind stops at its limit, so each clause is named.
pub returns-in_err-open_gate : goal.returns-in_err-open_gate
returns-in_err-open_gate g c =
    let at = goal.at.returns-in_err-open_gate g c in
    let is : c.from_residual-in_err-open_gate.result ≡ Err c.in_err-open_gate.field-0.0 = search rules in
    record {
      pair = grind (arith, common_steps);
      same_pair = grind (arith, common_steps);
      calls = record {
        all = grind (arith, common_steps);
        most = omega (
          arith,
          c.in_ok-close_other.ensures.calls.all,
          c.in_ok-write_table.ensures.calls.all,
          c.open_gate.ensures.calls.most,
        );
        cause = record {
          later = omega (
            arith,
            c.in_ok-close_other.ensures.calls.cause.calm,
            c.in_ok-write_table.ensures.calls.cause.calm,
            c.open_gate.ensures.calls.cause.later,
          );
          rose = rw (is) (omega (
            arith,
            c.in_ok-close_other.ensures.calls.cause.calm,
            c.in_ok-write_table.ensures.calls.cause.calm,
            c.in_err-open_gate.ensures.calls.cause.rose,
          ));
          calm = grind (arith);
        };
      };
      asks = record {
        weight = omega (
          arith,
          c.close_other.ensures.asks.weight,
          c.write_table.ensures.asks.weight,
          c.open_gate.ensures.asks.weight,
        );
        longest = omega (
          arith,
          c.close_other.ensures.asks.longest,
          c.write_table.ensures.asks.longest,
          c.open_gate.ensures.asks.longest,
        );
      };
      done = grind (arith, common_steps);
      left = λ told. rw (← c.self.view_is) (left_opening (written g at.In_ok-write_table
          (closed g at.In_ok-close_other (begun g at.After-close_other told))) c.open_gate.ensures.writes);
      frame = grind (arith, common_steps);
    }

pub returns : goal.returns
returns g c =
    let at = goal.at.returns g c in
    let was : IsTrue (g.D.Disk.state c.args.disk.now).tells
    → IsWritten (in_use_of c.self.inside.found) c.args.header.now (g.R.Roll.records c.args.roll.now)
    (g.D.Disk.state c.args.disk.now) (g.D.Disk.state c.write_table.new.disk) =
    λ told. written g at.In_ok-write_table
    (closed g at.In_ok-close_other (begun g at.After-close_other told)) in
    let left : IsTrue (g.D.Disk.state c.args.disk.now).tells
    → SaveLeaves c.args.self.now c.args.header.now (g.R.Roll.records c.args.roll.now)
    (g.D.Disk.state c.args.disk.now) (g.D.Disk.state c.open_gate.new.disk) =
    λ told. rw (← c.self.view_is) (left_opening (was told) c.open_gate.ensures.writes) in
    let done : IsTrue (g.D.Disk.state c.args.disk.now).tells
    → IsSaveDone c.args.self.now c.args.header.now (g.R.Roll.records c.args.roll.now)
    (g.D.Disk.state c.open_gate.new.disk) =
    λ told. rw (← c.self.view_is) (save_done (was told) c.open_gate.ensures.writes
    c.in_ok-open_gate.ensures.opened c.in_ok-open_gate.ensures.rests) in
    grind (arith, common_steps, left, done)
