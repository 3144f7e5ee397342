use Rattle.std.proofs.Common.{◌∙◌, ap, arith, if◌then◌else◌, IsTrue, Ok, subst, sym}
use Rattle.slot_codec.specs.Choice.{is_open}
use Rattle.slot_codec.specs.Logs.{log_end}
use Rattle.slot_codec.proofs.CapLaws.{cap-low}
use Rattle.logged_pair.proofs.NextLaws.{found_log, found_none}
use Rattle.logged_pair.proofs.pair.LoggedPair.find.Goals as goal

pub first_gate-gate-requires-clause-count : goal.first_gate-gate-requires-clause-count
first_gate-gate-requires-clause-count g c = omega (
  arith,
  c.in_ok-header.ensures.readable.count,
  cap-low c.args.found.now.block.names c.in_ok-header.header.version,
  c.requires.ranges.names_high,
)

pub returns-then-top-gate-clause-found : goal.returns-then-top-gate-clause-found
returns-then-top-gate-clause-found g c = λ told.
    found_none (g.D.Disk.state c.args.disk.now).file c.args.found.now c.in_ok-header.header
    (c.requires.found told) (c.in_ok-header.ensures.header told)
    (omega (arith, c.if-top-gate.true, c.first_gate-gate.ensures, c.log_top-top.ensures))
    ∙ ap Ok (sym c.of.ensures)

pub returns-clause-found : goal.returns-clause-found
returns-clause-found g c = λ told.
    let file = (g.D.Disk.state c.args.disk.now).file in
    let read = c.read_header_in.ensures.frame in
    let next = subst IsTrue (sym read.stays.told) told in
    let end = c.find_log_end.ensures.frame in
    let last = subst IsTrue (sym end.stays.told) next in
    let ends = c.in_ok-log.ensures.found next in
    found_log file c.args.found.now c.in_ok-header.header c.in_ok-log.log.entries c.in_ok-log.log.end
    c.in_ok-end.end (c.requires.found told) (c.in_ok-header.ensures.header told)
    (omega (arith, c.if-top-gate.false, c.first_gate-gate.ensures, c.log_top-top.ensures))
    ((λ i. log_end (sym (read.same_file told) i) (sym c.log_top-top.ensures i) (sym c.first_gate-gate.ensures i))
    ∙ ends)
    (c.in_ok-end.ensures.end last
    ∙ ap (λ f. if is_open f c.in_ok-log.log.end then 0 else c.in_ok-log.log.end)
    (end.same_file next ∙ read.same_file told))
    ∙ ap Ok (sym c.of-2.ensures)
