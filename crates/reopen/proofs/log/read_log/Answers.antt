use Rattle.std.proofs.Common.{◌+◌, ◌≤◌, ◌∙◌, IfSome, Ok, ap, arith, rules, subst, sym}
use Rattle.std.specs.Prelude.{option_map}
use Rattle.slot_codec.specs.declared.codec.Header.{Header}
use Rattle.extent_table.specs.Extents.{Extents}
use Rattle.reopen.specs.Logs.{IsPlace, logged_of}
use Rattle.reopen.proofs.ThroughLaws.{log_done, log_more, log_none, log_refused}
use Rattle.reopen.proofs.log.read_log.Goals as goal

pub entries-init : goal.entries-init
entries-init g c = (
  c.requires.room,
  log_none c.args.cap c.args.top c.args.at c.args.header.now c.args.load.now (g.D.Disk.state c.args.disk.now)
      c.requires.ready c.requires.place c.requires.making,
)

pub entries-preserved : goal.entries-preserved
entries-preserved g c =
    let top = c.args.top in
    let end = c.entries.end in
    let after = logged_of c.next_entry.new.header c.next_entry.new.load in
    let next = subst (λ o. IfSome o (λ n. (end + 512 ≤ n) × IsPlace n top)) c.in-Some.is
    c.in_ok-next.ensures.next in (
      omega (arith, c.next_entry.auto.buf, c.entries.invariant.0),
      log_more c.args.cap top c.args.at end c.in-Some.next c.args.header.now c.entries.header
          c.next_entry.new.header c.args.load.now c.entries.load c.next_entry.new.load
          (g.D.Disk.state c.args.disk.now) (g.D.Disk.state c.entries.disk)
          (g.D.Disk.state c.next_entry.new.disk) c.entries.invariant.1 next.0 next.1
          c.in_ok-next.ensures.making c.next_entry.ensures.rest
          (λ told. c.in_ok-next.ensures.read told
          ∙ ap (λ o. Ok (option_map (λ n. (after, n)) o)) c.in-Some.is)
          c.next_entry.ensures.frame (c.in_ok-next.ensures.cause.calm (λ e. cc)),
    )

pub returns-in_err-next-clause-refused : goal.returns-in_err-next-clause-refused
returns-in_err-next-clause-refused g c = λ told.
    let bad = log_refused c.args.cap c.args.top c.args.at c.entries.end c.args.header.now c.entries.header
    c.args.load.now c.entries.load (g.D.Disk.state c.args.disk.now) (g.D.Disk.state c.entries.disk)
    c.in_err-next.field-0.0 c.entries.invariant.1 c.in_err-next.ensures.refused told in
    search rules

pub returns-clause-read : goal.returns-clause-read
returns-clause-read g c = λ told.
    let after = logged_of c.next_entry.new.header c.next_entry.new.load in
    let same = c.in_ok-next.ensures.none c.in_default.is in
    log_done c.args.cap c.args.top c.args.at c.entries.end c.args.header.now c.entries.header
    c.args.load.now c.entries.load (g.D.Disk.state c.args.disk.now) (g.D.Disk.state c.entries.disk)
    c.entries.invariant.1
    (λ there. c.in_ok-next.ensures.read there ∙ ap (λ o. Ok (option_map (λ n. (after, n)) o)) c.in_default.is)
    told
    ∙ ap (λ (h : Header). Ok (logged_of h c.entries.load, c.entries.end)) (sym same.0)
    ∙ ap (λ (e : Extents). Ok (logged_of c.next_entry.new.header e, c.entries.end)) (sym same.1)
