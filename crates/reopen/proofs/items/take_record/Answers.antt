use Rattle.std.proofs.Common.{◌≤◌, ◌∙◌, ap, arith, subst, sym}
use Rattle.std.specs.FinMap as fin
use Rattle.slot_codec.specs.Rows.{with_row}
use Rattle.extent_table.specs.Extents.{Extents, Spots}
use Rattle.reopen.proofs.TakeLaws.{nothing_there, put_few, put_over, put_set, put_taken}
use Rattle.reopen.proofs.items.take_record.Goals as goal
use Rattle.reopen.proofs.items.take_record.Goals.{else-not-has-via-then-not-has+else-cap-count, else-not-has-via-else-not-has}

pub returns-then-cap-count-clause-taken : goal.returns-then-cap-count-clause-taken
returns-then-cap-count-clause-taken c = λ rows are.
    let r = c.in_ok-record.record in
    let none = nothing_there (fin.get c.args.load.now.now r.name) c.has.result c.has.ensures.1
    c.if-not-has.true in (
      with_row rows r,
      put_taken c.args.item.now r rows (sym c.record_in.ensures.value ∙ c.in_ok-record.was),
      put_over c.args.cap c.args.over.now rows r c.args.load.now c.requires.table are none
          (omega (arith, c.if-cap-count.true, c.count.ensures.value)),
    )

pub returns-clause-taken : goal.returns-clause-taken
returns-clause-taken c = λ rows are.
    let r = c.in_ok-record.record in (
      with_row rows r,
      put_taken c.args.item.now r rows (sym c.record_in.ensures.value ∙ c.in_ok-record.was),
      put_set c.args.cap c.args.over.now rows r c.args.load.now c.set.new.self c.requires.table
          c.set.ensures.table are c.in_ok-record.ensures.digested (ap (λ (e : Extents). e.now)
          c.set.ensures.only)
          (ap (λ (e : Extents). e.digests) c.set.ensures.only),
    )

pub returns-clause-few : goal.returns-clause-few
returns-clause-few c = λ few.
    let r = c.in_ok-record.record in
    subst (λ (m : Spots). fin.len m ≤ c.args.cap) (sym (ap (λ (e : Extents). e.now) c.set.ensures.only))
    (put_few c.args.cap c.args.load.now.now r.name (record { place = r.place; size = r.size }) few
    (elim c.else-not-has.branch [
      | else-not-has-via-then-not-has+else-cap-count w ↦
          λ none. omega (arith, w.if-cap-count.false, w.count.ensures.value)
      | else-not-has-via-else-not-has w ↦
          λ none. let some = c.has.ensures.0 w.if-not-has.false in absurd (cc)
    ]))
