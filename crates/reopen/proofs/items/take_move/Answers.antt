use Rattle.std.proofs.Common.{◌∙◌, ap, arith, rules, sym}
use Rattle.slot_codec.specs.Logs.{read_move}
use Rattle.reopen.proofs.TakeLaws.{IsMoved, is_moved, move_refused, move_taken, moved_count, moved_keeps}
use Rattle.reopen.proofs.items.take_move.Goals as goal

moved : (c : goal.After-relocate)
    → IsMoved c.in_ok-rank.rank c.in_ok-rank.place c.args.load.now c.relocate.new.self
moved c = is_moved c.in_ok-rank.rank c.in_ok-rank.place c.args.load.now c.relocate.new.self
    (omega (arith, c.in_ok-rank.ensures.there, c.count.ensures.value)) c.relocate.ensures.only

pub returns-in_err-rank-clause-refused : goal.returns-in_err-rank-clause-refused
returns-in_err-rank-clause-refused c =
    let read = ap (λ n. read_move n c.args.item.now) (sym c.count.ensures.value)
    ∙ sym c.read_move.ensures.value ∙ c.in_err-rank.was in
    let bad = move_refused c.args.item.now c.in_err-rank.field-0.0 c.args.load.now c.requires.table read in
    search rules

pub returns-clause-taken : goal.returns-clause-taken
returns-clause-taken c =
    let read = ap (λ n. read_move n c.args.item.now) (sym c.count.ensures.value)
    ∙ sym c.read_move.ensures.value ∙ c.in_ok-rank.was in
    move_taken c.args.item.now (c.in_ok-rank.rank, c.in_ok-rank.place) c.args.load.now c.relocate.new.self
    c.requires.table c.relocate.ensures.table read (moved c)

pub returns-clause-rest : goal.returns-clause-rest
returns-clause-rest c = moved_keeps c.in_ok-rank.rank c.in_ok-rank.place c.args.load.now c.relocate.new.self
    (moved c)

pub returns-clause-few : goal.returns-clause-few
returns-clause-few c = moved_count c.in_ok-rank.rank c.in_ok-rank.place c.args.load.now c.relocate.new.self
    c.requires.table (moved c)
