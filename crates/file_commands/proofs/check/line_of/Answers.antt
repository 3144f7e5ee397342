use Rattle.std.proofs.Common.{◌∙◌, ◌++◌, ap, arith, rules, sym}
use Rattle.std.specs.Prelude.{None}
use Rattle.reopen.specs.Loads.{table_seen, unboxed}
use Rattle.file_commands.proofs.TextLaws.{check_line, records_count, records_volume}
use Rattle.file_commands.proofs.check.line_of.Goals as goal

pub returns : goal.returns
returns c =
    let x = unboxed c.args.loaded.now in
    check_line (table_seen x None) c.args.length c.count-count.result c.volume.result
    c.saturating_sub-data.result c.push.new.piece.items c.push_three.new.piece.items
    c.push_three-2.new.piece.items
    c.push-2.new.piece.items
    (c.count-count.ensures.value ∙ sym (records_count x c.requires.loaded))
    (c.volume.ensures ∙ sym (records_volume x c.requires.loaded))
    (grind (arith, c.head_len.ensures)) (search rules) c.push_three.ensures.digits
    (rw c.deref.ensures at c.push_three-2.ensures.digits)
    (c.push-2.ensures
    ∙ ap (λ xs. c.push_three-2.new.piece.items ++ xs) (rw c.deref-2.ensures at c.kind_text.ensures.text))
