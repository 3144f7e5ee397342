use Rattle.std.proofs.Common.{◌≡◌, Err, refl, subst, sym}
use Rattle.reopen.specs.Items.{item_step}
use Rattle.reopen.specs.declared.items.Progress.{Progress}
use Rattle.reopen.proofs.TakeLaws.{Leads, cell_stands, gap_stands, gone_stands, if_err, move_stands, on_ok, put_refused, put_stands}
use Rattle.reopen.proofs.items.take_item.Goals as goal

pub returns-in-Cells-clause-taken : goal.returns-in-Cells-clause-taken
returns-in-Cells-clause-taken c = λ p stands.
    let header = c.args.header.now in
    let after = c.take_cell.new.header in
    let load = c.args.load.now in
    let now : Progress = record c.args.progress.now { next = c.take_cell.new.next } in
    on_ok c.take_cell.result (λ read. subst
    (Leads c.args.cap p c.args.item.now c.args.progress.now now header after load load) (sym c.in-Cells.is)
    (λ there. cell_stands c.args.cap p c.args.progress.now now header after load c.args.item.now there read
    refl)
    stands) c.take_cell.ensures.taken

pub returns-in-Moved-clause-taken : goal.returns-in-Moved-clause-taken
returns-in-Moved-clause-taken c = λ p stands.
    let progress = c.args.progress.now in
    let header = c.args.header.now in
    let old = c.args.load.now in
    let new = c.take_move.new.load in
    on_ok c.take_move.result (λ read. subst
    (Leads c.args.cap p c.args.item.now progress progress header header old new) (sym c.in-Moved.is)
    (λ there. move_stands c.args.cap p progress header old new c.args.item.now there read) stands)
    c.take_move.ensures.taken

pub returns-in-Gone-clause-taken : goal.returns-in-Gone-clause-taken
returns-in-Gone-clause-taken c = λ p stands.
    let progress = c.args.progress.now in
    let header = c.args.header.now in
    let old = c.args.load.now in
    let new = c.take_name.new.load in
    on_ok c.take_name.result (λ read. subst
    (Leads c.args.cap p c.args.item.now progress progress header header old new) (sym c.in-Gone.is)
    (λ there. gone_stands c.args.cap p progress header old new c.args.item.now there read) stands)
    c.take_name.ensures.taken

pub returns-in-Puts-clause-taken : goal.returns-in-Puts-clause-taken
returns-in-Puts-clause-taken c = λ p stands.
    let header = c.args.header.now in
    let old = c.args.load.now in
    let new = c.take_record.new.load in
    let now : Progress = record c.args.progress.now { over = c.take_record.new.over } in
    on_ok c.take_record.result (λ put. subst
    (Leads c.args.cap p c.args.item.now c.args.progress.now now header header old new) (sym c.in-Puts.is)
    (λ there. put_stands c.args.cap p c.args.progress.now now header old new c.args.item.now put.0 there put.1
    put.2 refl) stands) (c.take_record.ensures.taken p.rows stands.rows)

pub returns-in-Puts-clause-refused : goal.returns-in-Puts-clause-refused
returns-in-Puts-clause-refused c = λ p stands.
    if_err c.take_record.result
    (λ fault read. subst (λ part. item_step part p c.args.item.now ≡ Err fault) (sym c.in-Puts.is)
    (put_refused p c.args.item.now fault read)) (c.take_record.ensures.refused p.rows)

pub returns-in-Gap-clause-taken : goal.returns-in-Gap-clause-taken
returns-in-Gap-clause-taken c = λ p stands.
    let progress = c.args.progress.now in
    let header = c.args.header.now in
    let load = c.args.load.now in
    on_ok c.take_gap.result (λ read. subst
    (Leads c.args.cap p c.args.item.now progress progress header header load load) (sym c.in-Gap.is)
    (λ there. gap_stands c.args.cap p progress header load c.args.item.now there read) stands)
    c.take_gap.ensures.taken
