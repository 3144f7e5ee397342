use Rattle.std.proofs.Common.{arith, sym, subst}
use Rattle.std.proofs.lemmas.Grind.{common_steps}
use Rattle.reopen.specs.Loads.{IsReadIn, KeepsLoadedIn}
use Rattle.reopen.specs.Refusals.{BreaksLaid}
use Rattle.reopen.specs.Tables.{IsCheckedLayout}
use Rattle.reopen.proofs.StateLaws.{breaks_laid, keeps_loaded, loaded_with, read_from}
use Rattle.reopen.proofs.state.load_slot.Goals as goal

pub returns-in-Ok-clause-opened : goal.returns-in-Ok-clause-opened
returns-in-Ok-clause-opened g c = λ told.
    let file = (g.D.Disk.state c.args.disk.now).file in
    let r = c.in_ok-found.field-0 in
    subst (λ slots. IsReadIn c.args.logged file (record (loaded_with r c.in-Ok.layout.value) { slots = slots }))
    (sym c.of.ensures)
    (read_from c.args.logged file r c.in-Ok.layout.value (c.in_ok-found.ensures.told told)
    (subst (λ h. IsCheckedLayout r.found.block.k r.data_len h r.table.now c.in-Ok.layout.value)
    c.deref.ensures
    c.in-Ok.ensures.layout))

pub returns-in-Ok-clause-loaded : goal.returns-in-Ok-clause-loaded
returns-in-Ok-clause-loaded g c =
    let r = c.in_ok-found.field-0 in
    subst (λ slots. KeepsLoadedIn c.args.logged (record (loaded_with r c.in-Ok.layout.value) { slots = slots }))
    (sym c.of.ensures)
    (keeps_loaded c.args.logged r c.in-Ok.layout.value c.in_ok-found.ensures.read
    (subst (λ h. IsCheckedLayout r.found.block.k r.data_len h r.table.now c.in-Ok.layout.value)
    c.deref.ensures
    c.in-Ok.ensures.layout))

pub returns-in-Err-clause-refused : goal.returns-in-Err-clause-refused
returns-in-Err-clause-refused g c = λ told.
    let r = c.in_ok-found.field-0 in
    breaks_laid c.args.logged g.row.C (g.D.Disk.state c.args.disk.now).file r c.in-Err.fault
    (c.in_ok-found.ensures.told told)
    (subst (λ h. BreaksLaid g.row.C r.found.block.k r.data_len h r.table.now c.in-Err.fault) c.deref.ensures
    c.in-Err.ensures.broken)

pub returns-in_err-found : goal.returns-in_err-found
returns-in_err-found g c = grind (arith, common_steps)
