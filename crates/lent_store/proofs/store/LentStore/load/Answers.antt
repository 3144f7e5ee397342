use Rattle.std.proofs.Common.{◌∙◌, Err, List, ℕ, ap, arith, refl, subst}
use Rattle.disk_history.specs.Histories.{fresh}
use Rattle.lent_disk.specs.Disks.{lent_state}
use Rattle.lent_disk.specs.Notings.{Noting, lent}
use Rattle.load_stream.specs.Loaded.{AnswersLoad}
use Rattle.lent_store.proofs.StopLaws.{from_none}
use Rattle.lent_store.proofs.StreamLaws.{fresh_by, loaded_by, not_loaded, not_reopened, noted_by}
use Rattle.lent_store.proofs.store.LentStore.load.Goals as goal

pub returns-in-Ok-clause-loaded : goal.returns-in-Ok-clause-loaded
returns-in-Ok-clause-loaded c =
    let most = c.args.room.most in
    let log_room = c.args.log.most in
    let begun = from_none c.new-disk.result most log_room (lent_state c.load.new.disk) _
    (c.new-disk.ensures ∙ ap (λ (file : List ℕ). lent file most log_room) c.requires.empty)
    (c.load.ensures.left refl).images in
    loaded_by c.args.k c.args.names c.new-input.ensures _ _ c.load.new.disk c.in-Ok.ensures.whole
    (c.in-Ok.ensures.left refl).file (c.in-Ok.ensures.left refl).rests most log_room begun
    c.open_loaded.result c.open_loaded.ensures.opened
    (noted_by c.new-disk.result c.load.new.disk c.open_loaded.result c.load.ensures.frame.stays.same_mount
    (ap (λ (n : Noting). n.start) c.new-disk.ensures ∙ ap fresh c.requires.empty) c.open_loaded.ensures.noted
    c.open_loaded.ensures.ended)

pub returns-in-Ok-clause-fresh : goal.returns-in-Ok-clause-fresh
returns-in-Ok-clause-fresh c = fresh_by c.load.new.disk c.open_loaded.result c.open_loaded.ensures.opened

pub returns-in-Ok-clause-noted : goal.returns-in-Ok-clause-noted
returns-in-Ok-clause-noted c =
    noted_by c.new-disk.result c.load.new.disk c.open_loaded.result c.load.ensures.frame.stays.same_mount
    (ap (λ (n : Noting). n.start) c.new-disk.ensures ∙ ap fresh c.requires.empty) c.open_loaded.ensures.noted
    c.open_loaded.ensures.ended

pub returns-in-Ok-clause-refused : goal.returns-in-Ok-clause-refused
returns-in-Ok-clause-refused c =
    let most = c.args.room.most in
    let log_room = c.args.log.most in
    let begun = from_none c.new-disk.result most log_room (lent_state c.load.new.disk) _
    (c.new-disk.ensures ∙ ap (λ (file : List ℕ). lent file most log_room) c.requires.empty)
    (c.load.ensures.left refl).images in
    not_reopened c.args.k c.args.names c.new-input.ensures _ _ c.load.new.disk c.in-Ok.ensures.whole
    (c.in-Ok.ensures.left refl).file (c.in-Ok.ensures.left refl).rests most log_room begun c.args.room
    c.args.log c.new-disk.ensures c.load.ensures.frame.stays.same_mount
    (c.in-Ok.ensures.causes.disk_cause.calm (λ is. absurd (cc))) (c.in-Ok.ensures.asks refl)
    c.open_loaded.result c.open_loaded.ensures.refused

pub returns-in-Err-clause-refused : goal.returns-in-Err-clause-refused
returns-in-Err-clause-refused c = record {
  read = λ is. omega (arith, c.in-Err.ensures.causes.source_cause.rose (λ i. Err (is i)));
  judged = λ judges. subst (λ (t : List ℕ). AnswersLoad c.args.names t (Err c.in-Err.fault))
      c.new-input.ensures (c.in-Err.ensures.answers refl);
  lacks = not_loaded c.args.k c.args.names c.new-input.ensures c.args.room c.args.log c.new-disk.result
      c.load.new.disk c.new-disk.ensures c.load.ensures.frame.stays.same_mount c.is_noted.ensures.cause
      c.in-Err.fault (λ is. c.in-Err.ensures.causes.disk_cause.rose (λ i. Err (is i))) (c.in-Err.ensures.asks refl);
}
