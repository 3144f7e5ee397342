use Rattle.std.proofs.Common.{◌∙◌, ap, inl, refl, rules, subst, List, [], ℕ}
use Rattle.std.specs.Prelude.{IsErr}
use Rattle.disk_face.specs.Counts.{Rose}
use Rattle.disk_face.specs.Frames.{Asks}
use Rattle.slot_codec.specs.Spelling.{head_len}
use Rattle.lent_disk.specs.Disks.{lent_state}
use Rattle.lent_disk.specs.Notings.{Noting, lent}
use Rattle.slot_pair.specs.Formats.{IsNoStoreOrEmpty}
use Rattle.lent_store.specs.Made.{IsFormatImage, format_weight}
use Rattle.lent_store.specs.Noted.{IsNotedOf}
use Rattle.lent_store.proofs.CauseLaws.{not_formatted, not_opened}
use Rattle.lent_store.proofs.MadeLaws.{done_ok, failed_err, made, made_left, opening_noted}
use Rattle.lent_store.proofs.StopLaws.{from_none, stops_from}
use Rattle.lent_store.proofs.store.LentStore.format.Goals as goal

pub returns-in-Ok-clause-made : goal.returns-in-Ok-clause-made
returns-in-Ok-clause-made c =
    let a = lent_state c.format.new.disk in
    let calm : IsErr c.format.result → ⊥ = λ bad. absurd (search rules) in
    let noted = subst (λ (file : List ℕ). IsNotedOf file (record {
      store = c.in-Ok.store;
      noting = c.open-opened.new.disk;
    })) c.requires.empty
    (opening_noted c.args.room.file c.args.room.most c.args.log.most c.in-Ok.store
    c.open-opened.new.disk
    (c.open-opened.ensures.frame.stays.same_mount ∙ c.format.ensures.frame.stays.same_mount
    ∙ ap (λ (n : Noting). (lent_state n).last_mount) c.new-disk.ensures) c.is_noted-2.ensures.log
    c.is_noted-2.ensures.ended) in
    let is = done_ok c.format.result calm (c.format.ensures.formatted refl) in
    let first = done_ok c.format.result calm (c.format.ensures.table refl) in
    let rests = done_ok c.format.result calm (c.format.ensures.rests refl) in
    let most = c.args.room.most in
    let log_room = c.args.log.most in
    let left = made_left c.args.k c.args.names a c.in-Ok.store c.open-opened.new.disk is first refl
    c.in-Ok.ensures (lent_state (lent [] most log_room)) rests
    (from_none c.new-disk.result most log_room a (IsNoStoreOrEmpty c.args.k c.args.names)
    (c.new-disk.ensures ∙ ap (λ (file : List ℕ). lent file most log_room) c.requires.empty)
    (c.format.ensures.images refl)) in
    made c.args.k c.args.names a c.in-Ok.store c.open-opened.new.disk is first rests refl c.in-Ok.ensures
    noted
    (stops_from [] most log_room (IsFormatImage c.args.k c.args.names)
    (record { store = c.in-Ok.store; noting = c.open-opened.new.disk }) noted (inl refl) left)

pub returns-in-Err-clause-refused : goal.returns-in-Err-clause-refused
returns-in-Err-clause-refused c =
    let calm : IsErr c.format.result → ⊥ = λ bad. absurd (search rules) in
    let start = c.new-disk.ensures in
    let mid = lent_state c.format.new.disk in
    not_opened c.args.room c.args.log c.open-opened.new.disk
    (c.open-opened.ensures.frame.stays.same_mount ∙ c.format.ensures.frame.stays.same_mount
    ∙ ap (λ (n : Noting). (lent_state n).last_mount) start) c.is_noted-2.ensures.cause c.args.k c.args.names mid
    c.in-Err.fault (done_ok c.format.result calm (c.format.ensures.formatted refl))
    (done_ok c.format.result calm (c.format.ensures.table refl)) refl
    (done_ok c.format.result calm c.format.ensures.calls.cause.calm
    ∙ ap (λ (n : Noting). n.history.faults) start)
    (subst (λ (n : Noting). Asks format_weight (head_len c.args.names) (lent_state n) mid) start
    c.format.ensures.asks) c.in-Err.ensures

pub returns-then-is_err-clause-refused : goal.returns-then-is_err-clause-refused
returns-then-is_err-clause-refused c =
    let bad : IsErr c.format.result = search rules in
    let start = c.new-disk.ensures in
    let now = c.format.new.disk in
    not_formatted c.args.room c.args.log now
    (c.format.ensures.frame.stays.same_mount ∙ ap (λ (n : Noting). (lent_state n).last_mount) start)
    c.is_noted.ensures.cause c.args.names
    (subst (λ (n : Noting). Rose n.history.faults now.history.faults) start
    (failed_err c.format.result bad c.format.ensures.calls.cause.rose))
    (subst (λ (n : Noting). Asks format_weight (head_len c.args.names) (lent_state n) (lent_state now)) start
    c.format.ensures.asks)
