use Rattle.std.proofs.Common.{◌≡◌, ◌+◌, IsTrue, List, ℕ, subst, sym, ap, ◌∙◌, inr}
use Rattle.std.specs.Prelude.{◌⊎◌}
use Rattle.std.proofs.lemmas.Result.{on_ok_weaker}
use Rattle.byte_ranges.specs.Ranges.{resized}
use Rattle.disk_face.proofs.MomentLaws.{Leaves-trans}
use Rattle.disk_face.specs.Moments.{Follows, Only, ResizedImage}
use Rattle.flush_run.specs.Settling.{IsSettled}
use Rattle.flush_run.proofs.SettleLaws.{content_is_new, cut_held, settled, sync_held}
use Rattle.slot_pair.specs.Saves.{next_in_use}
use Rattle.logged_pair.specs.Slots.{used_in}
use Rattle.flush_run.proofs.settle.settle_mid_flush.Goals as goal

pub returns-in_err-save_mid_flush-clause-left : goal.returns-in_err-save_mid_flush-clause-left
returns-in_err-save_mid_flush-clause-left g c f end told len s cut was = c.save_mid_flush.ensures.left f told
    s was

pub returns-in_err-set_len-clause-left : goal.returns-in_err-set_len-clause-left
returns-in_err-set_len-clause-left g c f end told len s cut was fresh =
    let D = g.D.Disk in
    let a = D.state c.save_mid_flush.new.disk in
    let b = D.state c.set_len.new.self in
    let u = used_in c.args.hands.now.slots in
    let t = c.args.hands.now.table in
    let h = c.args.header.now in
    let saved = c.in_ok-save_mid_flush.ensures.opened f told c.requires.fresh s was in
    let told1 : IsTrue a.tells = subst IsTrue (sym c.save_mid_flush.ensures.keeps.disk.stays.told) told in
    let follows : Follows (ResizedImage (f.base + end)) a.may_leave b.may_leave =
    subst (λ x. Follows (ResizedImage x) a.may_leave b.may_leave) (sym len) c.set_len.ensures.frame.images
    in
    let either : (b.file ≡ a.file) ⊎ (b.file ≡ resized a.file (f.base + end)) =
    subst (λ x. (b.file ≡ a.file) ⊎ (b.file ≡ resized a.file x)) (sym len)
    (c.in_err-set_len.ensures.either told1)
    in
    let left = c.save_mid_flush.ensures.left f told s was fresh in (
      λ rests. Leaves-trans (left.0 rests)
          (cut_held f u t h end cut saved follows c.set_len.ensures.frame.time),
      content_is_new f u t h end cut a.file a.may_leave saved b.file either,
    )

pub returns-clause-left : goal.returns-clause-left
returns-clause-left g c f end told len s cut was fresh =
    let D = g.D.Disk in
    let a = D.state c.save_mid_flush.new.disk in
    let b = D.state c.set_len.new.self in
    let e = D.state c.sync.new.self in
    let u = used_in c.args.hands.now.slots in
    let t = c.args.hands.now.table in
    let h = c.args.header.now in
    let saved = c.in_ok-save_mid_flush.ensures.opened f told c.requires.fresh s was in
    let told1 : IsTrue a.tells = subst IsTrue (sym c.save_mid_flush.ensures.keeps.disk.stays.told) told in
    let told2 : IsTrue b.tells = subst IsTrue (sym c.set_len.ensures.frame.stays.told) told1 in
    let follows : Follows (ResizedImage (f.base + end)) a.may_leave b.may_leave =
    subst (λ x. Follows (ResizedImage x) a.may_leave b.may_leave) (sym len) c.set_len.ensures.frame.images
    in
    let is : e.file ≡ resized a.file (f.base + end) =
    c.sync.ensures.frame.same_file told2 ∙ c.in_ok-set_len.ensures.resized told1
    ∙ ap (resized a.file) (sym len)
    in
    let left = c.save_mid_flush.ensures.left f told s was fresh in (
      λ rests. Leaves-trans (left.0 rests)
          (Leaves-trans (cut_held f u t h end cut saved follows c.set_len.ensures.frame.time)
          (sync_held f u t h end a cut saved follows c.sync.ensures.frame.time)),
      content_is_new f u t h end cut a.file a.may_leave saved e.file (inr is),
    )

pub returns-clause-settled : goal.returns-clause-settled
returns-clause-settled g c f end told len s cut was =
    let D = g.D.Disk in
    let a = D.state c.save_mid_flush.new.disk in
    let b = D.state c.set_len.new.self in
    let e = D.state c.sync.new.self in
    let u = used_in c.args.hands.now.slots in
    let t = c.args.hands.now.table in
    let h = c.args.header.now in
    let saved = c.in_ok-save_mid_flush.ensures.opened f told c.requires.fresh s was in
    let told1 : IsTrue a.tells = subst IsTrue (sym c.save_mid_flush.ensures.keeps.disk.stays.told) told in
    let told2 : IsTrue b.tells = subst IsTrue (sym c.set_len.ensures.frame.stays.told) told1 in
    let is : e.file ≡ resized a.file (f.base + end) =
    c.sync.ensures.frame.same_file told2 ∙ c.in_ok-set_len.ensures.resized told1
    ∙ ap (resized a.file) (sym len)
    in
    on_ok_weaker c.sync.result (λ (only : Only b.file e.may_leave).
    subst (λ v. IsSettled f v c.save_mid_flush.new.hands.table.now end e.file e.may_leave)
    (sym c.in_ok-save_mid_flush.ensures.pair)
    (subst (λ (x : _). IsSettled f (next_in_use u) x.now end e.file e.may_leave)
    (sym c.in_ok-save_mid_flush.ensures.table)
    (settled f u t h end cut a.file a.may_leave saved e.file e.may_leave is
    (subst (λ (x : List ℕ). Only x e.may_leave) (sym (c.sync.ensures.frame.same_file told2)) only))))
    c.sync.ensures.rests
