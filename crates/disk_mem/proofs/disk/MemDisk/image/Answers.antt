use Rattle.std.proofs.Common.{◌≡◌, List, ℕ, sym, subst, rules}
use Rattle.disk_history.specs.Histories.{History, EndedBy}
use Rattle.disk_mem.specs.Turns.{LeftAt, image_at}
use Rattle.disk_mem.proofs.TurnLaws.{image_at_is_left, left_at_is_since}
use Rattle.disk_mem.proofs.disk.MemDisk.image.Goals as goal

pub returns-in-Ok-clause-is_image : goal.returns-in-Ok-clause-is_image
returns-in-Ok-clause-is_image c =
    let h = c.args.self.now in
    let exact : c.in-Ok.image.items ≡ image_at h c.args.turn c.args.choice = search rules in
    subst (λ (image : List ℕ). LeftAt h c.args.turn image) (sym exact)
    (image_at_is_left h c.args.turn c.args.choice)

pub returns-in-Ok-clause-since : goal.returns-in-Ok-clause-since
returns-in-Ok-clause-since c =
    let h = c.args.self.now in
    let ended : EndedBy h.turn h.calls =
    subst (λ (x : History). EndedBy x.turn x.calls) c.self.view_is c.self.invariant.1 in
    let exact : c.in-Ok.image.items ≡ image_at h c.args.turn c.args.choice = search rules in
    left_at_is_since h c.args.turn c.in-Ok.image.items ended c.requires
    (subst (λ (image : List ℕ). LeftAt h c.args.turn image) (sym exact)
    (image_at_is_left h c.args.turn c.args.choice))
