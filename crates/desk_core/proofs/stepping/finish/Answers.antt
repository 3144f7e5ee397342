use Rattle.std.proofs.Common.{arith, ap, refl, subst, Ok, Err}
use Rattle.ask_text.specs.declared.ends.End.{End}
use Rattle.desk_core.specs.Playing.{SettlesFlush}
use Rattle.desk_core.specs.Images.{kept_of}
use Rattle.desk_core.proofs.ImageLaws.{end_leaves, leaves_same}
use Rattle.desk_core.proofs.StepOnceLaws.{cut_finishes, failed_finishes, finishes_at, hand_none, hand_some, idle_finishes, is_half, settled_finishes}
use Rattle.desk_core.proofs.stepping.finish.Goals as goal

pub returns-then-not-in_hand-clause-plays : goal.returns-then-not-in_hand-clause-plays
returns-then-not-in_hand-clause-plays g c =
    let s = c.args.served.now.store in
    let n = c.args.served.now.session in
    let a = g.D.Disk.state c.args.disk.now in
    let out = g.O.Sink.state c.args.output.now in
    idle_finishes n s s a a c.args.count out out (g.O.Sink.state c.put_left.new.output) c.put_left.result
    (hand_none s.in_hand c.in_hand.result c.in_hand.ensures (grind arith)) refl refl c.put_left.ensures

pub settle-requires : goal.settle-requires
settle-requires g c = (
  omega arith,
  (
    c.requires.ready,
    (
      is_half c.args.served.now.store (g.D.Disk.state c.args.disk.now) c.requires.over
          (hand_some c.args.served.now.store.in_hand c.in_hand.result c.in_hand.ensures (grind arith)),
      c.requires.whole,
    ),
  ),
)

pub returns-in-Ok-put_kept-clause-plays : goal.returns-in-Ok-put_kept-clause-plays
returns-in-Ok-put_kept-clause-plays g c told desk count shown =
    let s = c.args.served.now.store in
    let n = c.args.served.now.session in
    let a = g.D.Disk.state c.args.disk.now in
    let out = g.O.Sink.state c.args.output.now in
    let half = is_half s a c.requires.over (hand_some s.in_hand c.in_hand.result c.in_hand.ensures
    (grind arith))
    in
    let t = c.settle.new.served.store in
    let d = g.D.Disk.state c.settle.new.disk in
    let mid = g.O.Sink.state c.put_kept.new.output in
    let after = g.O.Sink.state c.put_left-in-Ok-put_kept.new.output in
    finishes_at desk t c.settle.new.served.session n d.file out after c.put_left-in-Ok-put_kept.result
    c.in-Ok.ensures.session
    (settled_finishes n s t a d c.args.count out mid after c.put_left-in-Ok-put_kept.result half
    c.in-Ok.ensures.settles (rw c.in-Ok.ensures.session at c.in-Ok-put_kept.ensures)
    c.put_left-in-Ok-put_kept.ensures told desk count shown)

pub returns-in-Err-put_kept-clause-plays : goal.returns-in-Err-put_kept-clause-plays
returns-in-Err-put_kept-clause-plays g c told desk count shown =
    let s = c.args.served.now.store in
    let n = c.args.served.now.session in
    let a = g.D.Disk.state c.args.disk.now in
    let out = g.O.Sink.state c.args.output.now in
    let half = is_half s a c.requires.over (hand_some s.in_hand c.in_hand.result c.in_hand.ensures
    (grind arith))
    in
    let t = c.settle.new.served.store in
    let d = g.D.Disk.state c.settle.new.disk in
    let mid = g.O.Sink.state c.put_kept.new.output in
    finishes_at desk t c.settle.new.served.session n d.file out mid (Err c.in-Err-put_kept.end)
    c.in-Ok.ensures.session
    (cut_finishes n s t a d c.args.count out mid mid (Err c.in-Err-put_kept.end) half c.in-Err-put_kept.end
    refl
    refl c.in-Ok.ensures.settles (rw c.in-Ok.ensures.session at c.in-Err-put_kept.ensures) told desk count
    shown)

pub returns-in-Err-clause-plays : goal.returns-in-Err-clause-plays
returns-in-Err-clause-plays g c told desk count shown =
    let s = c.args.served.now.store in
    let n = c.args.served.now.session in
    let a = g.D.Disk.state c.args.disk.now in
    let out = g.O.Sink.state c.args.output.now in
    let half = is_half s a c.requires.over (hand_some s.in_hand c.in_hand.result c.in_hand.ensures
    (grind arith))
    in
    let t = c.settle.new.served.store in
    let d = g.D.Disk.state c.settle.new.disk in
    let only = c.in-Err.ensures.settles.only in
    finishes_at desk t c.settle.new.served.session n d.file out out (Err c.in-Err.end)
    c.in-Err.ensures.session
    (failed_finishes n s t a d c.args.count out out out (Err c.in-Err.end) half
    (ap (λ (e : End). Err e) only) refl
    (subst (λ (e : End). SettlesFlush g.row.C n s t a d (Err e)) only c.in-Err.ensures.settles)
    told desk count shown)

pub returns-then-not-in_hand-clause-images : goal.returns-then-not-in_hand-clause-images
returns-then-not-in_hand-clause-images g c told desk shown k rests =
    let s = c.args.served.now.store in
    let a = g.D.Disk.state c.args.disk.now in
    leaves_same s s c.args.served.now.session a a desk (kept_of desk.state) c.put_left.result shown refl refl
    k rests

pub returns-in-Ok-put_kept-clause-images : goal.returns-in-Ok-put_kept-clause-images
returns-in-Ok-put_kept-clause-images g c told desk shown = end_leaves c.args.served.now.store
    c.settle.new.served.store (g.D.Disk.state c.args.disk.now) (g.D.Disk.state c.settle.new.disk) desk
    (Ok c.in-Ok.field-0) c.put_left-in-Ok-put_kept.result (λ is. refl)
    (c.in-Ok.ensures.settles.images told desk shown)

pub returns-in-Err-put_kept-clause-images : goal.returns-in-Err-put_kept-clause-images
returns-in-Err-put_kept-clause-images g c told desk shown = end_leaves {T = Unit {0}} {S = Unit {0}}
    c.args.served.now.store
    c.settle.new.served.store (g.D.Disk.state c.args.disk.now) (g.D.Disk.state c.settle.new.disk) desk
    (Ok c.in-Ok.field-0) (Err c.in-Err-put_kept.end) (λ is. refl)
    (c.in-Ok.ensures.settles.images told desk shown)

pub returns-in-Err-clause-images : goal.returns-in-Err-clause-images
returns-in-Err-clause-images g c told desk shown = end_leaves {T = Unit {0}} {S = Unit {0}}
    c.args.served.now.store
    c.settle.new.served.store (g.D.Disk.state c.args.disk.now) (g.D.Disk.state c.settle.new.disk) desk
    (Err c.in-Err.end) (Err c.in-Err.end) (λ is. is) (c.in-Err.ensures.settles.images told desk shown)
