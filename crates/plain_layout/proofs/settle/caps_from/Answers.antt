use Rattle.std.proofs.Common.{arith, subst, ap, ◌≡◌, ℕ}
use Rattle.std.specs.Prelude.{slice_set}
use Rattle.std.proofs.lemmas.List.{get_or_past}
use Rattle.segment_layout.specs.Books.{volumes_of_sizes}
use Rattle.segment_layout.proofs.BookLaws.{length-volumes_of_sizes}
use Rattle.segment_layout.proofs.SettleLaws.{TakenUpTo, taken_none, taken_more, taken_all}
use Rattle.plain_layout.proofs.settle.caps_from.Goals as goal

pub classes-init : goal.classes-init
classes-init c = taken_none c.args.b c.args.caps (volumes_of_sizes c.args.after.now) (omega arith)

pub classes-preserved : goal.classes-preserved
classes-preserved c =
    taken_more c.args.b c.classes.c c.volume_of.result c.args.caps (volumes_of_sizes c.args.after.now)
    c.classes.caps _ c.classes.invariant (omega arith) (omega arith) c.volume_of.ensures.volume
    (ap (λ (n : ℕ). slice_set c.classes.caps n c.volume_of.result) c.from.ensures)

pub returns : goal.returns
returns c =
    let volumes = volumes_of_sizes c.args.after.now in
    let e : c.classes.c ≡ 32 = omega arith in
    let long = length-volumes_of_sizes c.args.after.now in
    taken_all 32 c.args.b c.args.caps volumes c.classes.caps
    (record { full = omega arith; zero_above = λ d h. get_or_past c.args.caps d 0 (omega arith) })
    (record { full = long; zero_above = λ d h. get_or_past volumes d 0 (omega (arith, long)) })
    (omega arith) (omega arith)
    (subst (λ n. TakenUpTo c.args.b n c.args.caps volumes c.classes.caps) e c.classes.invariant)
