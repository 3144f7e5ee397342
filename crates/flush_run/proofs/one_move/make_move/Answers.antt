use Rattle.std.proofs.Common.{arith, refl, ◌∙◌, ap, subst, List, ℕ}
use Rattle.logged_pair.specs.Slots.{used_in}
use Rattle.logged_pair.specs.declared.slots.Slots.{Slots}
use Rattle.flush_run.specs.MadeMoves.{RowMoves}
use Rattle.flush_run.specs.Parts.{parts_of}
use Rattle.flush_run.proofs.LeftLaws.{left_then, left_wider, source_within, still_told, target_within, told_before}
use Rattle.flush_run.proofs.MadeLaws.{KeepsOn-then}
use Rattle.flush_run.proofs.MakeMoveLaws.{frees_turns, make_apart, make_can, make_fresh, make_goes, make_head, make_header, make_next, make_saveable, make_slot, make_space, make_target}
use Rattle.flush_run.proofs.one_move.make_move.Goals as goal

pub invariant_of-target : goal.invariant_of-target
invariant_of-target g c = record { fits = omega (arith, make_target c.requires.start.2) }

pub free_target-requires : goal.free_target-requires
free_target-requires g c =
    let can = c.requires.start.2 in (
      omega arith,
      (
        c.requires.ready,
        (
          omega (arith, c.requires.buffer),
          (
            c.requires.fits,
            (
              make_header can,
              (
                make_apart can,
                (
                  can.ready.goes.version,
                  (
                    make_fresh can,
                    (can.ready.goes.hands.table, (λ told. make_head can told, λ told. make_slot can told)),
                  ),
                ),
              ),
            ),
          ),
        ),
      ),
    )

pub returns-in_err-free_target-clause-left : goal.returns-in_err-free_target-clause-left
returns-in_err-free_target-clause-left g c f p can told =
    left_wider (omega (arith, c.free_target.ensures.later))
    (c.free_target.ensures.left f told (make_saveable can) (can.ready.goes.flies told))

pub move_one-requires : goal.move_one-requires
move_one-requires g c =
    let s = c.requires.start in
    let t = c.free_target.ensures in
    let answer = c.in_ok-free_target.ensures.answer in
    let goes = make_goes s.2 _ refl refl _ answer t.keeps (c.in_ok-free_target.ensures.flies s.0) in
    let r = make_can s.2 _ refl refl _ answer t.keeps (c.in_ok-free_target.ensures.flies s.0) in (
      omega arith,
      (
        t.keeps.disk.stays.ready,
        (
          omega (arith, t.keeps.buffer, c.requires.buffer),
          (
            c.requires.fits,
            (
              r.low,
              (
                r.class,
                (
                  r.small,
                  (
                    r.can,
                    (λ told. source_within goes r told, (λ told. target_within goes r told, goes.guard)),
                  ),
                ),
              ),
            ),
          ),
        ),
      ),
    )

pub returns-in_err-move_one-clause-left : goal.returns-in_err-move_one-clause-left
returns-in_err-move_one-clause-left g c f p can told =
    let t = c.free_target.ensures in
    let answer = c.in_ok-free_target.ensures.answer in
    let goes = make_goes can _ refl refl _ answer t.keeps (c.in_ok-free_target.ensures.flies f) in
    let space = make_space can _ refl refl _ answer t.keeps (c.in_ok-free_target.ensures.flies f) in
    let there = still_told t.keeps told in
    let slots = ap (λ (s : Slots). (used_in s).sequence) c.move_one.ensures.slots in
    left_then (omega (arith, t.later, slots))
    (t.left f told (make_saveable can) (can.ready.goes.flies told))
    (left_wider (omega (arith, slots))
    (c.move_one.ensures.left f (used_in c.free_target.new.hands.slots) there goes.same_base space
    (goes.flies there)))

pub returns-clause-left : goal.returns-clause-left
returns-clause-left g c f p can told =
    let t = c.free_target.ensures in
    let answer = c.in_ok-free_target.ensures.answer in
    let goes = make_goes can _ refl refl _ answer t.keeps (c.in_ok-free_target.ensures.flies f) in
    let space = make_space can _ refl refl _ answer t.keeps (c.in_ok-free_target.ensures.flies f) in
    let there = still_told t.keeps told in
    let slots = ap (λ (s : Slots). (used_in s).sequence) c.move_one.ensures.slots in
    left_then (omega (arith, t.later, slots))
    (t.left f told (make_saveable can) (can.ready.goes.flies told))
    (left_wider (omega (arith, slots))
    (c.move_one.ensures.left f (used_in c.free_target.new.hands.slots) there goes.same_base space
    (goes.flies there)))

pub returns-clause-goes : goal.returns-clause-goes
returns-clause-goes g c f p can =
    let t = c.free_target.ensures in
    let m = c.move_one.ensures in
    let answer = c.in_ok-free_target.ensures.answer in
    let goes = make_goes can _ refl refl _ answer t.keeps (c.in_ok-free_target.ensures.flies f) in
    let space = make_space can _ refl refl _ answer t.keeps (c.in_ok-free_target.ensures.flies f) in
    let r = make_can can _ refl refl _ answer t.keeps (c.in_ok-free_target.ensures.flies f) in
    make_next can _ refl refl _ answer t.keeps (c.in_ok-free_target.ensures.flies f) m.keeps
    (ap used_in m.slots)
    c.in_ok-move_one.ensures.moved
    (λ told3.
    let back = told_before m.keeps told3 in
    c.in_ok-move_one.ensures.flies f (used_in c.free_target.new.hands.slots) back goes.same_base space r.to
    (goes.flies back))

pub returns-clause-made : goal.returns-clause-made
returns-clause-made g c =
    let s = c.requires.start in
    let t = c.free_target.ensures in
    let m = c.move_one.ensures in
    let answer = c.in_ok-free_target.ensures.answer in
    let r = make_can s.2 _ refl refl _ answer t.keeps (c.in_ok-free_target.ensures.flies s.0) in
    record {
      mid = parts_of c.free_target.new.hands;
      saved = _;
      unsaved = c.in_ok-free_target.ensures.unsaved;
      target = _;
      place = refl;
      size = refl;
      frees = answer;
      can = r.can;
      moved = c.in_ok-move_one.ensures.moved;
      slots = ap used_in m.slots;
      keeps = KeepsOn-then t.keeps m.keeps;
      row = subst (λ (row : List ℕ). RowMoves c.args.mv.now row (parts_of c.move_one.new.hands).moved) t.moved
          c.in_ok-move_one.ensures.ledger;
      turns = omega (arith, m.most, frees_turns _ _ _ _ t.most c.in_ok-free_target.ensures.none);
      calm = c.in_ok-move_one.ensures.cause.calm ∙ c.in_ok-free_target.ensures.cause.calm;
    }
