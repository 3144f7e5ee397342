use Rattle.std.specs.Prelude.{◌≡◌, Bool, List, ℕ, true, false, length}
use Rattle.std.proofs.Common.{arith, lit<, subst, sym}
use Rattle.flush_run.specs.Parts.{parts_of}
use Rattle.flush_run.specs.Shelved.{phase_now}
use Rattle.store_model.specs.Charges.{CanPut, ChargesParts, change_of}
use Rattle.store_model.specs.Flushing.{IsBegun, NeedsFlushAt}
use Rattle.store_core.proofs.begin.start_change.Goals as goal

pub start_put-requires : goal.start_put-requires
start_put-requires g c =
    let is : c.args.comes ≡ true = grind arith in (
      lit< tt,
      (
        lit< tt,
        (
          lit< tt,
          (
            c.requires.fits,
            (
              c.requires.wide,
              (
                subst (λ (b : Bool). CanPut (parts_of c.args.hands.now) c.args.name.now c.args.bytes.now b) is
                    c.requires.can,
                (c.requires.before, (c.requires.charged, c.requires.needs_flush)),
              ),
            ),
          ),
        ),
      ),
    )

pub start_del-requires : goal.start_del-requires
start_del-requires g c =
    let is : c.args.comes ≡ false = grind arith in
    let none = c.requires.nothing is in (
      lit< tt,
      (
        lit< tt,
        (
          lit< tt,
          (
            c.requires.fits,
            (
              c.requires.wide,
              (
                c.requires.before,
                (
                  subst (λ (b : List ℕ). ChargesParts (parts_of c.args.hands.now) c.args.name.now (length b)
                      c.args.charged.now.layout c.args.charged.now.outcome) none c.requires.charged,
                  subst (λ (b : List ℕ). NeedsFlushAt (parts_of c.args.hands.now) c.args.name.now (length b))
                      none c.requires.needs_flush,
                ),
              ),
            ),
          ),
        ),
      ),
    )

pub returns-then-comes-clause-begun : goal.returns-then-comes-clause-begun
returns-then-comes-clause-begun g c =
    let is : c.args.comes ≡ true = grind arith in
    subst (λ (b : Bool). IsBegun g.row.C (parts_of c.args.hands.now)
    (change_of c.args.name.now c.args.bytes.now b) (parts_of c.start_put.new.hands)
    (phase_now c.start_put.result.phase.course c.start_put.new.hands.table) c.start_put.result.place) (sym is)
    c.start_put.ensures.begun

pub returns-else-comes-clause-begun : goal.returns-else-comes-clause-begun
returns-else-comes-clause-begun g c =
    let is : c.args.comes ≡ false = grind arith in
    subst (λ (b : Bool). IsBegun g.row.C (parts_of c.args.hands.now)
    (change_of c.args.name.now c.args.bytes.now b) (parts_of c.start_del.new.hands)
    (phase_now c.start_del.result.phase.course c.start_del.new.hands.table) c.start_del.result.place) (sym is)
    c.start_del.ensures.begun
