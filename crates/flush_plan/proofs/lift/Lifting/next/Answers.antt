use Rattle.std.proofs.Common.{arith, sym, subst, ◌≡◌, ◌+◌, ◌<◌, ◌^◌, ℕ, List}
use Rattle.size_class.specs.Rows.{cells_of}
use Rattle.flush_model.specs.declared.item.Item.{Item}
use Rattle.flush_model.specs.declared.item.Move.{Move}
use Rattle.flush_model.specs.Plans.{relocated}
use Rattle.flush_model.specs.Steps.{IsLiftStep}
use Rattle.flush_plan.specs.declared.lift.Lifting.TheInside.{Inside}
use Rattle.flush_plan.specs.Lifts.{IsFirstUnlifted, KeepsLifting, Lift}
use Rattle.flush_plan.specs.Shelves.{course_of, phase_on}
use Rattle.flush_plan.proofs.LiftGoesLaws.{lift_at, lift_fits, lift_goes_on, lift_is_step}
use Rattle.flush_plan.proofs.lift.Lifting.next.Goals as goal

-- the move of what was found, told from the fields
module _ {C : ℕ} (s : Inside C) (v : Lift)
    (same : lift_at (course_of s.k (cells_of s.caps) s.numbers s.pending) s.from s.to ≡ v)
    (items : List Item) (keeps : KeepsLifting C v items) (m : Item)
    (found : IsFirstUnlifted v.course items m) where
  abbrev shown : Lift
  shown = lift_at (course_of s.k (cells_of s.caps) s.numbers s.pending) s.from s.to

  keeps_shown : KeepsLifting C shown items
  keeps_shown = subst (λ u. KeepsLifting C u items) (sym same) keeps

  found_shown : IsFirstUnlifted shown.course items m
  found_shown = subst (λ (u : Lift). IsFirstUnlifted u.course items m) (sym same) found

  abbrev mv : Move
  mv = record { key = m.key; class = m.class; from = m.place; to = s.to; size = m.size }

  low : s.to + m.size < 2 ^ 64
  low = omega (arith, lift_fits C shown items keeps_shown m found_shown, keeps_shown.small.0)

  step : IsLiftStep (phase_on v.course items) mv
  step = subst (λ (u : Lift). IsLiftStep (phase_on u.course items) mv) same
      (lift_is_step C shown items keeps_shown m found_shown)

  goes_on : KeepsLifting C (lift_at (course_of s.k (cells_of s.caps) s.numbers s.pending) (m.place + 1)
      (s.to + m.size)) (relocated m.key s.to items)
  goes_on = lift_goes_on C shown items keeps_shown m found_shown

pub overflow_add-self-2 : goal.overflow_add-self-2
overflow_add-self-2 g c =
    let h = c.requires.lifts in
    omega (
      arith,
      low c.self.inside c.args.self.now c.self.view_is h.0 h.1.keeps c.in_ok-item.item
          (c.in_ok-item.ensures.some h.0 h.1),
    )

pub returns-clause-step : goal.returns-clause-step
returns-clause-step g c = λ items lifts.
    step c.self.inside c.args.self.now c.self.view_is items lifts.keeps c.in_ok-item.item
    (c.in_ok-item.ensures.some items lifts)

pub returns-clause-keeps : goal.returns-clause-keeps
returns-clause-keeps g c = λ items lifts.
    goes_on c.self.inside c.args.self.now c.self.view_is items lifts.keeps c.in_ok-item.item
    (c.in_ok-item.ensures.some items lifts)
