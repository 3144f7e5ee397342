use Rattle.std.proofs.Common.{sym, subst, ◌≡◌, ◌<◌, ◌≤◌, ℕ, List}
use Rattle.std.specs.Prelude.{Option, IfSome, IsPermutation}
use Rattle.size_class.specs.Rows.{cells_of}
use Rattle.size_class.proofs.RowLaws.{row_shape}
use Rattle.segment_layout.specs.Layouts.{divisor_of, caps_of}
use Rattle.segment_layout.specs.declared.layout.Layout.{Layout}
use Rattle.segment_layout.proofs.LayoutLaws.{layout_shape}
use Rattle.flush_model.specs.declared.item.Item.{Item}
use Rattle.flush_model.specs.declared.item.Numbers.{Numbers}
use Rattle.flush_model.specs.Begins.{Begins, pending_size, with_pending}
use Rattle.flush_model.specs.Phases.{lifted_in}
use Rattle.flush_model.proofs.BoundLaws.{end_small}
use Rattle.flush_plan.specs.Lifts.{KeepsLifting}
use Rattle.flush_plan.specs.Shelves.{PlanFrame, course_of, phase_on}
use Rattle.flush_plan.proofs.LiftGoesLaws.{lift_at, lift_begins, lift_begins_with_none}
use Rattle.flush_plan.proofs.lift.Lifting.new.Goals as goal

module _ {C : ℕ} (layout : Layout C) (n : Numbers) (pending : Option Item) (fits : C ≤ 32)
    (boundary : n.boundary < C) (class : IfSome pending (λ it. it.class < C)) (course : PlanFrame)
    (is : course ≡ course_of (divisor_of layout) (caps_of layout) n (pending_size pending))
    (items all : List Item) (begins : Begins (divisor_of layout) (caps_of layout) n items pending)
    (same : IsPermutation (with_pending items pending) all) where
  keeps : KeepsLifting C (lift_at course n.start n.wall) all
  keeps = subst (λ (x : PlanFrame). KeepsLifting C (lift_at x n.start n.wall) all) (sym is)
      (lift_begins C (divisor_of layout) (caps_of layout) n items pending all fits boundary
      (layout_shape layout).k_low (row_shape layout.caps)
      (end_small (divisor_of layout) (caps_of layout) (layout_shape layout).caps_high
      (row_shape layout.caps).full)
      class begins same)

  none : (c : ℕ) → lifted_in (phase_on course all) c ≡ 0
  none c = subst (λ (x : PlanFrame). lifted_in (phase_on x all) c ≡ 0) (sym is)
      (lift_begins_with_none C (divisor_of layout) (caps_of layout) n items pending all fits boundary
      (layout_shape layout).k_low (row_shape layout.caps)
      (end_small (divisor_of layout) (caps_of layout) (layout_shape layout).caps_high
      (row_shape layout.caps).full)
      class begins same c)

-- the course that was set up
course_is : (k k' size size' : ℕ) (caps caps' : List ℕ) (n : Numbers) → k ≡ k' → caps ≡ caps' → size ≡ size'
    → course_of k caps n size ≡ course_of k' caps' n size'
course_is k k' size size' caps caps' n same_k same_caps same_size = λ i.
    course_of (same_k i) (same_caps i) n (same_size i)

pub returns-clause-keeps : goal.returns-clause-keeps
returns-clause-keeps g c = λ items all begins same.
    let layout = c.args.layout.now in
    keeps layout c.args.numbers c.args.pending c.requires.fits c.requires.boundary c.requires.class
    (course_of c.k.result (cells_of c.caps.result) c.args.numbers c.size_of.result)
    (course_is c.k.result (divisor_of layout) c.size_of.result (pending_size c.args.pending)
    (cells_of c.caps.result) (caps_of layout) c.args.numbers c.k.ensures c.caps.ensures c.size_of.ensures)
    items all begins same

pub returns-clause-none : goal.returns-clause-none
returns-clause-none g c = λ items all class begins same.
    let layout = c.args.layout.now in
    none layout c.args.numbers c.args.pending c.requires.fits c.requires.boundary c.requires.class
    (course_of c.k.result (cells_of c.caps.result) c.args.numbers c.size_of.result)
    (course_is c.k.result (divisor_of layout) c.size_of.result (pending_size c.args.pending)
    (cells_of c.caps.result) (caps_of layout) c.args.numbers c.k.ensures c.caps.ensures c.size_of.ensures)
    items all begins same class
