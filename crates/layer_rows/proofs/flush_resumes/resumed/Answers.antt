use Rattle.std.proofs.Common.{arith, ap, subst, sym, ◌∙◌, ◌≡◌, ℕ, List, IsPermutation}
use Rattle.std.specs.List.Sorted.{IsNonDecreasingBy}
use Rattle.segment_layout.specs.Layouts.{caps_of, divisor_of}
use Rattle.segment_layout.specs.Shapes.{start_of}
use Rattle.flush_model.specs.declared.item.Item.{Item}
use Rattle.flush_model.specs.declared.item.Numbers.{Numbers}
use Rattle.flush_model.specs.Plans.{AreBelow, AreSmall}
use Rattle.flush_model.specs.Phases.{IsPacking}
use Rattle.flush_model.specs.Resumed.{numbers_again}
use Rattle.flush_plan.specs.Packs.{CanGoOn}
use Rattle.flush_plan.specs.Shelves.{PlanFrame, phase_on}
use Rattle.layer_rows.proofs.ListedLaws.{listed}
use Rattle.flush_plan.proofs.PackGoesLaws.{can_go_on}
use Rattle.layer_rows.proofs.flush_resumes.resumed.Goals as goal

-- the objects of the list are those that Pack can go on with
again : (C k : ℕ) (caps : List ℕ) (n : Numbers) (xs : List Item) (h : (v : PlanFrame) × (v.k ≡ k)
    × (v.numbers ≡ n) × (items : List Item) × IsPacking (phase_on v items) × AreBelow C items
    × AreSmall v.numbers items × IsPermutation items xs × IsNonDecreasingBy (λ (it : Item). it.place) xs)
    → n.start ≡ start_of k caps n.boundary
    → CanGoOn C k caps (numbers_again k caps n.boundary n.wall n.slack h.3) h.3 xs
again C k caps n xs h start =
    let v = h.0 in
    let items = h.3 in
    subst (λ (m : Numbers). CanGoOn C k caps
    (numbers_again k caps m.boundary m.wall m.slack items) items xs) h.2
    (can_go_on C k caps v items xs h.4 h.5 h.6 (listed v.numbers items xs h.4.items h.7 h.8) h.1
    (subst (λ (m : Numbers). m.start ≡ start_of k caps m.boundary) (sym h.2) start))

pub numbers_again-again-requires : goal.numbers_again-again-requires
numbers_again-again-requires g c =
    let layout = c.args.layout.now in
    let h = c.requires in (
      omega arith,
      (
        omega (arith, c.if-this-gt32.false),
        (
          omega (arith, c.if-b.false),
          (
            h.3,
            again g.row.C (divisor_of layout) (caps_of layout) c.args.numbers c.args.shelf.now.items.items
                (h.0, h.1, h.2, h.3, h.4, h.5, h.6, h.7, h.8)
                (sym c.if-start-numbers.false ∙ c.start.ensures.place),
          ),
        ),
      ),
    )

pub resume-requires : goal.resume-requires
resume-requires g c =
    let layout = c.args.layout.now in
    let k = divisor_of layout in
    let caps = caps_of layout in
    let n = c.args.numbers in
    let xs = c.args.shelf.now.items.items in
    let h = c.requires in
    let can = again g.row.C k caps n xs (h.0, h.1, h.2, h.3, h.4, h.5, h.6, h.7, h.8)
    (sym c.if-start-numbers.false ∙ c.start.ensures.place) in
    let found = c.numbers_again-again.ensures h.3 can.on in (
      omega arith,
      (
        omega arith,
        (
          omega (arith, c.if-this-gt32.false),
          (
            omega (arith, c.if-b.false, ap (λ (m : Numbers). m.boundary) found),
            (h.3, subst (λ m. CanGoOn g.row.C k caps m h.3 xs) (sym found) can),
          ),
        ),
      ),
    )

pub returns : goal.returns
returns g c =
    let layout = c.args.layout.now in
    let k = divisor_of layout in
    let caps = caps_of layout in
    let n = c.args.numbers in
    let xs = c.args.shelf.now.items.items in
    let h = c.requires in
    let can = again g.row.C k caps n xs (h.0, h.1, h.2, h.3, h.4, h.5, h.6, h.7, h.8)
    (sym c.if-start-numbers.false ∙ c.start.ensures.place) in
    let found = c.numbers_again-again.ensures h.3 can.on in
    record {
      items = h.3;
      divisor = ap (λ (x : PlanFrame). x.k) c.resume.ensures.course;
      keeps = c.resume.ensures.keeps h.3 (subst (λ m. CanGoOn g.row.C k caps m h.3 xs) (sym found) can);
      same = h.7;
      rising = h.8;
    }
