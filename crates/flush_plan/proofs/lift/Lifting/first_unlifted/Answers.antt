use Rattle.std.proofs.Common.{arith, sym, ap, subst, ◌∙◌, ◌≡◌, ◌+◌, ◌<◌, ℕ, Bool, true, refl, slice_index}
use Rattle.std.specs.Prelude.{Contains, ◌^◌}
use Rattle.size_class.specs.Rows.{cells_of}
use Rattle.segment_layout.specs.Shapes.{start_of}
use Rattle.flush_model.specs.declared.item.Item.{Item}
use Rattle.flush_model.specs.Segments.{AreStarts}
use Rattle.flush_model.specs.Plans.{stands_in_payload}
use Rattle.flush_plan.specs.declared.lift.Lifting.TheInside.{Inside}
use Rattle.flush_plan.specs.Lifts.{ArePassed, Lift}
use Rattle.flush_plan.specs.Shelves.{course_of}
use Rattle.flush_plan.proofs.LiftGoesLaws.{found_has, lift_at, lift_ended, lift_found, lift_passes, lift_past_wall, segment_behind, segment_low, waits_low}
use Rattle.flush_plan.proofs.ShelfLaws.{rank_stands}
use Rattle.flush_plan.proofs.lift.Lifting.first_unlifted.Given.{Over}
use Rattle.flush_plan.proofs.lift.Lifting.first_unlifted.Goals.{Else-item-self, Else-not-stands}
use Rattle.flush_plan.proofs.lift.Lifting.first_unlifted.Goals as goal

-- what the fields say of the value
module _ {C : ℕ} (s : Inside C) (v : Lift)
    (same : lift_at (course_of s.k (cells_of s.caps) s.numbers s.pending) s.from s.to ≡ v)
    (begin : AreStarts C s.k (cells_of s.caps) (cells_of s.starts)) where
  wall_is : s.numbers.wall ≡ v.course.numbers.wall
  wall_is = ap (λ (u : Lift). u.course.numbers.wall) same

  stands_so : (m : Item) (stands : Bool)
      → ((k : ℕ) → AreStarts C k (cells_of s.caps) (cells_of s.starts)
      → stands ≡ stands_in_payload k (cells_of s.caps) m)
      → stands ≡ stands_in_payload v.course.k v.course.caps m
  stands_so m stands is =
      subst (λ (u : Lift). stands ≡ stands_in_payload u.course.k u.course.caps m) same (is s.k begin)

  end_is : (c : ℕ) → c < C → (start length : ℕ) → start ≡ slice_index (cells_of s.starts) c
      → length ≡ slice_index (cells_of s.caps) c
      → start + length ≡ start_of v.course.k v.course.caps c + slice_index v.course.caps c
  end_is c below start length is_start is_length = omega (
    arith,
    is_start,
    begin c below,
    is_length,
    ap (λ (u : Lift). start_of u.course.k u.course.caps c + slice_index u.course.caps c) same,
  )

-- what is known of the object that was read, which begins below the wall
module _ (g : Over) (c : Else-item-self g) where
  has : Contains c.requires.lifts.0 c.item-item.result
  has = found_has g.row.C c.args.self.now c.requires.lifts.0 (g.S.Shelf.items c.args.shelf.now)
      c.requires.lifts.1 c.segments.from c.rank_from-rank.result c.segments.invariant.0
      (c.segments.invariant.1 c.requires.lifts.0 c.requires.lifts.1) c.rank_from-rank.ensures
      c.item-item.result c.item-item.ensures

  class : c.item-item.result.class < g.row.C
  class = c.requires.lifts.1.keeps.classes c.item-item.result has

  ends : c.item-item.result.place + c.item-item.result.size < 2 ^ 64
  ends = waits_low g.row.C c.args.self.now c.requires.lifts.0 c.requires.lifts.1.keeps c.item-item.result has
      (omega (
        arith,
        c.if-item-self.false,
        wall_is c.self.inside c.args.self.now c.self.view_is c.self.invariant,
      ))

  -- its segment ends as the rows say
  end : (start length : ℕ) → start ≡ slice_index (cells_of c.self.inside.starts) c.item-item.result.class
      → length ≡ slice_index (cells_of c.self.inside.caps) c.item-item.result.class
      → start + length
      ≡ start_of c.args.self.now.course.k c.args.self.now.course.caps c.item-item.result.class
      + slice_index c.args.self.now.course.caps c.item-item.result.class
  end = end_is c.self.inside c.args.self.now c.self.view_is c.self.invariant c.item-item.result.class class

  segment : slice_index (cells_of c.self.inside.starts) c.item-item.result.class
      + slice_index (cells_of c.self.inside.caps) c.item-item.result.class < 2 ^ 64
  segment = omega (
    arith,
    end _ _ refl refl,
    segment_low g.row.C c.args.self.now c.requires.lifts.0 c.requires.lifts.1.keeps c.item-item.result has,
  )

-- an object that stands in its payload segment
module _ (g : Over) (c : Else-not-stands g) (has : Contains c.requires.lifts.0 c.item-item.result) where
  stands : stands_in_payload c.args.self.now.course.k c.args.self.now.course.caps c.item-item.result ≡ true
  stands = sym (stands_so c.self.inside c.args.self.now c.self.view_is c.self.invariant c.item-item.result
      c.stands.result c.stands.ensures) ∙ c.if-not-stands.false

  -- the end of its segment lies behind it
  behind : c.segments.from
      < start_of c.args.self.now.course.k c.args.self.now.course.caps c.item-item.result.class
      + slice_index c.args.self.now.course.caps c.item-item.result.class
  behind = omega (
    arith,
    segment_behind g.row.C c.args.self.now c.requires.lifts.0 c.requires.lifts.1.keeps c.item-item.result has
        stands,
    rank_stands (g.S.Shelf.items c.args.shelf.now) c.requires.lifts.1.on.rises c.segments.from
        c.rank_from-rank.result c.rank_from-rank.ensures c.item-item.result c.item-item.ensures,
  )

pub returns-then-rank-len-clause-none : goal.returns-then-rank-len-clause-none
returns-then-rank-len-clause-none g c = λ items lifts none.
    let v = c.args.self.now in
    let xs = g.S.Shelf.items c.args.shelf.now in
    let i = c.segments.invariant in
    lift_ended g.row.C v items xs lifts c.segments.from c.rank_from-rank.result i.0 (i.1 items lifts)
    c.rank_from-rank.ensures (omega (arith, c.if-rank-len.true, c.len.ensures))

pub returns-then-item-self-clause-none : goal.returns-then-item-self-clause-none
returns-then-item-self-clause-none g c = λ items lifts none.
    let v = c.args.self.now in
    let xs = g.S.Shelf.items c.args.shelf.now in
    let i = c.segments.invariant in
    let low = wall_is c.self.inside v c.self.view_is c.self.invariant in
    lift_past_wall g.row.C v items xs lifts c.segments.from c.rank_from-rank.result i.0 (i.1 items lifts)
    c.rank_from-rank.ensures c.item-item.result c.item-item.ensures (omega (arith, c.if-item-self.true, low))

pub stands-requires : goal.stands-requires
stands-requires g c =
    let at = (goal.at.stands-requires g c).Else-item-self in
    (omega arith, (c.requires.lifts.1.keeps.fits, (class g at, (ends g at, segment g at))))

pub returns-then-not-stands-clause-some : goal.returns-then-not-stands-clause-some
returns-then-not-stands-clause-some g c = λ items lifts.
    let v = c.args.self.now in
    let xs = g.S.Shelf.items c.args.shelf.now in
    let i = c.segments.invariant in
    let m = c.item-item.result in
    let low = wall_is c.self.inside v c.self.view_is c.self.invariant in
    let stands = stands_so c.self.inside v c.self.view_is c.self.invariant m c.stands.result
    c.stands.ensures in
    lift_found g.row.C v items xs lifts c.segments.from c.rank_from-rank.result i.0 (i.1 items lifts)
    c.rank_from-rank.ensures m c.item-item.ensures (omega (arith, c.if-item-self.false, low))
    (sym stands ∙ c.if-not-stands.true)

pub get-requires : goal.get-requires
get-requires g c =
    (omega arith, (class g (goal.at.get-requires g c).Else-item-self, c.requires.lifts.1.keeps.fits))

pub get-requires-in-segments : goal.get-requires-in-segments
get-requires-in-segments g c = (
  omega arith,
  (class g (goal.at.get-requires-in-segments g c).Else-item-self, c.requires.lifts.1.keeps.fits),
)

pub overflow_add-from : goal.overflow_add-from
overflow_add-from g c = omega (
  arith,
  c.get.ensures,
  c.get-in-segments.ensures,
  segment g (goal.at.overflow_add-from g c).Else-item-self,
)

pub segments-smaller : goal.segments-smaller
segments-smaller g c =
    let at = goal.at.segments-smaller g c in
    omega (
      arith,
      c.segments-test.true,
      wall_is c.self.inside c.args.self.now c.self.view_is c.self.invariant,
      end g at.Else-item-self c.get.result c.get-in-segments.result c.get.ensures c.get-in-segments.ensures,
      behind g at.Else-not-stands (has g at.Else-item-self),
    )

pub segments-preserved : goal.segments-preserved
segments-preserved g c =
    let at = goal.at.segments-preserved g c in
    let i = c.segments.invariant in
    let xs = g.S.Shelf.items c.args.shelf.now in
    let is = end g at.Else-item-self c.get.result c.get-in-segments.result c.get.ensures
    c.get-in-segments.ensures in (
      omega (arith, is, behind g at.Else-not-stands (has g at.Else-item-self), i.0),
      λ items lifts. subst (ArePassed c.args.self.now.course items) (sym is)
          (lift_passes g.row.C c.args.self.now items xs lifts c.segments.from c.rank_from-rank.result i.0
          (i.1 items lifts) c.rank_from-rank.ensures c.item-item.result c.item-item.ensures
          (stands g at.Else-not-stands (has g at.Else-item-self))),
    )
