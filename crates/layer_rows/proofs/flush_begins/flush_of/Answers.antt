use Rattle.std.proofs.Common.{arith, ap, sym, subst, ◌≡◌, ◌≢◌, ◌-◌, ℕ, List, [], ◌∷◌, ◌++◌, IsPermutation, Some, slice_get, refl}
use Rattle.std.specs.Prelude.{None}
use Rattle.std.specs.List.Sorted.{IsNonDecreasingBy}
use Rattle.std.proofs.lemmas.List.Sorted.{IsPermutation-refl}
use Rattle.segment_layout.specs.Shapes.{start_of}
use Rattle.segment_layout.specs.Layouts.{divisor_of, caps_of}
use Rattle.segment_layout.specs.declared.layout.Layout.{Layout}
use Rattle.flush_model.specs.declared.item.Item.{Item}
use Rattle.flush_model.specs.declared.item.Numbers.{Numbers}
use Rattle.flush_model.specs.Begins.{Begins}
use Rattle.flush_model.specs.Phases.{CanFlush}
use Rattle.flush_model.specs.Plans.{numbers_of}
use Rattle.layer_rows.proofs.FlushBeginLaws.{begins_at_reach}
use Rattle.flush_model.proofs.NumbersLaws.{items_of_flush}
use Rattle.flush_plan.specs.Shelves.{PlanFrame, IsOnShelf}
use Rattle.layer_rows.proofs.ListedLaws.{listed}
use Rattle.layer_rows.proofs.flush_begins.flush_of.Goals as goal

-- the objects that were checked stand on the shelf of those
on_shelf : {C : ℕ} (layout : Layout C) (b : ℕ) {checked xs : List Item}
    → CanFlush (divisor_of layout) (caps_of layout) b checked → checked ≡ xs
    → IsNonDecreasingBy (λ (it : Item). it.place) xs → CanFlush (divisor_of layout) (caps_of layout) b xs
    × IsOnShelf (start_of (divisor_of layout) (caps_of layout) b) xs xs
on_shelf layout b {checked} {xs} can same rising =
    let k = divisor_of layout in
    let caps = caps_of layout in
    let flush : CanFlush k caps b xs = subst (CanFlush k caps b) same can in (
      flush,
      listed (numbers_of k caps b xs 0) xs xs (items_of_flush k caps b xs flush 0) (IsPermutation-refl xs)
          rising,
    )

begins_plain : (k : ℕ) (caps : List ℕ) (b : ℕ) (xs : List Item) → CanFlush k caps b xs → (n : Numbers)
    → n ≡ numbers_of k caps b xs 0 → Begins k caps n xs None
begins_plain k caps b xs flush n is =
    subst (λ (x : Numbers). Begins k caps x xs None) (sym is) (flush, refl)

pub numbers-plain-requires : goal.numbers-plain-requires
numbers-plain-requires g c =
    let xs = c.new-shelf.result.items.items in
    let h = on_shelf c.args.layout.now c.args.b (c.can_flush.ensures c.if-not-can_flush.false)
    c.deref.ensures.value c.new-shelf.ensures.rising in (
      omega arith,
      (
        c.requires,
        (
          omega (arith, c.if-b.false),
          ((xs, h.0, h.1), (omega arith, λ some. absurd (omega (arith, some)))),
        ),
      ),
    )

pub new-lifting-requires : goal.new-lifting-requires
new-lifting-requires g c =
    let h = on_shelf c.args.layout.now c.args.b (c.can_flush.ensures c.if-not-can_flush.false)
    c.deref.ensures.value c.new-shelf.ensures.rising in
    let is = c.numbers-plain.ensures c.new-shelf.result.items.items h.1 in (
      omega arith,
      (
        omega arith,
        (c.requires, (omega (arith, ap (λ (x : Numbers). x.boundary) is, c.if-b.false), tt)),
      ),
    )

pub returns-then-pending-eq0 : goal.returns-then-pending-eq0
returns-then-pending-eq0 g c =
    let xs = c.new-shelf.result.items.items in
    let h = on_shelf c.args.layout.now c.args.b (c.can_flush.ensures c.if-not-can_flush.false)
    c.deref.ensures.value c.new-shelf.ensures.rising in
    record {
      items = xs;
      divisor = ap (λ (x : PlanFrame). x.k) c.new-lifting.ensures.course;
      keeps = c.new-lifting.ensures.keeps xs xs
          (begins_plain (divisor_of c.args.layout.now) (caps_of c.args.layout.now) c.args.b xs h.0
          c.numbers-plain.result (c.numbers-plain.ensures xs h.1))
          (IsPermutation-refl xs);
      same = IsPermutation-refl xs;
      rising = c.new-shelf.ensures.rising;
    }

pub numbers-whole-requires : goal.numbers-whole-requires
numbers-whole-requires g c =
    let h = on_shelf c.args.layout.now c.args.b (c.can_flush.ensures c.if-not-can_flush.false)
    c.deref.ensures.value c.new-shelf.ensures.rising in (
      omega arith,
      (
        c.requires,
        (
          omega (arith, c.if-b.false),
          (
            (c.new-shelf.result.items.items, h.0, h.1),
            (
              omega (arith, c.if-pending.false),
              λ some. omega (arith, c.if-class.false, c.class_of-class.ensures.same),
            ),
          ),
        ),
      ),
    )

pub overflow_sub-item : goal.overflow_sub-item
overflow_sub-item g c =
    let h = on_shelf c.args.layout.now c.args.b (c.can_flush.ensures c.if-not-can_flush.false)
    c.deref.ensures.value c.new-shelf.ensures.rising in
    omega (
      arith,
      ap (λ (x : Numbers). x.reach) (c.numbers-whole.ensures c.new-shelf.result.items.items h.1),
    )

pub new-lifting-requires-2 : goal.new-lifting-requires-2
new-lifting-requires-2 g c =
    let h = on_shelf c.args.layout.now c.args.b (c.can_flush.ensures c.if-not-can_flush.false)
    c.deref.ensures.value c.new-shelf.ensures.rising in
    let is = c.numbers-whole.ensures c.new-shelf.result.items.items h.1 in (
      omega arith,
      (
        omega arith,
        (
          c.requires,
          (
            omega (arith, ap (λ (x : Numbers). x.boundary) is, c.if-b.false),
            omega (arith, c.if-class.false),
          ),
        ),
      ),
    )

pub returns : goal.returns
returns g c =
    let xs = c.new-shelf.result.items.items in
    let h = on_shelf c.args.layout.now c.args.b (c.can_flush.ensures c.if-not-can_flush.false)
    c.deref.ensures.value c.new-shelf.ensures.rising in
    let size = c.args.pending in
    let n = c.numbers-whole.result in
    let is = c.numbers-whole.ensures xs h.1 in
    let other : (i : ℕ) (it : Item) → slice_get xs i ≡ Some it → it.key ≢ 1000 =
    subst (λ (ys : List Item). (i : ℕ) (it : Item) → slice_get ys i ≡ Some it → it.key ≢ 1000)
    c.deref-else-class.ensures.value (c.lacks_key.ensures c.if-not-lacks_key.false) in
    let item : Item =
    record { key = 1000; class = c.class_of-class.result; place = n.reach - size; size = size } in
    let all = xs ++ item ∷ [] in
    let begins : Begins (divisor_of c.args.layout.now) (caps_of c.args.layout.now) n xs (Some item) =
    begins_at_reach (divisor_of c.args.layout.now) (caps_of c.args.layout.now) c.args.b xs n 1000
    c.class_of-class.result size h.0 is (omega (arith, c.if-pending-eq0.false))
    (omega (arith, c.if-pending.false)) c.class_of-class.ensures.same
    (omega (arith, c.if-class-b.false)) other in record {
      items = all;
      divisor = ap (λ (x : PlanFrame). x.k) c.new-lifting-2.ensures.course;
      keeps = c.new-lifting-2.ensures.keeps xs all begins (IsPermutation-refl all);
      same = subst (λ ys. IsPermutation ys c.new-shelf-2.result.items.items) c.push_reserved.ensures.items
          c.new-shelf-2.ensures.same;
      rising = c.new-shelf-2.ensures.rising;
    }
