use Rattle.std.proofs.Common.{arith, sym, subst, ◌<◌, ◌+◌, ◌≡◌, ℕ, List}
use Rattle.size_class.specs.Rows.{cells_of}
use Rattle.flush_model.specs.declared.item.Item.{Item}
use Rattle.flush_model.specs.Plans.{relocated}
use Rattle.flush_plan.specs.Shelves.{course_of, IsFirstOf}
use Rattle.flush_plan.specs.Lays.{KeepsLaying, Lay}
use Rattle.flush_plan.proofs.LayGoesLaws.{lay_at, lay_ends_low}
use Rattle.flush_plan.proofs.LayRowLaws.{end_low, stays_by_rows, turns_by_rows}
use Rattle.flush_plan.proofs.lay.Laying.go_on.Goals as goal

-- what is kept of the value is kept of its fields
record Kept (C : ℕ) (v : Lay) (items : List Item) (m : Item) : Type 0 where
  keeps : KeepsLaying C v items
  first : IsFirstOf items v.class v.to m
  low : v.class < C

kept : (C : ℕ) {v w : Lay} {items : List Item} (m : Item) → v ≡ w → KeepsLaying C w items
    → IsFirstOf items w.class w.to m → w.class < C → Kept C v items m
kept C {v} {w} {items} m same keeps first low =
    subst (λ u. Kept C u items m) (sym same) (record { keeps = keeps; first = first; low = low })

pub overflow_add-behind : goal.overflow_add-behind
overflow_add-behind g c =
    let h = kept g.row.C c.args.item c.self.view_is c.requires.waits.1 c.requires.waits.2 c.requires.low in
    omega (
      arith,
      lay_ends_low g.row.C _ c.requires.waits.0 h.keeps h.low c.args.item h.first,
      h.keeps.laying.packing.reaches,
      h.keeps.small.0,
    )

pub overflow_add-end : goal.overflow_add-end
overflow_add-end g c =
    let h = kept g.row.C c.args.item c.self.view_is c.requires.waits.1 c.requires.waits.2 c.requires.low in
    let end = end_low g.row.C _ c.requires.waits.0 h.keeps h.low (cells_of c.self.inside.places)
    c.self.invariant in
    omega (arith, end, c.get.ensures, c.get-2.ensures, h.keeps.laying.packing.reaches, h.keeps.small.0)

pub returns-then-behind-end-clause-keeps : goal.returns-then-behind-end-clause-keeps
returns-then-behind-end-clause-keeps g c = λ items keeps is.
    let m = c.args.item in
    let s = c.self.inside in
    let course = course_of s.k (cells_of s.caps) s.numbers s.pending in
    let h = kept g.row.C m c.self.view_is keeps is c.requires.low in
    subst (λ (v : Lay). KeepsLaying g.row.C
    (lay_at course (cells_of s.volumes) s.class (s.to + m.size) c.max-self-inside.result)
    (relocated m.key v.to items)) c.self.view_is
    (subst (λ ahead. KeepsLaying g.row.C (lay_at course (cells_of s.volumes) s.class (s.to + m.size) ahead)
    (relocated m.key s.to items)) (sym c.max-self-inside.ensures)
    (stays_by_rows g.row.C _ items h.keeps h.low (cells_of s.places) c.self.invariant m h.first
    (omega (arith, c.if-behind-end.true, c.get.ensures, c.get-2.ensures))))

pub returns-clause-keeps : goal.returns-clause-keeps
returns-clause-keeps g c = λ items keeps is.
    let s = c.self.inside in
    let found = c.next_segment-class in
    let h = kept g.row.C c.args.item c.self.view_is keeps is c.requires.low in
    subst (λ (v : Lay). KeepsLaying g.row.C (lay_at (course_of s.k (cells_of s.caps) s.numbers s.pending)
    (cells_of s.volumes) found.result.0 found.result.1 s.numbers.wall)
    (relocated c.args.item.key v.to items)) c.self.view_is
    (turns_by_rows g.row.C _ items h.keeps h.low (cells_of s.places) c.self.invariant c.args.item h.first
    (omega (arith, c.if-behind-end.false, c.get.ensures, c.get-2.ensures)) found.result.0 found.ensures.class
    found.result.1 found.ensures.place)
