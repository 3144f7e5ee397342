use Rattle.std.proofs.Common.{arith, sym, inl, inr, ap, ◌∙◌, length, List, [], ℕ}
use Rattle.std.specs.Prelude.{slice_index}
use Rattle.std.proofs.lemmas.Bool.{cases_Bool, cases_lt, false≢true}
use Rattle.std.proofs.lemmas.List.{get_or_past}
use Rattle.segment_layout.specs.Shapes.{is_boundary}
use Rattle.segment_layout.proofs.ShapeLaws.{boundary_means, boundary_from}
use Rattle.plain_layout.proofs.book.Book.is_boundary.Goals as goal

pub returns-then-not-has_none_below : goal.returns-then-not-has_none_below
returns-then-not-has_none_below c =
    let used = c.args.self.now.used in
    elim (cases_Bool (is_boundary used c.args.b)) [
      | inl is ↦ absurd (false≢true (sym c.if-not-has_none_below.true
          ∙ c.has_none_below.ensures.1 (λ d h. boundary_means c.args.b used is c.rows.j d (omega arith) h)))
      | inr other ↦ sym other
    ]

pub returns : goal.returns
returns c =
    let used = c.args.self.now.used in
    sym (boundary_from c.args.b used (λ j d high low.
    elim (cases_lt j (length used)) [
      | inl h ↦ c.rows.invariant j d high (omega arith) low
      | inr h ↦ ap (λ (xs : List ℕ). slice_index xs d) (get_or_past used j [] h)
    ]))
